-- Each public contract of the crate determines what its function answers.
use Rattle.base.specs.Determined.{Determined}
use Rattle.base.proofs.Determine.{by_equation, by_answer}
use Rattle.window.specs.Window.{answer_of}
use Rattle.window.proofs.Laws.{answer_same}
use Rattle.window.proofs.Window.new.Reads as new
use Rattle.window.proofs.Window.slot.Reads as slot
use Rattle.window.proofs.slot_of.Reads as slot_of
use Rattle.window.proofs.slot_at.Reads as slot_at

-- the reference that a window keeps is fixed too, not its bytes alone
pub new_fixed : Determined new.Post (λ r s. r)
new_fixed = by_equation _ _ _ (λ κ a r s p. p)

pub slot_fixed : Determined slot.Post (λ r s. r)
slot_fixed = by_answer _ _ answer_of answer_same _ (λ κ a r s p. p)

pub slot_of_fixed : Determined slot_of.Post (λ r s. r)
slot_of_fixed = by_answer _ _ answer_of answer_same _ (λ κ a r s p. p)

pub slot_at_fixed : Determined slot_at.Post (λ r s. r)
slot_at_fixed = by_answer _ _ answer_of answer_same _ (λ κ a r s p. p)
