-- Each public contract of the crate determines what its function answers.
use Rattle.std.proofs.Common.{◌≡◌, Bool, [], ◌∷◌, get_or, ℕ, List, ap}
use Rattle.std.specs.Prelude.{Result}
use Rattle.base.specs.declared.RingError.{RingError}
use Rattle.base.specs.Answer.{bit}
use Rattle.base.specs.Determined.{Determined}
use Rattle.base.proofs.Determine.{by_equation, by_answer}
use Rattle.base.proofs.Refusals.{result_same, bit_same}
use Rattle.notify.specs.Notify.{answer_of}
use Rattle.notify.proofs.ring_need_event.Reads as ring_need_event
use Rattle.notify.proofs.should_notify.Reads as should_notify
use Rattle.notify.proofs.decide.Reads as decide

-- a yes or no is told by its value, and no refusal has number 0
pub answer_same : (x y : Result Bool RingError) → answer_of x ≡ answer_of y → x ≡ y
answer_same x y h =
    result_same (λ b. bit b ∷ []) (λ b d e. bit_same b d (ap (λ (l : List ℕ). get_or l 0 0) e)) x y h

pub ring_need_event_fixed : Determined ring_need_event.Post (λ r s. r)
ring_need_event_fixed = by_equation _ _ _ (λ κ a r s p. p)

pub should_notify_fixed : Determined should_notify.Post (λ r s. r)
should_notify_fixed = by_answer _ _ answer_of answer_same _ (λ κ a r s p. p)

pub decide_fixed : Determined decide.Post (λ r s. r)
decide_fixed = by_equation _ _ _ (λ κ a r s p. p)
