-- Each public contract of the crate determines what its function answers and leaves.
-- Assumes nothing.
use Rattle.std.proofs.Common.{◌≡◌, ℕ, List, get_or, ap}
use Rattle.base.specs.Determined.{Determined, both}
use Rattle.base.proofs.Determine.{by_equation, by_answer}
use Rattle.base.specs.declared.RingError.{RingError}
use Rattle.base.proofs.Refusals.{result_same}
use Rattle.std.specs.Prelude.{Result, ◌∷◌, []}
use Rattle.undo.specs.Undo.{Outcome, outcome, answer_of}
use Rattle.undo.proofs.sum.Reads as sum
use Rattle.undo.proofs.clear.Reads as clear

-- a sum is told by its answer
pub summed_same : (x y : Result ℕ RingError) → answer_of x ≡ answer_of y → x ≡ y
summed_same = result_same (λ n. n ∷ []) (λ m n h i. get_or (h i) 0 0)

-- what is seen of it: its result, and the table that it leaves
abbrev pub summed_seen : Result ℕ RingError × List ℕ → Outcome
summed_seen x = outcome (answer_of x.0) x.1

pub summed_all : (x y : Result ℕ RingError × List ℕ) → summed_seen x ≡ summed_seen y → x ≡ y
summed_all x y h i = (summed_same x.0 y.0 (ap (λ (o : Outcome). o.answer) h) i, (h i).counts)

pub sum_fixed : Determined sum.Post (λ r s. both r s.0.now)
sum_fixed = by_answer _ _ summed_seen summed_all _ (λ κ a r s p. p)

pub clear_fixed : Determined clear.Post (λ r s. s.0.now)
clear_fixed = by_equation _ _ _ (λ κ a r s p. p)
