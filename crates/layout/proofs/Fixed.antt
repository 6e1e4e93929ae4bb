-- Each public contract of the crate determines what its function answers.
use mathlib.Core.Path.{◌≡◌, refl, ap}
use native.Mathlib.Omega.{arith}
use lib.ListN.{get_or}
use Rattle.base.specs.Determined.{Determined}
use Rattle.base.specs.Answer.{refusal}
use Rattle.base.proofs.Determine.{by_equation, by_answer}
use Rattle.base.specs.declared.RingError.{RingError}
use Rattle.base.proofs.Refusals.{number_low, number_same, result_same}
use Rattle.std.specs.Prelude.{Result, Ok, Err, ⊤}
use Rattle.layout.specs.declared.Layout.{Layout}
use Rattle.layout.specs.Layout.{layout, values_of, answer_of}
use Rattle.layout.proofs.Layout.new.Reads as new
use Rattle.layout.proofs.Layout.check.Reads as check
use Rattle.layout.proofs.Layout.is_bad.Reads as is_bad
use Rattle.layout.proofs.Layout.is_outside.Reads as is_outside

-- a layout's values tell it
answer_same : (x y : Result Layout RingError) → answer_of x ≡ answer_of y → x ≡ y
answer_same = result_same values_of known
  where
    known : (l m : Layout) → values_of l ≡ values_of m → l ≡ m
    known l m h = λ i. layout (get_or (h i) 0 0) (get_or (h i) 1 0) (get_or (h i) 2 0) (get_or (h i) 3 0)

-- no refusal's number is 0, and it tells the refusal
refusal_same : (x y : Result ⊤ RingError) → refusal x ≡ refusal y → x ≡ y
refusal_same (Ok u) (Ok v) h = refl
refusal_same (Ok u) (Err e) h = absurd (omega (arith, h, number_low e))
refusal_same (Err d) (Ok v) h = absurd (omega (arith, h, number_low d))
refusal_same (Err d) (Err e) h = ap Err (number_same d e h)

pub new_fixed : Determined new.Post (λ r s. r)
new_fixed = by_answer _ _ answer_of answer_same _ (λ κ a r s p. p)

pub check_fixed : Determined check.Post (λ r s. r)
check_fixed = by_answer _ _ refusal refusal_same _ (λ κ a r s p. p)

pub is_bad_fixed : Determined is_bad.Post (λ r s. r)
is_bad_fixed = by_equation _ _ _ (λ κ a r s p. p)

pub is_outside_fixed : Determined is_outside.Post (λ r s. r)
is_outside_fixed = by_equation _ _ _ (λ κ a r s p. p)
