-- Each public contract of the crate determines what its function answers and leaves.
use mathlib.Core.Path.{◌≡◌, ap}
use Rattle.std.specs.Prelude.{Result, ⊤}
use Rattle.base.specs.declared.RingError.{RingError}
use Rattle.base.specs.Determined.{Determined, both}
use Rattle.base.proofs.Determine.{by_answer}
use Rattle.cursor.specs.declared.RingCursor.{RingCursor}
use Rattle.cursor.specs.Cursor.{Outcome}
use Rattle.in_place.specs.InPlace.{outcome_of}
use Rattle.in_place.proofs.Laws.{outcome_same}
use Rattle.in_place.proofs.advance_own.Reads as advance_own
use Rattle.in_place.proofs.advance.Reads as advance
use Rattle.in_place.proofs.advance_by.Reads as advance_by

abbrev seen : Result ⊤ RingError × RingCursor → Outcome
seen x = outcome_of x.0 x.1

-- where the cursor comes first
own_same : (x y : RingCursor × Result ⊤ RingError) → outcome_of x.1 x.0 ≡ outcome_of y.1 y.0 → x ≡ y
own_same x y h = ap (λ (z : Result ⊤ RingError × RingCursor). (z.1, z.0)) (outcome_same (x.1, x.0) (y.1, y.0) h)

pub advance_own_fixed : Determined advance_own.Post (λ r s. r)
advance_own_fixed = by_answer _ _ (λ (x : RingCursor × Result ⊤ RingError). outcome_of x.1 x.0) own_same _ (λ κ a r s p. p)

pub advance_fixed : Determined advance.Post (λ r s. both r s.0.now)
advance_fixed = by_answer _ _ seen outcome_same _ (λ κ a r s p. p)

pub advance_by_fixed : Determined advance_by.Post (λ r s. both r s.0.now)
advance_by_fixed = by_answer _ _ seen outcome_same _ (λ κ a r s p. p)
