-- What a result tells beside a cursor.
-- Assumes nothing.
use mathlib.Core.Path.{◌≡◌, refl, sym, ap, ◌∙◌}
use Rattle.std.specs.Prelude.{Result, ⊤}
use Rattle.base.specs.declared.RingError.{RingError}
use Rattle.base.proofs.Refusals.{result_same}
use Rattle.cursor.specs.declared.RingCursor.{RingCursor}
use Rattle.cursor.specs.Cursor.{values_of, Outcome}
use Rattle.in_place.specs.InPlace.{told_by, outcome_of}

-- an outcome tells the result and the cursor that it was made of
pub outcome_same :
    (x y : Result ⊤ RingError × RingCursor) → outcome_of x.0 x.1 ≡ outcome_of y.0 y.1 → x ≡ y
outcome_same x y h =
    let c : x.1 ≡ y.1 = ap (λ (o : Outcome). o.cursor) h in
    let a : told_by x.0 x.1 ≡ told_by y.0 x.1 =
    ap (λ (o : Outcome). o.answer) h ∙ ap (told_by y.0) (sym c) in
    λ i. (result_same (λ u. values_of x.1) (λ u v e. refl) x.0 y.0 a i, c i)
