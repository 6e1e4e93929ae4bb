-- Each public contract of the crate determines what its function answers.
use mathlib.Core.Path.{◌≡◌, refl, sym, ap, ◌∙◌}
use Rattle.std.specs.Prelude.{Result, ⊤}
use Rattle.base.specs.Determined.{Determined}
use Rattle.base.proofs.Determine.{by_equation, by_answer}
use Rattle.base.specs.declared.RingError.{RingError}
use Rattle.base.proofs.Refusals.{result_same}
use Rattle.cursor.specs.declared.RingCursor.{RingCursor}
use Rattle.cursor.specs.Cursor.{Outcome, outcome, values_of, answer_of}
use Rattle.cursor.proofs.RingCursor.new.Reads as new
use Rattle.cursor.proofs.RingCursor.advance.Reads as advance
use Rattle.cursor.proofs.RingCursor.advance_by.Reads as advance_by
use Rattle.cursor.proofs.RingCursor.stepped.Reads as stepped
use Rattle.cursor.proofs.RingCursor.moved.Reads as moved
use Rattle.cursor.proofs.RingCursor.head.Reads as head
use Rattle.cursor.proofs.RingCursor.wrap.Reads as wrap
use Rattle.cursor.proofs.RingCursor.reset.Reads as reset

abbrev seen : RingCursor × Result ⊤ RingError → Outcome
seen x = outcome (answer_of x) x.0

-- an answer and its cursor tell which case it was
answer_same : (c : RingCursor) (x y : Result ⊤ RingError) → answer_of (c, x) ≡ answer_of (c, y) → x ≡ y
answer_same c x y h = result_same (λ u. values_of c) (λ u v e. refl) x y h

seen_same : (x y : RingCursor × Result ⊤ RingError) → seen x ≡ seen y → x ≡ y
seen_same x y h =
    let c : x.0 ≡ y.0 = ap (λ (o : Outcome). o.cursor) h in
    let a : answer_of (x.0, x.1) ≡ answer_of (x.0, y.1) =
    ap (λ (o : Outcome). o.answer) h ∙ ap (λ (d : RingCursor). answer_of (d, y.1)) (sym c) in
    λ i. (c i, answer_same x.0 x.1 y.1 a i)

pub new_fixed : Determined new.Post (λ r s. r)
new_fixed = by_equation _ _ _ (λ κ a r s p. p)

pub advance_fixed : Determined advance.Post (λ r s. r)
advance_fixed = by_answer _ _ seen seen_same _ (λ κ a r s p. p)

pub advance_by_fixed : Determined advance_by.Post (λ r s. r)
advance_by_fixed = by_answer _ _ seen seen_same _ (λ κ a r s p. p)

pub stepped_fixed : Determined stepped.Post (λ r s. r)
stepped_fixed = by_equation _ _ _ (λ κ a r s p. p)

pub moved_fixed : Determined moved.Post (λ r s. r)
moved_fixed = by_equation _ _ _ (λ κ a r s p. p)

pub head_fixed : Determined head.Post (λ r s. r)
head_fixed = by_equation _ _ _ (λ κ a r s p. p)

pub wrap_fixed : Determined wrap.Post (λ r s. r)
wrap_fixed = by_equation _ _ _ (λ κ a r s p. p)

pub reset_fixed : Determined reset.Post (λ r s. r)
reset_fixed = by_equation _ _ _ (λ κ a r s p. p)
