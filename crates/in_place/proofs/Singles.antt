-- Single steps in place are a move in place: "Moving by n, at most the ring size, equals n single steps" (document 01), said of
-- calls and not of one definition.
-- Assumes nothing.
use Prim.Native.Nat.{ℕ, ◌≤◌, ◌<◌}
use mathlib.Core.Path.{◌≡◌, sym, subst, ap, ◌∙◌}
use mathlib.Core.List.{List, [], ◌∷◌}
use mathlib.Core.Bool.{true, false}
use native.Mathlib.Omega.{arith}
use lib.ListN.{length}
use Rattle.std.specs.Prelude.{Result, Ok, ⊤}
use Rattle.base.specs.declared.RingError.{RingError}
use Rattle.base.specs.Answer.{done}
use Rattle.cursor.specs.declared.RingCursor.{RingCursor}
use Rattle.cursor.specs.Cursor.{at, step, steps, values_of, Outcome, outcome, advance_of}
use Rattle.cursor.proofs.Laws.{step_on, step_last, steps_add, steps_none, steps_one, step_below}
use Rattle.cursor.proofs.Ready.{Ready, advance_ready}
use Rattle.in_place.specs.InPlace.{outcome_of}

-- calls of `advance` on one cursor that came as c, each as its contract has it: their results, and the cursors that they left
abbrev pub Calls : ℕ → RingCursor → List (Result ⊤ RingError × RingCursor) → Type 0
Calls size c [] = Unit {0}
Calls size c (x ∷ xs) = (outcome_of x.0 x.1 ≡ advance_of size 1 c) × Calls size x.1 xs

-- the cursor that the last of them left
abbrev pub left_by : RingCursor → List (Result ⊤ RingError × RingCursor) → RingCursor
left_by c [] = c
left_by c (x ∷ xs) = left_by x.1 xs

single : (size : ℕ) (c : RingCursor) (x : Result ⊤ RingError × RingCursor) → Ready size 1 c → outcome_of x.0 x.1 ≡ advance_of size 1 c → x.1 ≡ step size c
single size c x r e = ap (λ (o : Outcome). o.cursor) (e ∙ advance_ready size 1 c r) ∙ steps_one size c

left_by_steps : (size : ℕ) (c : RingCursor) (xs : List (Result ⊤ RingError × RingCursor)) → 0 < size → size ≤ 32768 → c.head < size → Calls size c xs → left_by c xs ≡ steps size (length xs) c
left_by_steps size c [] low high h p = sym (steps_none size c)
left_by_steps size c (x ∷ xs) low high h p =
    let s = single size c x (record { low = low; high = high; head = h; move = omega arith }) p.0 in
    left_by_steps size x.1 xs low high (subst (λ (d : RingCursor). d.head < size) (sym s) (step_below size c low)) p.1
    ∙ ap (steps size (length xs)) (s ∙ sym (steps_one size c))
    ∙ sym (steps_add size 1 (length xs) c)
    ∙ ap (λ (n : ℕ). steps size n c) (omega arith)

-- success and a cursor that is so many steps on are a move that is not refused
told : (size n : ℕ) (c d : RingCursor) → Ready size n c → d ≡ steps size n c → outcome_of (Ok tt) d ≡ advance_of size n c
told size n c d r e =
    ap (λ (x : RingCursor). outcome (done (values_of x)) x) e
    ∙ sym (advance_ready size n c r)

-- as many calls of `advance` as n leave what one call of `advance_by` leaves, and it is success
pub singles : (size : ℕ) (c : RingCursor) (xs : List (Result ⊤ RingError × RingCursor)) → Ready size (length xs) c → Calls size c xs → outcome_of (Ok tt) (left_by c xs) ≡ advance_of size (length xs) c
singles size c xs r p = told size (length xs) c (left_by c xs) r (left_by_steps size c xs r.low r.high r.head p)

-- D6 in place, "size 8, (6, true) moved by 3: (1, false)": values that meet the premises
abbrev pub three : List (Result ⊤ RingError × RingCursor)
three = (Ok tt, at 7 true) ∷ (Ok tt, at 0 false) ∷ (Ok tt, at 1 false) ∷ []

of_eight : (n : ℕ) (c : RingCursor) → c.head < 8 → n ≤ 8 → Ready 8 n c
of_eight n c h m = record { low = omega arith; high = omega arith; head = h; move = m }

one : (c d : RingCursor) → c.head < 8 → step 8 c ≡ d → outcome_of (Ok tt) d ≡ advance_of 8 1 c
one c d h e = told 8 1 c d (of_eight 1 c h (omega arith)) (sym e ∙ sym (steps_one 8 c))

pub three_calls : Calls 8 (at 6 true) three
three_calls = (
  one (at 6 true) (at 7 true) (omega arith) (step_on 8 (at 6 true) (omega arith)),
  (
    one (at 7 true) (at 0 false) (omega arith) (step_last 8 (at 7 true) (omega arith)),
    (one (at 0 false) (at 1 false) (omega arith) (step_on 8 (at 0 false) (omega arith)), tt),
  ),
)

pub three_singles : outcome_of (Ok tt) (at 1 false) ≡ advance_of 8 3 (at 6 true)
three_singles = singles 8 (at 6 true) three (of_eight 3 (at 6 true) (omega arith) (omega arith)) three_calls
