-- What a move that is not refused may count on, and what it answers.
-- Assumes nothing.
use Prim.Native.Nat.{ℕ, ◌≤◌, ◌<◌}
use mathlib.Core.Path.{◌≡◌}
use mathlib.Core.Bool.{false}
use native.Mathlib.Omega.{arith}
use lib.Dec.{ltb, leb, eqb}
use borrow.Author.Tests.{ne_eqb, le-ltb, lt-leb, eqb-false, ltb-false, leb-false}
use Rattle.base.specs.Answer.{done}
use Rattle.base.proofs.Tests.{neither, positive}
use Rattle.cursor.specs.declared.RingCursor.{RingCursor}
use Rattle.cursor.specs.Cursor.{steps, bad_move, values_of, outcome, advance_of}

-- refusal 7's conditions, none of which holds
pub record Ready (size n : ℕ) (c : RingCursor) : Type 0 where
  pub low : 0 < size
  pub high : size ≤ 32768
  pub head : c.head < size
  pub move : n ≤ size

pub ready : (size n : ℕ) (c : RingCursor) → bad_move size n c ≡ false → Ready size n c
unfolding bad_move
ready size n c e =
    let a = neither (eqb size 0) _ e in
    let b = neither (ltb 32768 size) _ a.1 in
    let d = neither (leb size c.head) _ b.1 in
    record {
      low = positive (eqb-false size 0 a.0);
      high = ltb-false 32768 size b.0;
      head = leb-false size c.head d.0;
      move = ltb-false size n d.1;
    }

pub ready_not_bad : (size n : ℕ) (c : RingCursor) → Ready size n c → bad_move size n c ≡ false
unfolding bad_move
ready_not_bad size n c r =
    simp (ne_eqb size 0 (λ e. omega arith), le-ltb 32768 size r.high, lt-leb size c.head r.head, le-ltb size n r.move)

-- a move that is not refused is its steps
pub advance_ready :
    (size n : ℕ) (c : RingCursor) → Ready size n c
    → advance_of size n c ≡ outcome (done (values_of (steps size n c))) (steps size n c)
unfolding advance_of
advance_ready size n c r = simp (ready_not_bad size n c r)
