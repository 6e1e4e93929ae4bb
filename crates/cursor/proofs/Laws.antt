-- The facts about a cursor, once for every size.
-- Assumes nothing.
use Prim.Native.Nat.{ℕ, zero, suc, ◌+◌, ◌-◌, ◌*◌, ◌≤◌, ◌<◌}
use mathlib.Core.Path.{◌≡◌, refl, sym, ◌∙◌, ap}
use mathlib.Core.Bool.{Bool, true, false, not}
use native.Mathlib.Omega.{arith}
use Rattle.std.proofs.Math.Bool.{not-not}
use Rattle.std.proofs.lemmas.Bool.{true≢false}
use native.Mathlib.Nat.{add-zero, zero-add, suc-add}
use borrow.Author.Tests.{lt-ltb, le-ltb}
use Rattle.base.proofs.Tests.{by_lt}
use Rattle.cursor.specs.declared.RingCursor.{RingCursor}
use Rattle.cursor.specs.Cursor.{at, step, steps}

pub step_on : (size : ℕ) (c : RingCursor) → c.head + 1 < size → step size c ≡ at (c.head + 1) c.wrap
unfolding step
step_on size c h = simp (lt-ltb _ _ h)

-- the wrap flips when the head lands on 0: the last slot's step is not past the end, it reaches it
pub step_last : (size : ℕ) (c : RingCursor) → size ≤ c.head + 1 → step size c ≡ at 0 (not c.wrap)
unfolding step
step_last size c h = simp (le-ltb _ _ h)

-- moves add up: by a, then by b, is by a + b
pub steps_add : (size a b : ℕ) (c : RingCursor) → steps size (a + b) c ≡ steps size b (steps size a c)
unfolding steps
steps_add size zero b c = ap (λ (n : ℕ). steps size n c) (zero-add b)
steps_add size (suc a) b c = ap (λ (n : ℕ). steps size n c) (suc-add a b) ∙ steps_add size a b (step size c)

-- the head stays below the size
pub step_below : (size : ℕ) (c : RingCursor) → 0 < size → (step size c).head < size
step_below size c h =
    by_lt (c.head + 1) size (λ l. rw (step_on size c l) l) (λ l. rw (step_last size c l) h)

pub steps_below : (size n : ℕ) (c : RingCursor) → c.head < size → (steps size n c).head < size
unfolding steps
steps_below size zero c h = h
steps_below size (suc n) c h = steps_below size n (step size c) (step_below size c (omega arith))

pub steps_none : (size : ℕ) (c : RingCursor) → steps size 0 c ≡ c
unfolding steps
steps_none size c = refl

pub steps_one : (size : ℕ) (c : RingCursor) → steps size 1 c ≡ step size c
unfolding steps
steps_one size c = refl

-- the closed form: short of the end the head is n on, at the end or past it the size is taken off and the wrap flips
pub steps_within : (size n : ℕ) (c : RingCursor) → c.head + n < size → steps size n c ≡ at (c.head + n) c.wrap
unfolding steps
steps_within size zero c h = ap (λ (x : ℕ). at x c.wrap) (sym (add-zero c.head))
steps_within size (suc n) c h =
    let l : c.head + 1 < size = omega arith in
    rw (step_on size c l)
    (steps_within size n (at (c.head + 1) c.wrap) (omega arith)
    ∙ ap (λ (x : ℕ). at x c.wrap) (omega arith))

pub steps_past :
    (size n : ℕ) (c : RingCursor) → c.head < size → n ≤ size → size ≤ c.head + n
    → steps size n c ≡ at (c.head + n - size) (not c.wrap)
unfolding steps
steps_past size zero c b m h = absurd (omega arith)
steps_past size (suc n) c b m h =
    by_lt (c.head + 1) size
    (λ l. rw (step_on size c l)
    (steps_past size n (at (c.head + 1) c.wrap) l (omega arith) (omega arith)
    ∙ ap (λ (x : ℕ). at x (not c.wrap)) (omega arith)))
    (λ l. rw (step_last size c l)
    (steps_within size n (at 0 (not c.wrap)) (omega arith)
    ∙ ap (λ (x : ℕ). at x (not c.wrap)) (omega arith)))

-- landing exactly on slot 0 already is the next round
pub lands : (size n : ℕ) (c : RingCursor) → c.head < size → c.head + n ≡ size → steps size n c ≡ at 0 (not c.wrap)
lands size n c b e =
    steps_past size n c b (omega arith) (omega arith)
    ∙ ap (λ (x : ℕ). at x (not c.wrap)) (omega arith)

not_same : (b : Bool) → not b ≡ b → ⊥
not_same true e = true≢false (sym e)
not_same false e = true≢false e

-- once round: the same slot in the other round
pub steps_round : (size : ℕ) (c : RingCursor) → c.head < size → steps size size c ≡ at c.head (not c.wrap)
steps_round size c b =
    steps_past size size c b (omega arith) (omega arith)
    ∙ ap (λ (x : ℕ). at x (not c.wrap)) (omega arith)

-- 2 times size steps come back to the start
pub steps_twice : (size : ℕ) (c : RingCursor) → c.head < size → steps size (2 * size) c ≡ c
steps_twice size c b =
    ap (λ (n : ℕ). steps size n c) (omega arith)
    ∙ steps_add size size size c
    ∙ ap (steps size size) (steps_round size c b)
    ∙ steps_round size (at c.head (not c.wrap)) b
    ∙ ap (at c.head) (not-not c.wrap)

-- and no fewer do
short_move : (size n : ℕ) (c : RingCursor) (w : Bool) → c.head < size → 0 < n → n < size → (steps size n (at c.head w)).head ≡ c.head → ⊥
short_move size n c w b z h e =
    by_lt (c.head + n) size
    (λ l. omega (arith, sym e ∙ ap (λ (d : RingCursor). d.head) (steps_within size n (at c.head w) l)))
    (λ l. omega (arith, sym e ∙ ap (λ (d : RingCursor). d.head) (steps_past size n (at c.head w) b (omega arith) l)))

pub steps_fewer : (size n : ℕ) (c : RingCursor) → c.head < size → 0 < n → n < 2 * size → steps size n c ≡ c → ⊥
steps_fewer size n c b z h e =
    by_lt n size
    (λ l. short_move size n c c.wrap b z l (ap (λ (d : RingCursor). d.head) e))
    (λ l.
    let k : ℕ = n - size in
    let f : steps size k (at c.head (not c.wrap)) ≡ c =
    ap (steps size k) (sym (steps_round size c b)) ∙ sym (steps_add size size k c)
    ∙ ap (λ (m : ℕ). steps size m c) (omega arith) ∙ e in
    by_lt 0 k
    (λ p. short_move size k c (not c.wrap) b p (omega arith) (ap (λ (d : RingCursor). d.head) f))
    (λ p. not_same c.wrap (ap (λ (d : RingCursor). d.wrap)
    (sym (ap (λ (m : ℕ). steps size m (at c.head (not c.wrap))) (zero_is k p) ∙ steps_none size (at c.head (not c.wrap))) ∙ f))))
  where
    zero_is : (k : ℕ) → k ≤ 0 → k ≡ 0
    zero_is k p = omega arith

-- two positions less than the size apart have different heads
pub heads_apart :
    (size i j : ℕ) (c : RingCursor) → c.head < size → i < j → j < i + size
    → (steps size i c).head ≡ (steps size j c).head → ⊥
heads_apart size i j c b l h e =
    let d : RingCursor = steps size i c in
    let m : steps size j c ≡ steps size (j - i) d = ap (λ (n : ℕ). steps size n c) (omega arith) ∙ steps_add size i (j - i) c in
    short_move size (j - i) d d.wrap (steps_below size i c b) (omega arith) (omega arith)
    (sym (e ∙ ap (λ (x : RingCursor). x.head) m))
