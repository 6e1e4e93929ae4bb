-- `cursor::RingCursor::divided` meets its contract: the sum is less than twice the size, so it wraps once or not at all.
-- Assumes nothing.
use Prim.Native.Nat.{ℕ, ◌+◌, ◌-◌, ◌*◌, ◌/◌, ◌%◌, ◌≤◌, ◌<◌}
use mathlib.Core.Path.{◌≡◌, sym, ap, ◌∙◌}
use mathlib.Core.Bool.{not}
use native.Mathlib.Omega.{arith}
use lib.Arith.{digits_div, digits_mod}
use Rattle.base.proofs.Tests.{by_lt}
use Rattle.cursor.specs.Cursor.{at}
use Rattle.cursor.proofs.Laws.{steps_within, steps_past}
use Rattle.cursor.proofs.Ready.{Ready, ready}
use Rattle.cursor.proofs.RingCursor.divided.Goals as goal
use Rattle.cursor.proofs.RingCursor.divided.Goals.{Start}

known : (c : Start) → let a = c.args in Ready a.size a.n a.self
known c = let a = c.args in ready a.size a.n a.self c.requires

-- a sum below the size, and one that is less than twice the size
within : {x m : ℕ} → x < m → (x / m ≡ 0) × (x % m ≡ x)
within {x} {m} l =
    let e : x ≡ 0 * m + x = omega arith in
    (ap (λ (n : ℕ). n / m) e ∙ digits_div 0 l, ap (λ (n : ℕ). n % m) e ∙ digits_mod 0 l)

past : {x m : ℕ} → m ≤ x → x < 2 * m → (x / m ≡ 1) × (x % m ≡ x - m)
past {x} {m} l h =
    let e : x ≡ 1 * m + (x - m) = omega arith in
    let b : x - m < m = omega arith in
    (ap (λ (n : ℕ). n / m) e ∙ digits_div 1 b, ap (λ (n : ℕ). n % m) e ∙ digits_mod 1 b)

odd : {q : ℕ} → q ≡ 1 → q % 2 ≡ 0 → ⊥
odd e h = omega arith

even : {q : ℕ} → q ≡ 0 → (q % 2 ≡ 0 → ⊥) → ⊥
even e h = omega arith

pub overflow_add-new : goal.overflow_add-new
overflow_add-new c = omega (arith, known (goal.at.overflow_add-new c).Start)

pub nonzero_div-wraps : goal.nonzero_div-wraps
nonzero_div-wraps c = omega (arith, known (goal.at.nonzero_div-wraps c).Start)

pub nonzero_rem-result : goal.nonzero_rem-result
nonzero_rem-result c = omega (arith, known (goal.at.nonzero_rem-result c).Start)

pub returns-then-wraps-eq0 : goal.returns-then-wraps-eq0
returns-then-wraps-eq0 c =
    let a = c.args in
    let k = known (goal.at.returns-then-wraps-eq0 c).Start in
    let new : ℕ = a.self.head + a.n in
    by_lt new a.size
    (λ l. ap (λ (x : ℕ). at x a.self.wrap) (within l).1 ∙ sym (steps_within a.size a.n a.self l))
    (λ l. absurd (odd (past l (omega arith)).0 c.if-wraps-eq0.true))

pub returns : goal.returns
returns c =
    let a = c.args in
    let k = known (goal.at.returns c).Start in
    let new : ℕ = a.self.head + a.n in
    by_lt new a.size
    (λ l. absurd (even (within l).0 c.if-wraps-eq0.false))
    (λ l.
    ap (λ (x : ℕ). at x (not a.self.wrap)) (past l (omega arith)).1
    ∙ sym (steps_past a.size a.n a.self k.head k.move l))
