-- `base::RingError::numbered` meets its contract: each arm by the number that it names.
-- Assumes nothing.
use Prim.Native.Nat.{ℕ, ◌<◌, ◌≤◌}
use mathlib.Core.Path.{◌≡◌}
use native.Mathlib.Omega.{arith}
use borrow.Author.Tests.{lt-ltb, le-ltb}
use Rattle.base.specs.Refusals.{listed}
use Rattle.base.proofs.Tests.{by_lt}
use Rattle.base.proofs.RingError.numbered.Goals as goal

-- a number below 9 that is none of the table's is 0, in two steps
fewer : {n : ℕ} → (n ≡ 5 → ⊥) → (n ≡ 6 → ⊥) → (n ≡ 7 → ⊥) → (n ≡ 8 → ⊥) → n < 9 → n < 5
fewer a b d e l = omega arith

none : {n : ℕ} → (n ≡ 1 → ⊥) → (n ≡ 2 → ⊥) → (n ≡ 3 → ⊥) → (n ≡ 4 → ⊥) → n < 5 → n ≤ 0
none a b d e l = omega arith

pub returns-in-1 : goal.returns-in-1
unfolding listed
returns-in-1 c = simp c.in-1.is

pub returns-in-2 : goal.returns-in-2
unfolding listed
returns-in-2 c = simp c.in-2.is

pub returns-in-3 : goal.returns-in-3
unfolding listed
returns-in-3 c = simp c.in-3.is

pub returns-in-4 : goal.returns-in-4
unfolding listed
returns-in-4 c = simp c.in-4.is

pub returns-in-5 : goal.returns-in-5
unfolding listed
returns-in-5 c = simp c.in-5.is

pub returns-in-6 : goal.returns-in-6
unfolding listed
returns-in-6 c = simp c.in-6.is

pub returns-in-7 : goal.returns-in-7
unfolding listed
returns-in-7 c = simp c.in-7.is

pub returns-in-8 : goal.returns-in-8
unfolding listed
returns-in-8 c = simp c.in-8.is

pub returns-in_default : goal.returns-in_default
unfolding listed
returns-in_default c =
    let n : ℕ = c.args.number in
    by_lt n 9
    (λ l. simp (le-ltb 0 n (omega arith)))
    (λ l. simp (lt-ltb 0 n (omega arith), le-ltb n 9 l))
