-- Refusals as a ladder of tests, the first that holds giving the number.
-- Assumes nothing.
use Prim.Native.Nat.{ℕ, ◌<◌}
use mathlib.Core.Path.{◌≡◌, refl, sym, ap, ◌∙◌}
use mathlib.Core.Bool.{Bool, true, false, cond}
use native.Mathlib.Omega.{arith}
use Rattle.base.specs.Refusals.{listed}
use Rattle.base.proofs.Refusals.{listed_in}
use Rattle.base.proofs.Tests.{positive, chosen}

-- a rung: where the whole is 0, its test failed and the rest is 0
pub passed : (b : Bool) (x y : ℕ) → 0 < x → cond b x y ≡ 0 → (b ≡ false) × (y ≡ 0)
passed true x y h e = absurd (omega arith)
passed false x y h e = (refl, e)

-- the first two rungs of a call's ladder, the record's 7 and what is lent's 8: where the whole is 0, both tests failed and the rest is 0
pub both_passed : (bad short : Bool) (rest : ℕ) → cond bad 7 (cond short 8 rest) ≡ 0 → (bad ≡ false) × ((short ≡ false) × (rest ≡ 0))
both_passed bad short rest e =
    let e₁ = passed bad 7 (cond short 8 rest) (omega arith) e in
    (e₁.0, passed short 8 rest (omega arith) e₁.1)

-- one of two numbers is below what both are below
pub cond_lt : (b : Bool) (x y : ℕ) {m : ℕ} → x < m → y < m → cond b x y < m
cond_lt b x y {m} p q = chosen (λ (n : ℕ). n < m) b x y p q

pub both_below : (bad short : Bool) (rest : ℕ) → rest < 9 → cond bad 7 (cond short 8 rest) < 9
both_below bad short rest h = cond_lt bad 7 _ (omega arith) (cond_lt short 8 rest (omega arith) h)

-- a ladder up to its rest: where nothing stops it, it gives the rest, and where something does, the rest does not count
pub record Rungs (f : ℕ → ℕ) : Type 0 where
  pub passes : (rest : ℕ) → f 0 ≡ 0 → f rest ≡ rest
  pub stops : (rest : ℕ) → (f 0 ≡ 0 → ⊥) → f rest ≡ f 0

pub no_rung : Rungs (λ (rest : ℕ). rest)
no_rung = record { passes = λ rest e. refl; stops = λ rest z. absurd (z refl) }

pub rung : (b : Bool) (x : ℕ) (f : ℕ → ℕ) → 0 < x → Rungs f → Rungs (λ (rest : ℕ). cond b x (f rest))
rung true x f h r = record { passes = λ rest e. absurd (omega arith); stops = λ rest z. refl }
rung false x f h r = r

-- a refusal's name has the ladder's number
pub named : (m k n : ℕ) → m ≡ listed k → k ≡ n → (n ≡ 0 → ⊥) → n < 9 → m ≡ n
named m k n e f z h = e ∙ ap listed f ∙ listed_in n (positive z) h

-- a call's exit by a refusal: k is the number that its tests gave, n the ladder's, m that of the refusal's name, and `why` says what the
-- definition gives where the ladder's is not 0
pub refuses :
    {A : Type 0} (f : ℕ → A) (y : A) (m k n : ℕ) → m ≡ listed k → k ≡ n → (k ≡ 0 → ⊥) → n < 9 → ((n ≡ 0 → ⊥) → y ≡ f n) → f m ≡ y
refuses f y m k n e g z h why =
    let no : n ≡ 0 → ⊥ = λ o. z (g ∙ o) in
    ap f (named m k n e g no h) ∙ sym (why no)
