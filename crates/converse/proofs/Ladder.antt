-- A ladder of tests gives a number exactly if the tests before its rung fail and the rung's own holds.
-- Assumes nothing.
use Prim.Native.Nat.{ℕ}
use mathlib.Core.Path.{◌≡◌, refl}
use mathlib.Core.Logic.{◌↔◌, ◌⊎◌, inl, inr, ⊎_elim}
use mathlib.Core.Bool.{Bool, true, false, cond, ◌||◌}
use native.Mathlib.Omega.{arith}
use Rattle.base.proofs.Tests.{split, neither}

-- no test both holds and fails
pub both_ways : (b : Bool) → b ≡ true → b ≡ false → ⊥
both_ways b t f = let z : ◌≡◌ {A = ℕ} 0 1 = cc in omega arith

pub false_not_true : false ≡ true → ⊥
false_not_true e = both_ways false e refl

-- a test that does not hold fails
pub fails : (b : Bool) → ¬ (b ≡ true) → b ≡ false
fails b h = split b (λ t. absurd (h t)) (λ f. f)

pub holds : (b : Bool) → ¬ (b ≡ false) → b ≡ true
holds b h = split b (λ t. t) (λ f. absurd (h f))

-- a fact that a test stands for, where it fails
pub failing : {A : Type 0} (b : Bool) → (b ≡ true) ↔ A → (b ≡ false) ↔ (¬ A)
failing b e = (λ f a. both_ways b (e.1 a) f, λ n. fails b (λ t. n (e.0 t)))

-- a fact that a failing test stands for, where it holds
pub holding : {A : Type 0} (b : Bool) → (b ≡ false) ↔ A → (b ≡ true) ↔ (¬ A)
holding b e = (λ t a. both_ways b t (e.1 a), λ n. holds b (λ f. n (e.0 f)))

-- by cases on which half of an or holds
pub either : {P : Type 0} (a b : Bool) → (a ≡ true → P) → (b ≡ true → P) → a || b ≡ true → P
either true b f g e = f refl
either false b f g e = g e

-- a test of two conditions holds exactly if one of them does
pub or_is : {A B : Type 0} (a b : Bool) → (a ≡ true) ↔ A → (b ≡ true) ↔ B → (a || b ≡ true) ↔ (A ⊎ B)
or_is a b f g = (
  either a b (λ t. inl (f.0 t)) (λ t. inr (g.0 t)),
  λ o. holds (a || b)
      (λ n. ⊎_elim (λ x. both_ways a (f.1 x) (neither a b n).0) (λ y. both_ways b (g.1 y) (neither a b n).1) o),
)

-- and fails exactly if both fail
pub nor_is : {A B : Type 0} (a b : Bool) → (a ≡ false) ↔ A → (b ≡ false) ↔ B → (a || b ≡ false) ↔ (A × B)
nor_is a b f g = (
  λ n. (f.0 (neither a b n).0, g.0 (neither a b n).1),
  λ o. simp (f.1 o.0, g.1 o.1),
)

-- a rung's own number: its test holds
pub here : {B : Type 0} (b : Bool) (x y : ℕ) → ¬ (y ≡ x) → (b ≡ true) ↔ B → (cond b x y ≡ x) ↔ B
here true x y h e = (λ g. e.0 refl, λ t. refl)
here false x y h e = (λ g. absurd (h g), λ t. absurd (both_ways false (e.1 t) refl))

-- any other number: its test fails, and the rest of the ladder gives that number
pub past :
    {A P : Type 0} (b : Bool) (x y m : ℕ) → ¬ (x ≡ m) → (b ≡ false) ↔ A → (y ≡ m) ↔ P → (cond b x y ≡ m) ↔ (A × P)
past true x y m h e r = (λ g. absurd (h g), λ t. absurd (both_ways true refl (e.1 t.0)))
past false x y m h e r = (λ g. (e.0 refl, r.0 g), λ t. r.1 t.1)

-- a number that neither a rung nor the rest has
pub neither_has : (b : Bool) (x y m : ℕ) → ¬ (x ≡ m) → ¬ (y ≡ m) → ¬ (cond b x y ≡ m)
neither_has true x y m h k = h
neither_has false x y m h k = k

-- the last rung, passed: success
pub last : {A : Type 0} (b : Bool) (x : ℕ) → ¬ (x ≡ 0) → (b ≡ false) ↔ A → (cond b x 0 ≡ 0) ↔ A
last true x h e = (λ g. absurd (h g), λ a. absurd (both_ways true refl (e.1 a)))
last false x h e = (λ g. e.0 refl, λ a. refl)

-- the facts of three rungs, and of four, side by side
pub three : {A B C : Type 0} → (A × (B × C)) ↔ (A × B × C)
three = (λ (a, t). (a, t.0, t.1), λ t. (t.0, (t.1, t.2)))

pub four : {A B C D : Type 0} → (A × (B × (C × D))) ↔ (A × B × C × D)
four = (λ (a, t). (a, t.0, t.1.0, t.1.1), λ t. (t.0, (t.1, (t.2, t.3))))
