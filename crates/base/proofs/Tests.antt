-- Tests and the facts that they stand for, where the library has no law.
-- Assumes nothing.
use Prim.Native.Nat.{ℕ, ◌≤◌, ◌<◌}
use mathlib.Core.Path.{◌≡◌, refl, sym, ◌∙◌}
use mathlib.Core.Bool.{Bool, true, false, cond, ◌||◌}
use native.Mathlib.Omega.{arith}
use lib.Dec.{ltb, leb, eqb}
use borrow.Author.Tests.{ltb-true, ltb-false, le-leb, lt-leb, eqb-true, eqb-false}

-- by cases on a test
pub split : {P : Type 0} (b : Bool) → (b ≡ true → P) → (b ≡ false → P) → P
split true f g = f refl
split false f g = g refl

pub by_lt : {P : Type 0} (a b : ℕ) → (a < b → P) → (b ≤ a → P) → P
by_lt a b f g = split (ltb a b) (λ e. f (ltb-true a b e)) (λ e. g (ltb-false a b e))

pub by_eq : {P : Type 0} (a b : ℕ) → (a ≡ b → P) → ((a ≡ b → ⊥) → P) → P
by_eq a b f g = split (eqb a b) (λ e. f (eqb-true a b e)) (λ e. g (eqb-false a b e))

-- what holds of both holds of the one that is chosen
pub chosen : {A : Type 0} (P : A → Type 0) (b : Bool) (x y : A) → P x → P y → P (cond b x y)
chosen P true x y p q = p
chosen P false x y p q = q

-- a number that is not 0
pub positive : {m : ℕ} → (m ≡ 0 → ⊥) → 0 < m
positive h = omega arith

-- what holds of each two Booleans
pub each_way :
    (P : Bool → Bool → Type 0) → P true true → P true false → P false true → P false false → (a b : Bool) → P a b
each_way P tt tf ft ff true true = tt
each_way P tt tf ft ff true false = tf
each_way P tt tf ft ff false true = ft
each_way P tt tf ft ff false false = ff

-- two tests of the same fact
pub same_leb : (a b c d : ℕ) → (a ≤ b → c ≤ d) → (b < a → d < c) → leb a b ≡ leb c d
same_leb a b c d f g =
    by_lt b a
    (λ l. lt-leb a b l ∙ sym (lt-leb c d (g l)))
    (λ l. le-leb a b l ∙ sym (le-leb c d (f l)))

pub or_true : (b : Bool) → b || true ≡ true
or_true true = refl
or_true false = refl

-- neither half of an or holds
pub neither : (a b : Bool) → a || b ≡ false → (a ≡ false) × (b ≡ false)
neither false b e = (refl, e)
neither true b e = let z : ◌≡◌ {A = ℕ} 0 1 = cc in absurd (omega arith)
