-- How a contract is shown to determine its outcome.
-- Assumes nothing.
use mathlib.Core.Path.{◌≡◌, ◌∙◌, sym}
use Rattle.base.specs.Determined.{Determined}

module _ {K D R S O : Type 0} (P : K → D → R → S → Type 0) (see : R → S → O) where
  -- a contract that is an equation determines its outcome
  pub by_equation : (f : K → D → O) → ((κ : K) (a : D) (r : R) (s : S) → P κ a r s → see r s ≡ f κ a) → Determined P see
  by_equation f h κ a r r' s s' p q = h κ a r s p ∙ sym (h κ a r' s' q)

  -- and so does one whose equation goes by an answer from which the outcome can be told
  pub by_answer :
      {A : Type 0} (answer : O → A) → ((x y : O) → answer x ≡ answer y → x ≡ y) → (f : K → D → A)
      → ((κ : K) (a : D) (r : R) (s : S) → P κ a r s → answer (see r s) ≡ f κ a) → Determined P see
  by_answer answer same f h κ a r r' s s' p q = same (see r s) (see r' s') (h κ a r s p ∙ sym (h κ a r' s' q))
