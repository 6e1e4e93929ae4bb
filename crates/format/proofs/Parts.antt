-- Parts of a slice, for elements of any type and width.
-- Assumes nothing.
use Prim.Native.Nat.{ℕ, ◌+◌, ◌-◌, ◌*◌, ◌≤◌, min}
use mathlib.Core.Path.{◌≡◌, refl, sym, ap, ap₂, ◌∙◌}
use native.Mathlib.Omega.{arith}
use lib.ListN.{length, take, drop, length-drop, drop_of_length-le}
use lib.Seq.{take_all}
use borrow.Author.Tests.{le-leb, lt-leb}
use Rattle.base.specs.Part.{Slice, slice, part}
use Rattle.base.proofs.Tests.{by_lt}
use Rattle.format.specs.Part.{first_of, from_of, between_of}

-- k is where a part of n, or the one behind it, is cut: at the end of the slice, where n is past it
module _ {A : Type 0} (w n k : ℕ) (s : Slice A) (cut : k ≡ min n (length s.elements)) where
  first_taken : take k s.elements ≡ take n s.elements
  first_taken =
      by_lt (length s.elements) n
      (λ h. take_all k s.elements (omega arith) ∙ sym (take_all n s.elements (omega arith)))
      (λ h. let e : k ≡ n = omega arith in ap (λ (i : ℕ). take i s.elements) e)

  -- the first part begins where the slice does
  pub first_cut : slice s.place (take k s.elements) ≡ first_of w n s
  unfolding first_of
  first_cut =
      let e : s.place.1 ≡ 0 * w + s.place.1 = omega arith in
      λ i. slice (s.place.0, e i) (first_taken i)

  pub from_cut : part w k (length s.elements - k) s ≡ from_of w n s
  unfolding from_of
  from_cut =
      let z : length s.elements - k ≡ length s.elements - n = omega arith in
      ap₂ (λ (i m : ℕ). part w i m s) cut z

module _ {A : Type 0} (w i j : ℕ) (s : Slice A) where
  pub between_fits : i ≤ j → j ≤ length s.elements → part w i (j - i) s ≡ between_of w i j s
  unfolding between_of
  between_fits h g = simp (le-leb i j h, le-leb j (length s.elements) g)

  behind : length s.elements - length s.elements ≡ 0
  behind = omega arith

  pub between_none :
      (i ≤ j → j ≤ length s.elements → ⊥) → part w (length s.elements) (length s.elements - length s.elements) s ≡ between_of w i j s
  unfolding between_of
  between_none h =
      by_lt j i
      (λ g. simp (lt-leb i j g) (ap (λ (k : ℕ). part w (length s.elements) k s) behind))
      (λ g.
      by_lt (length s.elements) j
      (λ p. simp (le-leb i j g, lt-leb j (length s.elements) p) (ap (λ (k : ℕ). part w (length s.elements) k s) behind))
      (λ p. absurd (h g p)))

-- the elements from n on
pub from_elements : {A : Type 0} (w n : ℕ) (s : Slice A) → (from_of w n s).elements ≡ drop n s.elements
unfolding from_of
from_elements w n s =
    let l = s.elements in
    by_lt (length l) n
    (λ h.
    let e : min n (length l) ≡ length l = omega arith in
    let z : length l - n ≡ 0 = omega arith in
    ap₂ (λ (k i : ℕ). take k (drop i l)) z e
    ∙ sym (drop_of_length-le l {i = n} (omega arith)))
    (λ h.
    let e : min n (length l) ≡ n = omega arith in
    ap (λ (i : ℕ). take (length l - n) (drop i l)) e
    ∙ take_all (length l - n) (drop n l) (omega (arith, length-drop n l)))

pub first_elements : {A : Type 0} (w n : ℕ) (s : Slice A) → (first_of w n s).elements ≡ take n s.elements
unfolding first_of
first_elements w n s = refl
