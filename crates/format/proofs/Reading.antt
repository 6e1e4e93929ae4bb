-- Numbers of a trace, for any width.
-- Assumes nothing.
use Prim.Native.Nat.{ℕ, zero, suc, ◌+◌, ◌*◌, ◌≤◌, ◌<◌, min}
use mathlib.Core.Path.{◌≡◌, refl, sym, ap, ◌∙◌}
use mathlib.Core.List.{List, map}
use native.Mathlib.Omega.{arith}
use lib.ListN.{length, get_or, get_or-eq_default}
use Rattle.base.specs.Bytes.{word_at}
use Rattle.base.proofs.Tests.{by_lt}
use Rattle.std.proofs.lemmas.List.{get_or-map, length-map}
use Rattle.format.specs.Input.{numbers_at}

-- past the end there are zeros
pub word_past : (l : List ℕ) (i w : ℕ) → length l ≤ i → word_at l i w ≡ 0
unfolding word_at
word_past l i zero h = refl
word_past l i (suc w) h = omega (arith, get_or-eq_default l 0 h, word_past l (suc i) w (omega arith))

-- so two places are alike that are one, or both past the end
pub word_alike : (l : List ℕ) (i j w : ℕ) → min i (length l) ≡ min j (length l) → word_at l i w ≡ word_at l j w
word_alike l i j w e =
    by_lt i (length l)
    (λ h. let g : i ≡ j = omega arith in ap (λ (k : ℕ). word_at l k w) g)
    (λ h. let g : length l ≤ j = omega arith in word_past l i w h ∙ sym (word_past l j w g))

pub numbers_length : (w : ℕ) (l : List ℕ) (k stride n : ℕ) → length (numbers_at w l k stride n) ≡ n
unfolding numbers_at
numbers_length w l k stride zero = refl
numbers_length w l k stride (suc n) = ap suc (numbers_length w l (k + stride) stride n)

pub numbers_at_lem :
    (w : ℕ) (l : List ℕ) (k stride n j : ℕ) → j < n → get_or (numbers_at w l k stride n) j 0 ≡ word_at l (k + j * stride) w
unfolding numbers_at
numbers_at_lem w l k stride zero j h = absurd (omega arith)
numbers_at_lem w l k stride (suc n) zero h = ap (λ (i : ℕ). word_at l i w) (omega arith)
numbers_at_lem w l k stride (suc n) (suc j) h =
    let e : k + stride + j * stride ≡ k + suc j * stride = omega arith in
    numbers_at_lem w l (k + stride) stride n j (omega arith) ∙ ap (λ (i : ℕ). word_at l i w) e

-- the words of these numbers
module _ {A : Type 0} (of : ℕ → A) (w : ℕ) (l : List ℕ) (p stride n : ℕ) where
  abbrev pub words : List A
  words = map of (numbers_at w l p stride n)

  pub words_length : length words ≡ n
  words_length = length-map (numbers_at w l p stride n) of ∙ numbers_length w l p stride n

  -- a loop's place i stands for k strides behind the first: alike it, since it stops at the largest number. So it gives the
  -- word that is wanted there, and the next place stands for the next
  pub word_read :
      (k i : ℕ) → k < n → min i (length l) ≡ min (p + k * stride) (length l)
      → get_or words k (of 0) ≡ of (word_at l i w)
  word_read k i h e =
      let there : k < length (numbers_at w l p stride n) = omega (arith, numbers_length w l p stride n) in
      get_or-map of (numbers_at w l p stride n) k 0 (of 0) there
      ∙ ap of (numbers_at_lem w l p stride n k h ∙ sym (word_alike l i (p + k * stride) w e))

pub onward :
    (p k stride len i j : ℕ) → len ≤ 18446744073709551615 → min i len ≡ min (p + k * stride) len
    → j ≡ min (i + stride) 18446744073709551615 → min j len ≡ min (p + (k + 1) * stride) len
onward p k stride len i j h e f = omega arith
