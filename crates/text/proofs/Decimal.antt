-- A number's digits: the fewest that hold it (as `io::decimal` says it) are those of `digits_of`.
-- Assumes nothing.
use Prim.Native.Nat.{ℕ, zero, suc, ◌+◌, ◌-◌, ◌/◌, ◌%◌, ◌^◌, ◌≤◌, ◌<◌}
use mathlib.Core.Path.{◌≡◌, refl, sym, ap, ap₂, ◌∙◌}
use mathlib.Core.List.{List, [], ◌∷◌, ◌++◌}
use native.Mathlib.Omega.{arith}
use native.Mathlib.Numerals.{add-one}
use native.Mathlib.Nat.{pow-le-pow_right}
use lib.ListN.{length, length-append}
use borrow.Author.Tests.{lt-ltb, le-ltb}
use Rattle.base.proofs.Tests.{by_lt}
use Rattle.io.specs.Digits.{hex_digit_ascii, last_digits, IsDigitCount}
use Rattle.text.specs.Text.{digits_of}

-- a digit's character
digit : (d : ℕ) → d < 10 → hex_digit_ascii d ≡ 48 + d
digit d h = simp (lt-ltb d 10 h)

one_digit : (k n : ℕ) → n < 10 → digits_of (suc k) n ≡ (48 + n) ∷ []
unfolding digits_of
one_digit k n h = simp (lt-ltb n 10 h)

more_digits : (k n : ℕ) → 10 ≤ n → digits_of (suc k) n ≡ digits_of k (n / 10) ++ ((48 + n % 10) ∷ [])
unfolding digits_of
more_digits k n h = simp (le-ltb n 10 h)

-- what is left in front of the last digit is held by one fewer
fewer : (k n : ℕ) → IsDigitCount 10 1 n (suc (suc k)) → IsDigitCount 10 1 (n / 10) (suc k)
fewer k n f =
    let e : suc (suc k) - 1 ≡ suc k = omega arith in
    let d : suc k - 1 ≡ k = omega arith in
    let l : 10 ^ suc k ≤ n = rw e at (f.2 (omega arith)) in
    (omega arith, omega arith, λ h. rw d (omega arith))

pub fewest_digits : (f k n : ℕ) → k ≤ f → IsDigitCount 10 1 n k → last_digits 10 k n ≡ digits_of f n
fewest_digits f zero n h w = absurd (omega arith)
fewest_digits zero (suc k) n h w = absurd (omega arith)
fewest_digits (suc f) (suc zero) n h w =
    let l : n < 10 = omega arith in
    let m : n % 10 ≡ n = omega arith in
    ap (λ (x : ℕ). x ∷ []) (digit (n % 10) (omega arith) ∙ ap (λ (x : ℕ). 48 + x) m) ∙ sym (one_digit f n l)
fewest_digits (suc f) (suc (suc k)) n h w =
    let e : suc (suc k) - 1 ≡ suc k = omega arith in
    let l : 10 ^ suc k ≤ n = rw e at (w.2 (omega arith)) in
    ap₂ (λ (x : List ℕ) (y : ℕ). x ++ (y ∷ []))
    (fewest_digits f (suc k) (n / 10) (omega arith) (fewer k n w))
    (digit (n % 10) (omega arith))
    ∙ sym (more_digits f n (ten k n l))
  where
    ten : (k n : ℕ) → 10 ^ suc k ≤ n → 10 ≤ n
    ten zero n l = l
    ten (suc k) n l = ten k n (omega arith)

-- a number of 64 bits has at most 20
pub at_most_20 : (k n : ℕ) → n < 2 ^ 64 → IsDigitCount 10 1 n k → k ≤ 20
at_most_20 k n h w =
    by_lt 20 k
    (λ l.
    let low : 10 ^ (k - 1) ≤ n = w.2 (omega arith) in
    let high : 10 ^ 20 ≤ 10 ^ (k - 1) = pow-le-pow_right {n = 10} (omega arith) {i = 20} {j = k - 1} (omega arith) in
    absurd (omega arith))
    (λ l. l)

-- so many as `io::decimal` counts
pub digits_length : (b k n : ℕ) → length (last_digits b k n) ≡ k
digits_length b zero n = refl
digits_length b (suc k) n =
    length-append (last_digits b k (n / b)) (hex_digit_ascii (n % b) ∷ []) ∙ ap (λ (m : ℕ). m + 1) (digits_length b k (n / b)) ∙ add-one k
