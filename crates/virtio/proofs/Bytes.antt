-- The ring's little-endian bytes are the document's, for any width.
-- Assumes nothing.
use Prim.Native.Nat.{ℕ, zero, suc, ◌*◌, ◌/◌, ◌%◌, ◌^◌}
use mathlib.Core.Path.{◌≡◌, refl, sym, ◌∙◌, ap, ap₂}
use mathlib.Core.List.{List, ◌∷◌}
use native.Mathlib.Omega.{arith}
use native.Mathlib.Nat.{div-div-eq-div-mul, pow-suc}
use Rattle.base.specs.Bytes.{bytes_of}
use Rattle.virtio.specs.Packed.{little_endian}

-- dividing once by 256 moves every weight down by one
shifted : (k w n : ℕ) → little_endian (suc k) w n ≡ little_endian k w (n / 256)
unfolding little_endian
shifted k zero n = refl
shifted k (suc w) n =
    ap₂ (λ (x : ℕ) (l : List ℕ). x % 256 ∷ l)
    (ap (λ (m : ℕ). n / m) (pow-suc 256 k ∙ times (256 ^ k)) ∙ sym (div-div-eq-div-mul n 256 (256 ^ k)))
    (shifted (suc k) w n)
  where
    times : (x : ℕ) → x * 256 ≡ 256 * x
    times x = omega arith

pub bytes_document : (w n : ℕ) → bytes_of w n ≡ little_endian 0 w n
unfolding bytes_of little_endian
bytes_document zero n = refl
bytes_document (suc w) n =
    ap₂ (λ (x : ℕ) (l : List ℕ). x % 256 ∷ l) (whole n) (bytes_document w (n / 256) ∙ sym (shifted 0 w n))
  where
    whole : (x : ℕ) → x ≡ x / 256 ^ 0
    whole x = omega arith
