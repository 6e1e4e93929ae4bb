-- What the masks of an area's words keep, in the digits of the definitions.
-- Assumes nothing.
use Prim.Native.Nat.{ℕ, ◌+◌, ◌*◌, ◌/◌, ◌%◌, ◌<◌}
use mathlib.Core.Path.{◌≡◌, ap, ap₂, ◌∙◌}
use mathlib.Core.Bool.{Bool, true, false, cond}
use native.Mathlib.Omega.{arith}
use Rattle.std.specs.Int.Bits.{bit_and, bit_or, or_shifted_r}
use Rattle.std.proofs.lemmas.Nat.{and_block, and_mask, or_shifted}

-- fourteen bits of one word, and two of another
pub flags_kept : (f g : ℕ) → f < 65536 → bit_or (bit_and f 65532) (bit_and g 3) ≡ f / 4 * 4 + g % 4
flags_kept f g l =
    let e : f ≡ f / 4 * 4 + f % 4 = omega arith in
    let high : bit_and f 65532 ≡ f / 4 * 4 =
    ap (λ (n : ℕ). bit_and n 65532) e
    ∙ and_block 2 (f / 4) 16383 (f % 4) 0 (omega arith) (omega arith)
    ∙ omega (arith, and_mask (f / 4) 14, and_mask (f % 4) 0) in
    let low : bit_and g 3 ≡ g % 4 = and_mask g 2 in
    ap₂ bit_or high low ∙ or_shifted (f / 4) 2 (g % 4) (omega arith)

-- fifteen bits of one word, and the bit above them
pub wrap_beside : (o : ℕ) (w : Bool) → bit_or (bit_and o 32767) (cond w 32768 0) ≡ o % 32768 + cond w 32768 0
wrap_beside o w = ap (λ (n : ℕ). bit_or n (cond w 32768 0)) (and_mask o 15) ∙ beside w
  where
    beside : (b : Bool) → bit_or (o % 32768) (cond b 32768 0) ≡ o % 32768 + cond b 32768 0
    beside true = or_shifted_r 1 15 (o % 32768) (omega arith) ∙ omega arith
    beside false = or_shifted_r 0 15 (o % 32768) (omega arith) ∙ omega arith
