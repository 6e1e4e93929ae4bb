-- The names of a flags word by masks, in the digits of the definition.
-- Assumes nothing.
use Prim.Native.Nat.{ℕ, ◌+◌, ◌*◌, ◌/◌, ◌%◌}
use native.Mathlib.Omega.{arith}
use mathlib.Core.Path.{◌≡◌, ap, ◌∙◌}
use mathlib.Core.Bool.{not}
use lib.Dec.{eqb}
use Rattle.std.specs.Int.Bits.{bit_and}
use Rattle.std.proofs.lemmas.Nat.{and_block, and_mask}
use Rattle.desc.proofs.Masks.{has_next, has_write, has_indirect, has_avail, has_used}
use Rattle.dump.specs.declared.Names.{Names}
use Rattle.dump.specs.Names.{unnamed_of, names_of}

mask_unnamed : (f : ℕ) → bit_and f 32632 ≡ unnamed_of f
mask_unnamed f =
    let b = f % 256 in
    let e : f ≡ f / 256 * 256 + b = omega arith in
    let e' : b ≡ b / 8 * 8 + b % 8 = omega arith in
    let word : bit_and f 32632 ≡ bit_and (f / 256) 127 * 256 + bit_and b 120 =
    ap (λ (n : ℕ). bit_and n 32632) e ∙ and_block 8 (f / 256) 127 b 120 (omega arith) (omega arith) in
    let low : bit_and b 120 ≡ bit_and (b / 8) 15 * 8 + bit_and (b % 8) 0 =
    ap (λ (n : ℕ). bit_and n 120) e' ∙ and_block 3 (b / 8) 15 (b % 8) 0 (omega arith) (omega arith) in
    omega (arith, word, low, and_mask (f / 256) 7, and_mask (b / 8) 4, and_mask (b % 8) 0)

unfoldable pub masks_of : ℕ → Names
masks_of f =
    record {
      next = not (eqb (bit_and f 1) 0);
      write = not (eqb (bit_and f 2) 0);
      indirect = not (eqb (bit_and f 4) 0);
      avail = not (eqb (bit_and f 128) 0);
      used = not (eqb (bit_and f 32768) 0);
      unnamed = bit_and f 32632;
    }

pub named : (f : ℕ) → masks_of f ≡ names_of f
unfolding masks_of names_of
named f = simp (has_next f, has_write f, has_indirect f, has_avail f, has_used f, mask_unnamed f)
