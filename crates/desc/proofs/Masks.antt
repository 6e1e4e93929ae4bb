-- What the masks of the flags word keep, in the digits of the definitions.
-- Assumes nothing.
use Prim.Native.Nat.{ℕ, ◌+◌, ◌*◌, ◌/◌, ◌%◌, ◌^◌, ◌<◌}
use mathlib.Core.Path.{◌≡◌, ap, ◌∙◌}
use mathlib.Core.Bool.{Bool, true, false, cond, not}
use native.Mathlib.Omega.{arith}
use native.Mathlib.Nat.{zero-mul}
use borrow.Author.Tests.{ne_eqb}
use lib.Dec.{eqb}
use Rattle.std.specs.Int.Bits.{bit_and, bit_or, or_add_and}
use Rattle.std.proofs.lemmas.Nat.{and_block, and_mask}
use Rattle.std.proofs.lemmas.Nat.Bits.{and_pow}
use Rattle.base.proofs.Tests.{by_eq}
use Rattle.desc.specs.Flags.{NEXT, WRITE, INDIRECT, AVAIL, USED, has, known, others}

-- the test of one flag: a bit times its worth is not 0 where the bit is 1
bit_set : (d m : ℕ) → 0 < m → d < 2 → not (eqb (d * m) 0) ≡ eqb d 1
bit_set d m h l =
    by_eq d 1
    (λ e. simp (e, ne_eqb (1 * m) 0 (λ z. omega arith)))
    (λ n. let z : d ≡ 0 = omega (arith, n) in simp (z, zero-mul m))

flag_set : (f k : ℕ) → 0 < 2 ^ k → not (eqb (bit_and f (2 ^ k)) 0) ≡ has f (2 ^ k)
flag_set f k h = ap (λ (n : ℕ). not (eqb n 0)) (and_pow f k) ∙ bit_set (f / 2 ^ k % 2) (2 ^ k) h (omega arith)

pub has_next : (f : ℕ) → not (eqb (bit_and f 1) 0) ≡ has f NEXT
has_next f = flag_set f 0 (omega arith)

pub has_write : (f : ℕ) → not (eqb (bit_and f 2) 0) ≡ has f WRITE
has_write f = flag_set f 1 (omega arith)

pub has_indirect : (f : ℕ) → not (eqb (bit_and f 4) 0) ≡ has f INDIRECT
has_indirect f = flag_set f 2 (omega arith)

pub has_avail : (f : ℕ) → not (eqb (bit_and f 128) 0) ≡ has f AVAIL
has_avail f = flag_set f 7 (omega arith)

pub has_used : (f : ℕ) → not (eqb (bit_and f 32768) 0) ≡ has f USED
has_used f = flag_set f 15 (omega arith)

-- a mask of a word of two bytes, byte by byte
bytes_masked : (f a b : ℕ) → b < 256 → bit_and f (a * 256 + b) ≡ bit_and (f / 256) a * 256 + bit_and (f % 256) b
bytes_masked f a b l =
    let e : f ≡ f / 256 * 256 + f % 256 = omega arith in
    ap (λ (n : ℕ). bit_and n (a * 256 + b)) e ∙ and_block 8 (f / 256) a (f % 256) b (omega arith) l

pub mask_others : (f : ℕ) → bit_and f 32639 ≡ others f
mask_others f = omega (arith, bytes_masked f 127 127 (omega arith), and_mask (f / 256) 7, and_mask (f % 256) 7)

pub mask_known : (f : ℕ) → f < 65536 → bit_and f 32903 ≡ known f
mask_known f l =
    let b = f % 256 in
    let e : b ≡ b / 8 * 8 + b % 8 = omega arith in
    let low : bit_and b 135 ≡ bit_and (b / 8) 16 * 8 + bit_and (b % 8) 7 =
    ap (λ (n : ℕ). bit_and n 135) e ∙ and_block 3 (b / 8) 16 (b % 8) 7 (omega arith) (omega arith) in
    omega (arith, bytes_masked f 128 135 (omega arith), low, and_pow (f / 256) 7, and_pow (b / 8) 4, and_mask (b % 8) 3)

-- a word without AVAIL and USED, and those of them that a mark sets
apart : (f n : ℕ) → bit_and (others f) n ≡ 0 → bit_or (others f) n ≡ others f + n
apart f n e = omega (arith, or_add_and (others f) n, e)

avail_apart : (f : ℕ) → bit_and (others f) 128 ≡ 0
avail_apart f = omega (arith, and_pow (others f) 7)

used_apart : (f : ℕ) → bit_and (others f) 32768 ≡ 0
used_apart f = omega (arith, and_pow (others f) 15)

both_apart : (f : ℕ) → bit_and (others f) 32896 ≡ 0
both_apart f =
    omega (arith, bytes_masked (others f) 128 128 (omega arith), and_pow (others f / 256) 7, and_pow (others f % 256) 7)

zero_apart : (f : ℕ) → bit_and (others f) 0 ≡ 0
zero_apart f = and_mask (others f) 0 ∙ omega arith

pub marked_avail : (f : ℕ) (w : Bool) → bit_or (others f) (cond w AVAIL USED) ≡ others f + cond w AVAIL USED
marked_avail f true = apart f 128 (avail_apart f)
marked_avail f false = apart f 32768 (used_apart f)

pub marked_used : (f : ℕ) (w : Bool) → bit_or (others f) (cond w (AVAIL + USED) 0) ≡ others f + cond w (AVAIL + USED) 0
marked_used f true = apart f 32896 (both_apart f)
marked_used f false = apart f 0 (zero_apart f)
