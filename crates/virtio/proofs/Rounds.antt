-- The rounds of the flags (VIRTIO 1.1, 2.7.1): marks make the rule true and leave every other bit, and the tests hold exactly
-- when the rule does, for every flags word.
-- Assumes nothing.
use Prim.Native.Nat.{ℕ, zero, suc, ◌+◌, ◌-◌, ◌*◌, ◌/◌, ◌%◌, ◌^◌, ◌≤◌, ◌<◌}
use mathlib.Core.Path.{◌≡◌, refl, sym, ◌∙◌, ap}
use mathlib.Core.Bool.{Bool, true, false, not, cond, ◌&&◌, beq}
use native.Mathlib.Omega.{arith}
use native.Mathlib.Nat.{div-eq_of_lt, div-div-eq-div-mul, lt_of_lt_of_le, pow-le-pow_right}
use lib.Dec.{eqb}
use lib.Pow.{pow-add}
use Rattle.desc.specs.declared.Descriptor.{Descriptor}
use Rattle.desc.specs.Flags.{NEXT, WRITE, INDIRECT, AVAIL, USED, has, known, others, is_avail, is_used}
use Rattle.desc.specs.Desc.{mark_avail, mark_used}
use Rattle.desc.proofs.Flags.{avail_bits, used_bits, avail_fits, used_fits, avail_others, used_others, others_low, others_high}
use Rattle.base.proofs.Tests.{by_lt}
use Rattle.virtio.specs.Packed.{bit_at, NEXT_BIT, WRITE_BIT, INDIRECT_BIT, AVAIL_BIT, USED_BIT, Available, Used, Reserved, SameOthers}

-- the flags by their numbers are the document's bits
pub record SameBits (f : ℕ) : Type 0 where
  pub next : has f NEXT ≡ bit_at NEXT_BIT f
  pub write : has f WRITE ≡ bit_at WRITE_BIT f
  pub indirect : has f INDIRECT ≡ bit_at INDIRECT_BIT f
  pub avail : has f AVAIL ≡ bit_at AVAIL_BIT f
  pub used : has f USED ≡ bit_at USED_BIT f

pub same_bits : (f : ℕ) → SameBits f
same_bits f = record { next = refl; write = refl; indirect = refl; avail = refl; used = refl }

-- ---- tests

beq_true : (a b : Bool) → beq a b ≡ true → a ≡ b
beq_true true true e = refl
beq_true false false e = refl
beq_true true false e = sym e
beq_true false true e = e

both_true : (a b : Bool) → a && b ≡ true → (a ≡ true) × (b ≡ true)
both_true true b e = (refl, e)
both_true false b e = let z : ◌≡◌ {A = ℕ} 0 1 = cc in absurd (omega arith)

not_beq : (a b : Bool) → not (beq a b) ≡ true → a ≡ not b
not_beq true false e = refl
not_beq false true e = refl
not_beq true true e = sym e
not_beq false false e = e

pub avail_available : (f : ℕ) (w : Bool) → is_avail f w ≡ true → Available f w
unfolding is_avail
avail_available f w e =
    let p = both_true (beq (has f AVAIL) w) (not (beq (has f USED) w)) e in
    record { avail = beq_true (has f AVAIL) w p.0; used = not_beq (has f USED) w p.1 }

pub available_avail : (f : ℕ) (w : Bool) → Available f w → is_avail f w ≡ true
unfolding is_avail
available_avail f w a = simp (a.avail, a.used) (holds w)
  where
    holds : (b : Bool) → beq b b && not (beq (not b) b) ≡ true
    holds true = refl
    holds false = refl

pub used_used : (f : ℕ) (w : Bool) → is_used f w ≡ true → Used f w
unfolding is_used
used_used f w e =
    let p = both_true (beq (has f AVAIL) w) (beq (has f USED) w) e in
    record { avail = beq_true (has f AVAIL) w p.0; used = beq_true (has f USED) w p.1 }

pub used_test : (f : ℕ) (w : Bool) → Used f w → is_used f w ≡ true
unfolding is_used
used_test f w a = simp (a.avail, a.used) (holds w)
  where
    holds : (b : Bool) → beq b b && beq b b ≡ true
    holds true = refl
    holds false = refl

-- ---- marks

pub mark_available : (d : Descriptor) (w : Bool) → Available (mark_avail d w).flags w
unfolding mark_avail
mark_available d w = record { avail = (avail_bits d.flags w).0; used = (avail_bits d.flags w).1 }

pub mark_used_lem : (d : Descriptor) (w : Bool) → Used (mark_used d w).flags w
unfolding mark_used
mark_used_lem d w = record { avail = (used_bits d.flags w).0; used = (used_bits d.flags w).1 }

-- every bit but the two is in one of two runs of seven, or is no bit of the word
seven : (x y : ℕ) → x % 128 ≡ y % 128 → (k : ℕ) → k < 7 → x / 2 ^ k % 2 ≡ y / 2 ^ k % 2
seven x y e zero l = omega arith
seven x y e (suc zero) l = omega arith
seven x y e (suc (suc zero)) l = omega arith
seven x y e (suc (suc (suc zero))) l = omega arith
seven x y e (suc (suc (suc (suc zero)))) l = omega arith
seven x y e (suc (suc (suc (suc (suc zero))))) l = omega arith
seven x y e (suc (suc (suc (suc (suc (suc zero)))))) l = omega arith
seven x y e (suc (suc (suc (suc (suc (suc (suc (k)))))))) l = absurd (omega arith)

module _ (f g : ℕ) (low : f % 128 ≡ g % 128) (high : f / 256 % 128 ≡ g / 256 % 128) where
  -- bit 8 + j is bit j of the upper run
  upper : (x j : ℕ) → x / 2 ^ (8 + j) ≡ x / 256 / 2 ^ j
  upper x j = ap (λ (n : ℕ). x / n) (pow-add 2 8 j) ∙ sym (div-div-eq-div-mul x 256 (2 ^ j))

  run : (k : ℕ) → k < 16 → (k ≡ AVAIL_BIT → ⊥) → (k ≡ USED_BIT → ⊥) → f / 2 ^ k % 2 ≡ g / 2 ^ k % 2
  run k l a u =
      by_lt k 8
      (λ h. seven f g low k (below k 7 h a))
      (λ h.
      let j : ℕ = k - 8 in
      let e : k ≡ 8 + j = omega arith in
      ap (λ (n : ℕ). f / 2 ^ n % 2) e
      ∙ ap (λ (n : ℕ). n % 2) (upper f j)
      ∙ seven (f / 256) (g / 256) high j (shorter k h (below k 15 l u))
      ∙ ap (λ (n : ℕ). n % 2) (sym (upper g j))
      ∙ ap (λ (n : ℕ). g / 2 ^ n % 2) (sym e))
    where
      below : (x m : ℕ) → x < m + 1 → (x ≡ m → ⊥) → x < m
      below x m h d = omega arith

      shorter : (x : ℕ) → 8 ≤ x → x < 15 → x - 8 < 7
      shorter x h d = omega arith

-- a bit past the word is not set
past_word : (x k : ℕ) → x < 65536 → 16 ≤ k → bit_at k x ≡ false
past_word x k h l =
    ap (λ (n : ℕ). eqb (n % 2) 1) (div-eq_of_lt (lt_of_lt_of_le h (pow-le-pow_right (omega arith) l)))

pub same_others : (f g : ℕ) → f < 65536 → g < 65536 → others f ≡ others g → SameOthers f g
same_others f g hf hg e k a u =
    by_lt k 16
    (λ l. ap (λ (n : ℕ). eqb n 1)
    (run f g
    (sym (others_low f) ∙ ap (λ (x : ℕ). x % 128) e ∙ others_low g)
    (sym (others_high f) ∙ ap (λ (x : ℕ). x / 256 % 128) e ∙ others_high g) k l a u))
    (λ l. past_word f k hf l ∙ sym (past_word g k hg l))

pub mark_available_others : (d : Descriptor) (w : Bool) → d.flags < 65536 → SameOthers (mark_avail d w).flags d.flags
unfolding mark_avail
mark_available_others d w h =
    same_others (others d.flags + cond w AVAIL USED) d.flags (avail_fits d.flags w) h (avail_others d.flags w)

pub mark_used_others : (d : Descriptor) (w : Bool) → d.flags < 65536 → SameOthers (mark_used d w).flags d.flags
unfolding mark_used
mark_used_others d w h =
    same_others (others d.flags + cond w (AVAIL + USED) 0) d.flags (used_fits d.flags w) h (used_others d.flags w)

-- ---- reading ignores the flags that are none of the five

pub record Known (f : ℕ) : Type 0 where
  pub next : bit_at NEXT_BIT (known f) ≡ bit_at NEXT_BIT f
  pub write : bit_at WRITE_BIT (known f) ≡ bit_at WRITE_BIT f
  pub indirect : bit_at INDIRECT_BIT (known f) ≡ bit_at INDIRECT_BIT f
  pub avail : bit_at AVAIL_BIT (known f) ≡ bit_at AVAIL_BIT f
  pub used : bit_at USED_BIT (known f) ≡ bit_at USED_BIT f

pub known_five : (f : ℕ) → f < 65536 → Known f
known_five f h =
    let r = f % 8 in
    let a = f / AVAIL % 2 in
    let u = f / USED in
    let lr : r < 8 = omega arith in
    let la : a < 2 = omega arith in
    let lu : u < 2 = omega arith in
    record {
      next = ap (λ (n : ℕ). eqb n 1) (bit0 r a u lr la lu ∙ sym (low0 f));
      write = ap (λ (n : ℕ). eqb n 1) (bit1 r a u lr la lu ∙ sym (low1 f));
      indirect = ap (λ (n : ℕ). eqb n 1) (bit2 r a u lr la lu ∙ sym (low2 f));
      avail = ap (λ (n : ℕ). eqb n 1) (bit7 r a u lr la lu);
      used = ap (λ (n : ℕ). eqb n 1) (bit15 r a u lr la lu ∙ sym (low15 f h));
    }
  where
    bit0 : (r a u : ℕ) → r < 8 → a < 2 → u < 2 → (r + a * 128 + u * 32768) / 2 ^ 0 % 2 ≡ r / 1 % 2
    bit0 r a u lr la lu = omega arith

    bit1 : (r a u : ℕ) → r < 8 → a < 2 → u < 2 → (r + a * 128 + u * 32768) / 2 ^ 1 % 2 ≡ r / 2 % 2
    bit1 r a u lr la lu = omega arith

    bit2 : (r a u : ℕ) → r < 8 → a < 2 → u < 2 → (r + a * 128 + u * 32768) / 2 ^ 2 % 2 ≡ r / 4 % 2
    bit2 r a u lr la lu = omega arith

    bit7 : (r a u : ℕ) → r < 8 → a < 2 → u < 2 → (r + a * 128 + u * 32768) / 2 ^ 7 % 2 ≡ a
    bit7 r a u lr la lu = omega arith

    bit15 : (r a u : ℕ) → r < 8 → a < 2 → u < 2 → (r + a * 128 + u * 32768) / 2 ^ 15 % 2 ≡ u
    bit15 r a u lr la lu = omega arith

    low0 : (x : ℕ) → x / 2 ^ 0 % 2 ≡ x % 8 / 1 % 2
    low0 x = omega arith

    low1 : (x : ℕ) → x / 2 ^ 1 % 2 ≡ x % 8 / 2 % 2
    low1 x = omega arith

    low2 : (x : ℕ) → x / 2 ^ 2 % 2 ≡ x % 8 / 4 % 2
    low2 x = omega arith

    low15 : (x : ℕ) → x < 65536 → x / 2 ^ 15 % 2 ≡ x / 32768
    low15 x h = omega arith

-- no reserved bit is among the five
none_set : (r a u : ℕ) → r < 8 → a < 2 → u < 2 → (k : ℕ) → k < 16 → Reserved k → (r + a * 128 + u * 32768) / 2 ^ k % 2 ≡ 0
none_set r a u lr la lu zero l o = absurd (o.next refl)
none_set r a u lr la lu (suc zero) l o = absurd (o.write refl)
none_set r a u lr la lu (suc (suc zero)) l o = absurd (o.indirect refl)
none_set r a u lr la lu (suc (suc (suc zero))) l o = omega arith
none_set r a u lr la lu (suc (suc (suc (suc zero)))) l o = omega arith
none_set r a u lr la lu (suc (suc (suc (suc (suc zero))))) l o = omega arith
none_set r a u lr la lu (suc (suc (suc (suc (suc (suc zero)))))) l o = omega arith
none_set r a u lr la lu (suc (suc (suc (suc (suc (suc (suc zero))))))) l o = absurd (o.avail refl)
none_set r a u lr la lu (suc (suc (suc (suc (suc (suc (suc (suc zero)))))))) l o = omega arith
none_set r a u lr la lu (suc (suc (suc (suc (suc (suc (suc (suc (suc zero))))))))) l o = omega arith
none_set r a u lr la lu (suc (suc (suc (suc (suc (suc (suc (suc (suc (suc zero)))))))))) l o = omega arith
none_set r a u lr la lu (suc (suc (suc (suc (suc (suc (suc (suc (suc (suc (suc zero))))))))))) l o = omega arith
none_set r a u lr la lu (suc (suc (suc (suc (suc (suc (suc (suc (suc (suc (suc (suc zero)))))))))))) l o = omega arith
none_set r a u lr la lu (suc (suc (suc (suc (suc (suc (suc (suc (suc (suc (suc (suc (suc zero))))))))))))) l o = omega arith
none_set r a u lr la lu (suc (suc (suc (suc (suc (suc (suc (suc (suc (suc (suc (suc (suc (suc zero)))))))))))))) l o = omega arith
none_set r a u lr la lu (suc (suc (suc (suc (suc (suc (suc (suc (suc (suc (suc (suc (suc (suc (suc zero))))))))))))))) l o = absurd (o.used refl)
none_set r a u lr la lu (suc (suc (suc (suc (suc (suc (suc (suc (suc (suc (suc (suc (suc (suc (suc (suc (k))))))))))))))))) l o = absurd (omega arith)

pub known_others : (f k : ℕ) → f < 65536 → Reserved k → bit_at k (known f) ≡ false
known_others f k h o =
    let lu : f / USED < 2 = omega arith in
    by_lt k 16
    (λ l. ap (λ (n : ℕ). eqb n 1) (none_set (f % 8) (f / AVAIL % 2) (f / USED) (omega arith) (omega arith) lu k l o))
    (λ l. past_word (known f) k (small (f % 8) (f / AVAIL % 2) (f / USED) (omega arith) (omega arith) lu) l)
  where
    small : (r a u : ℕ) → r < 8 → a < 2 → u < 2 → r + a * 128 + u * 32768 < 65536
    small r a u lr la lu = omega arith
