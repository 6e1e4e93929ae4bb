-- The flags word: its parts do not overlap, and marking and testing agree.
-- Assumes nothing.
use Prim.Native.Nat.{ℕ, ◌+◌, ◌*◌, ◌/◌, ◌%◌, ◌^◌, ◌<◌}
use mathlib.Core.Path.{◌≡◌, refl, sym, ◌∙◌, ap}
use mathlib.Core.Bool.{Bool, true, false, not, cond, ◌&&◌, beq}
use native.Mathlib.Omega.{arith}
use lib.Dec.{eqb}
use borrow.Author.Tests.{eq-eqb, ne_eqb}
use Rattle.base.proofs.Tests.{each_way}
use Rattle.desc.specs.declared.Descriptor.{Descriptor}
use Rattle.desc.specs.Flags.{NEXT, WRITE, INDIRECT, AVAIL, USED, others, has, is_avail, is_used}
use Rattle.desc.specs.Desc.{descriptor, mark_avail, mark_used}
use Rattle.desc.proofs.Trips.{Ranged}

-- what a mark leaves: a 16-bit word, in which the other bits are the ones that were there
module _ (f : ℕ) where
  pub avail_fits : (w : Bool) → others f + cond w AVAIL USED < 65536
  avail_fits true = omega arith
  avail_fits false = omega arith

  pub used_fits : (w : Bool) → others f + cond w (AVAIL + USED) 0 < 65536
  used_fits true = omega arith
  used_fits false = omega arith

  -- the digits of a word: seven low bits, AVAIL, seven bits, USED
  digits :
      (b u : ℕ) → b < 2 → u < 2
      → ((others f + (b * AVAIL + u * USED)) % 128 ≡ f % 128) × ((others f + (b * AVAIL + u * USED)) / 256 % 128 ≡ f / 256 % 128)
  digits b u hb hu =
      let r = f % 128 in
      let q = f / 256 % 128 in
      let lr : r < 128 = omega arith in
      let lq : q < 128 = omega arith in
      ((parted r q b u lr lq hb hu).0, (parted r q b u lr lq hb hu).1)
    where
      parted :
          (r q b u : ℕ) → r < 128 → q < 128 → b < 2 → u < 2
          → ((r + q * 256 + (b * 128 + u * 32768)) % 128 ≡ r) × ((r + q * 256 + (b * 128 + u * 32768)) / 256 % 128 ≡ q)
      parted r q b u lr lq hb hu = (omega arith, omega arith)

  pub avail_others : (w : Bool) → others (others f + cond w AVAIL USED) ≡ others f
  avail_others true = omega (arith, digits 1 0 (omega arith) (omega arith))
  avail_others false = omega (arith, digits 0 1 (omega arith) (omega arith))

  pub used_others : (w : Bool) → others (others f + cond w (AVAIL + USED) 0) ≡ others f
  used_others true = omega (arith, digits 1 1 (omega arith) (omega arith))
  used_others false = omega (arith, digits 0 0 (omega arith) (omega arith))

  -- the two bits of the round: AVAIL equals w and USED differs from it; both equal w
  pub avail_bits : (w : Bool) → (has (others f + cond w AVAIL USED) AVAIL ≡ w) × (has (others f + cond w AVAIL USED) USED ≡ not w)
  avail_bits true =
      (eq-eqb ((others f + AVAIL) / AVAIL % 2) 1 (omega arith), ne_eqb ((others f + AVAIL) / USED % 2) 1 (λ e. omega arith))
  avail_bits false =
      (ne_eqb ((others f + USED) / AVAIL % 2) 1 (λ e. omega arith), eq-eqb ((others f + USED) / USED % 2) 1 (omega arith))

  pub used_bits : (w : Bool) → (has (others f + cond w (AVAIL + USED) 0) AVAIL ≡ w) × (has (others f + cond w (AVAIL + USED) 0) USED ≡ w)
  used_bits true = (
    eq-eqb ((others f + (AVAIL + USED)) / AVAIL % 2) 1 (omega arith),
    eq-eqb ((others f + (AVAIL + USED)) / USED % 2) 1 (omega arith),
  )
  used_bits false =
      (ne_eqb ((others f + 0) / AVAIL % 2) 1 (λ e. omega arith), ne_eqb ((others f + 0) / USED % 2) 1 (λ e. omega arith))

-- the two runs of other bits
pub others_low : (f : ℕ) → others f % 128 ≡ f % 128
others_low f = ap (λ (x : ℕ). x % 128) (omega arith) ∙ (digits f 0 0 (omega arith) (omega arith)).0

pub others_high : (f : ℕ) → others f / 256 % 128 ≡ f / 256 % 128
others_high f = ap (λ (x : ℕ). x / 256 % 128) (omega arith) ∙ (digits f 0 0 (omega arith) (omega arith)).1

-- words whose other bits agree have the same NEXT, WRITE and INDIRECT
pub record SameFlags (f g : ℕ) : Type 0 where
  pub next : has f NEXT ≡ has g NEXT
  pub write : has f WRITE ≡ has g WRITE
  pub indirect : has f INDIRECT ≡ has g INDIRECT

pub same_flags : (f g : ℕ) → others f ≡ others g → SameFlags f g
same_flags f g e =
    let l : f % 128 ≡ g % 128 = sym (others_low f) ∙ ap (λ (x : ℕ). x % 128) e ∙ others_low g in
    record {
      next = ap (λ (x : ℕ). eqb x 1) (bit0 f g l);
      write = ap (λ (x : ℕ). eqb x 1) (bit1 f g l);
      indirect = ap (λ (x : ℕ). eqb x 1) (bit2 f g l);
    }
  where
    bit0 : (x y : ℕ) → x % 128 ≡ y % 128 → x / NEXT % 2 ≡ y / NEXT % 2
    bit0 x y h = omega arith

    bit1 : (x y : ℕ) → x % 128 ≡ y % 128 → x / WRITE % 2 ≡ y / WRITE % 2
    bit1 x y h = omega arith

    bit2 : (x y : ℕ) → x % 128 ≡ y % 128 → x / INDIRECT % 2 ≡ y / INDIRECT % 2
    bit2 x y h = omega arith

-- a marked descriptor passes its own test, in its own round and in no other
pub avail_marked : (d : Descriptor) (w v : Bool) → is_avail (mark_avail d w).flags v ≡ beq w v
unfolding is_avail mark_avail
avail_marked d w v = simp ((avail_bits d.flags w).0, (avail_bits d.flags w).1)
    (each_way (λ (a b : Bool). beq a b && not (beq (not a) b) ≡ beq a b) refl refl refl refl w v)

pub used_marked : (d : Descriptor) (w v : Bool) → is_used (mark_used d w).flags v ≡ beq w v
unfolding is_used mark_used
used_marked d w v = simp ((used_bits d.flags w).0, (used_bits d.flags w).1)
    (each_way (λ (a b : Bool). beq a b && beq a b ≡ beq a b) refl refl refl refl w v)

-- what is available is used in no round, and what is used is available in none
pub avail_not_used : (d : Descriptor) (w v : Bool) → is_used (mark_avail d w).flags v ≡ false
unfolding is_used mark_avail
avail_not_used d w v = simp ((avail_bits d.flags w).0, (avail_bits d.flags w).1)
    (each_way (λ (a b : Bool). beq a b && beq (not a) b ≡ false) refl refl refl refl w v)

pub used_not_avail : (d : Descriptor) (w v : Bool) → is_avail (mark_used d w).flags v ≡ false
unfolding is_avail mark_used
used_not_avail d w v = simp ((used_bits d.flags w).0, (used_bits d.flags w).1)
    (each_way (λ (a b : Bool). beq a b && not (beq a b) ≡ false) refl refl refl refl w v)

-- a mark leaves all but the two bits of the round
pub record Keeps (d m : Descriptor) : Type 0 where
  pub addr : m.addr ≡ d.addr
  pub len : m.len ≡ d.len
  pub id : m.id ≡ d.id
  pub flags : SameFlags m.flags d.flags

pub avail_keeps : (d : Descriptor) (w : Bool) → Keeps d (mark_avail d w)
unfolding mark_avail
avail_keeps d w =
    record { addr = refl; len = refl; id = refl; flags = same_flags (others d.flags + cond w AVAIL USED) d.flags (avail_others d.flags w) }

pub used_keeps : (d : Descriptor) (w : Bool) → Keeps d (mark_used d w)
unfolding mark_used
used_keeps d w =
    record { addr = refl; len = refl; id = refl; flags = same_flags (others d.flags + cond w (AVAIL + USED) 0) d.flags (used_others d.flags w) }

-- the two bits of the round, of a marked descriptor
pub marked_avail : (d : Descriptor) (w : Bool) → (has (mark_avail d w).flags AVAIL ≡ w) × (has (mark_avail d w).flags USED ≡ not w)
unfolding mark_avail
marked_avail d w = avail_bits d.flags w

pub marked_used : (d : Descriptor) (w : Bool) → (has (mark_used d w).flags AVAIL ≡ w) × (has (mark_used d w).flags USED ≡ w)
unfolding mark_used
marked_used d w = used_bits d.flags w

-- a marked descriptor is one still
pub used_fields : (len id : ℕ) (w : Bool) → ((mark_used (descriptor 0 len id 0) w).id ≡ id) × ((mark_used (descriptor 0 len id 0) w).len ≡ len)
unfolding mark_used
used_fields len id w = (refl, refl)

pub used_ranged : (len id : ℕ) (w : Bool) → len < 256 ^ 4 → id < 256 ^ 2 → Ranged (mark_used (descriptor 0 len id 0) w)
unfolding mark_used
used_ranged len id w l i = record { addr = omega arith; len = l; id = i; flags = used_fits 0 w }

-- the tests, by one bit of the other round
pub not_avail : (f : ℕ) (w : Bool) → has f AVAIL ≡ not w → is_avail f w ≡ false
unfolding is_avail
not_avail f w e = simp e (flip w)
  where
    flip : (b : Bool) → beq (not b) b && not (beq (has f USED) b) ≡ false
    flip true = refl
    flip false = refl

pub not_used : (f : ℕ) (w : Bool) → has f AVAIL ≡ not w → is_used f w ≡ false
unfolding is_used
not_used f w e = simp e (flip w)
  where
    flip : (b : Bool) → beq (not b) b && beq (has f USED) b ≡ false
    flip true = refl
    flip false = refl

pub not_used_yet : (f : ℕ) (w : Bool) → has f USED ≡ not w → is_used f w ≡ false
unfolding is_used
not_used_yet f w e = simp e (flip (beq (has f AVAIL) w) w)
  where
    flip : (a b : Bool) → a && beq (not b) b ≡ false
    flip true true = refl
    flip true false = refl
    flip false b = refl
