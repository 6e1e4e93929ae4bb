-- Lent bytes stay bytes, and a slot that decodes to a descriptor holds the document's structure of it (VIRTIO 1.1, 2.7.13).
-- Assumes nothing.
use Prim.Native.Nat.{ℕ, suc, ◌+◌, ◌*◌, ◌≤◌, ◌<◌}
use mathlib.Core.Path.{◌≡◌, sym, ◌∙◌, ap, subst}
use mathlib.Core.List.{List, [], ◌∷◌}
use mathlib.Core.Bool.{false}
use native.Mathlib.Omega.{arith}
use lib.ListN.{length, get_or, take, drop, set, get_or-eq_default, length-set}
use lib.Seq.{sets, get_or-set_same, get_or-set_other}
use Rattle.base.specs.Answer as base
use Rattle.base.specs.Bytes.{put_of, get_of}
use Rattle.base.proofs.Tests.{by_lt, by_eq}
use Rattle.base.proofs.Words.{Bytes}
use Rattle.base.proofs.Runs.{put_fits, put_short, get_fits, part_length, part_at}
use Rattle.cursor.specs.declared.RingCursor.{RingCursor}
use Rattle.desc.specs.declared.Descriptor.{Descriptor}
use Rattle.desc.specs.Flags.{known}
use Rattle.desc.specs.Desc.{descriptor, encode_of, decode_of}
use Rattle.desc.proofs.Trips.{Ranged, encode_bytes}
use Rattle.ring.specs.Slots.{place_of, slot_of, slot_put}
use Rattle.ring.proofs.Frames.{slot_decoded, slot_stored}
use Rattle.virtio.specs.Packed.{bit_at, AVAIL_BIT, USED_BIT, Reserved}
use Rattle.virtio.specs.Chains.{DescAt}
use Rattle.virtio.proofs.Descriptor.{fields, decode_document, decode_only}
use Rattle.virtio.proofs.Rounds.{known_others}

-- ---- bytes stay bytes

low : {x y : ℕ} → x ≡ y → y < 256 → x < 256
low e h = omega arith

set_bytes : (l : List ℕ) (i v : ℕ) → Bytes l → v < 256 → Bytes (set l i v)
set_bytes l i v b h j =
    by_eq j i
    (λ e. by_lt j (length l)
    (λ q. low (ap (λ (k : ℕ). get_or (set l k v) j 0) (sym e) ∙ get_or-set_same l j v 0 q) h)
    (λ q. low (get_or-eq_default (set l i v) 0 {n = j} (omega (arith, length-set l i v))) (omega arith)))
    (λ n. low (get_or-set_other l i j v 0 n) (b j))

sets_bytes : (vs l : List ℕ) (i : ℕ) → Bytes l → Bytes vs → Bytes (sets l i vs)
sets_bytes [] l i b h = b
sets_bytes (v ∷ vs) l i b h = sets_bytes vs (set l i v) (suc i) (set_bytes l i v b (h 0)) (λ j. h (suc j))

put_bytes : (l : List ℕ) (i : ℕ) (bs : List ℕ) → Bytes l → Bytes bs → Bytes (put_of l i bs).bytes
put_bytes l i bs b h =
    by_lt (length l) (i + length bs)
    (λ q. subst (λ (o : base.Outcome). Bytes o.bytes) (sym (put_short l i bs q)) b)
    (λ q. subst (λ (o : base.Outcome). Bytes o.bytes) (sym (put_fits l i bs q)) (sets_bytes bs l i b h))

pub slot_bytes : (table : ℕ) (c : RingCursor) (d : Descriptor) (ring : List ℕ) → Bytes ring → Bytes (slot_put table c d ring)
slot_bytes table c d ring b =
    subst (λ (l : List ℕ). Bytes l) (sym (slot_stored table c d ring)) (put_bytes ring (place_of table c) (encode_of d) b (encode_bytes d))

part_bytes : (l : List ℕ) (i n : ℕ) → Bytes l → i + n ≤ length l → Bytes (take n (drop i l))
part_bytes l i n b h k =
    by_lt k n
    (λ q. low (part_at l i n k q) (b (i + k)))
    (λ q. low (get_or-eq_default (take n (drop i l)) 0 {n = k} (omega (arith, part_length l i n h))) (omega arith))

-- ---- a slot that decodes to a descriptor holds the document's structure of it, and the other way round

place : (t s : ℕ) → t + 16 * s ≡ t + s * 16
place t s = omega arith

pub slot_there :
    (table : ℕ) (c : RingCursor) (ring : List ℕ) (d : Descriptor) → Bytes ring → place_of table c + 16 ≤ length ring → Ranged d
    → slot_of table c ring ≡ d → DescAt ring table c.head d.addr d.len d.id d.flags
slot_there table c ring d b h r e =
    let at = place_of table c in
    let bs = take 16 (drop at ring) in
    record {
      addr_64 = r.addr;
      len_32 = r.len;
      id_16 = r.id;
      flags_16 = r.flags;
      there =
          ap (λ (n : ℕ). take 16 (drop n ring)) (place table c.head)
          ∙ sym (decode_document bs (part_bytes ring at 16 b h) (part_length ring at 16 h))
          ∙ ap fields (ap decode_of (sym (get_fits ring at 16 h)) ∙ sym (slot_decoded table c ring) ∙ e);
    }

pub slot_read :
    (table : ℕ) (c : RingCursor) (ring : List ℕ) (addr len id flags : ℕ) → place_of table c + 16 ≤ length ring
    → DescAt ring table c.head addr len id flags → slot_of table c ring ≡ descriptor addr len id flags
slot_read table c ring addr len id flags h d =
    let at = place_of table c in
    slot_decoded table c ring
    ∙ decode_only (descriptor addr len id flags) (get_of ring at 16)
    (record { addr = d.addr_64; len = d.len_32; id = d.id_16; flags = d.flags_16 })
    (sym (get_fits ring at 16 h ∙ ap (λ (n : ℕ). take 16 (drop n ring)) (sym (place table c.head)) ∙ d.there))

-- the same descriptor, by other names of its slot and fields
pub moved :
    {ring : List ℕ} {table flags s s' addr addr' len len' id id' : ℕ} → s ≡ s' → addr ≡ addr' → len ≡ len' → id ≡ id'
    → DescAt ring table s addr len id flags → DescAt ring table s' addr' len' id' flags
moved {ring} {table} {flags} p a l i d = coe 0 1 (k. DescAt ring table (p k) (a k) (l k) (i k) flags) d

-- a reserved bit that is not set in the flags before a mark is not set behind it
pub unset :
    (f g k : ℕ) → ((k ≡ AVAIL_BIT → ⊥) → (k ≡ USED_BIT → ⊥) → bit_at k g ≡ bit_at k f) → (known f ≡ f) × (f < 65536)
    → Reserved k → bit_at k g ≡ false
unset f g k same h r = same r.avail r.used ∙ ap (bit_at k) (sym h.0) ∙ known_others f k h.1 r
