-- What a store into a slot or an event area leaves of the bytes: their number, and all that lies apart. A slot that was written is
-- read back.
-- Assumes nothing.
use Prim.Native.Nat.{ℕ, zero, suc, ◌+◌, ◌*◌, ◌≤◌, ◌<◌}
use mathlib.Core.Path.{◌≡◌, refl, sym, ◌∙◌, ap, subst}
use mathlib.Core.Logic.{◌⊎◌, inl, inr}
use mathlib.Core.List.{List, [], ◌∷◌}
use mathlib.Core.Bool.{Bool}
use native.Mathlib.Omega.{arith}
use native.Mathlib.Nat.{add-zero, suc-add, add-suc}
use lib.Dec.{eqb}
use lib.ListN.{length, get_or, set, replicate, length-set, length-replicate, get_or-replicate}
use lib.Seq.{sets, length-sets, get_or-set_same, get_or-set_other, ext_get_or}
use Rattle.base.specs.Answer.{Outcome}
use Rattle.base.specs.Bytes.{put_of, get_of}
use Rattle.base.proofs.Tests.{by_lt, chosen}
use Rattle.base.proofs.Runs.{put_fits, put_short, get_fits, get_length, get_same, get_other, part_at}
use Rattle.cursor.specs.declared.RingCursor.{RingCursor}
use Rattle.desc.specs.declared.Descriptor.{Descriptor}
use Rattle.desc.specs.Desc.{descriptor, encode_of, decode_of}
use Rattle.desc.proofs.Trips.{Ranged, encode_length, decode_encode, decode_zeros}
use Rattle.event.specs.declared.EventSuppression.{EventSuppression}
use Rattle.event.specs.Event as events
use Rattle.event.proofs.Trips as event_trips
use Rattle.ring.specs.Slots.{place_of, slot_of, slot_put}
use Rattle.notify.specs.Notify.{notify_of}
use Rattle.ring.specs.Events.{event_at, event_put, turned, armed, told}

-- m bytes from j lie behind n bytes from i, or before them
abbrev pub Clear : ℕ → ℕ → ℕ → ℕ → Type 0
Clear i n j m = (i + n ≤ j) ⊎ (j + m ≤ i)

-- ---- any store

module _ (l : List ℕ) (i : ℕ) (bs : List ℕ) where
  pub put_length : length (put_of l i bs).bytes ≡ length l
  put_length =
      by_lt (length l) (i + length bs)
      (λ h. ap (λ (o : Outcome). length o.bytes) (put_short l i bs h))
      (λ h. ap (λ (o : Outcome). length o.bytes) (put_fits l i bs h) ∙ length-sets l i bs)

  pub put_clear : (j m : ℕ) → Clear i (length bs) j m → get_of (put_of l i bs).bytes j m ≡ get_of l j m
  put_clear j m o =
      by_lt (length l) (i + length bs)
      (λ h. ap (λ (x : Outcome). get_of x.bytes j m) (put_short l i bs h))
      (λ h. ap (λ (x : Outcome). get_of x.bytes j m) (put_fits l i bs h) ∙ get_other bs l i m j o)

-- ---- a slot

-- the slot is what its sixteen bytes decode to, and putting a descriptor there is storing what it encodes to
pub slot_decoded : (table : ℕ) (c : RingCursor) (ring : List ℕ) → slot_of table c ring ≡ decode_of (get_of ring (place_of table c) 16)
unfolding slot_of
slot_decoded table c ring = refl

pub slot_stored :
    (table : ℕ) (c : RingCursor) (d : Descriptor) (ring : List ℕ) → slot_put table c d ring ≡ (put_of ring (place_of table c) (encode_of d)).bytes
unfolding slot_put
slot_stored table c d ring = refl

-- a slot is told by its sixteen bytes
pub slot_by_bytes :
    (table : ℕ) (k : RingCursor) (l m : List ℕ) → get_of l (place_of table k) 16 ≡ get_of m (place_of table k) 16 → slot_of table k l ≡ slot_of table k m
unfolding slot_of
slot_by_bytes table k l m e = ap decode_of e

-- and by its head: the round is not in its place
pub slot_by_head : (table : ℕ) (c k : RingCursor) (ring : List ℕ) → c.head ≡ k.head → slot_of table c ring ≡ slot_of table k ring
unfolding slot_of
slot_by_head table c k ring e = ap (λ (h : ℕ). decode_of (get_of ring (table + h * 16) 16)) e

module _ (table : ℕ) (c : RingCursor) (d : Descriptor) (ring : List ℕ) where
  pub slot_length : length (slot_put table c d ring) ≡ length ring
  unfolding slot_put
  slot_length = put_length ring (place_of table c) (encode_of d)

  pub slot_clear : (j m : ℕ) → Clear (place_of table c) 16 j m → get_of (slot_put table c d ring) j m ≡ get_of ring j m
  unfolding slot_put
  slot_clear j m o =
      put_clear ring (place_of table c) (encode_of d) j m
      (subst (λ (n : ℕ). Clear (place_of table c) n j m) (sym (encode_length d)) o)

  -- "reading back": the slot itself
  pub slot_same : place_of table c + 16 ≤ length ring → Ranged d → slot_of table c (slot_put table c d ring) ≡ d
  unfolding slot_of slot_put
  slot_same h r =
      let n = encode_length d in
      ap (λ (o : Outcome). decode_of (get_of o.bytes (place_of table c) 16)) (put_fits ring (place_of table c) (encode_of d) (omega arith))
      ∙ ap (λ (m : ℕ). decode_of (get_of (sets ring (place_of table c) (encode_of d)) (place_of table c) m)) (sym n)
      ∙ ap decode_of (get_same (encode_of d) ring (place_of table c) (omega arith))
      ∙ decode_encode d r

  -- another slot
  pub slot_other : (k : RingCursor) → (c.head ≡ k.head → ⊥) → slot_of table k (slot_put table c d ring) ≡ slot_of table k ring
  slot_other k h =
      slot_by_bytes table k (slot_put table c d ring) ring
      (slot_clear (place_of table k) 16
      (by_lt c.head k.head (λ l. inl (omega arith)) (λ l. inr (behind c.head k.head l h))))
    where
      behind : (x y : ℕ) → y ≤ x → (x ≡ y → ⊥) → table + y * 16 + 16 ≤ table + x * 16
      behind x y l h = by_lt y x (λ q. omega arith) (λ q. absurd (h (omega arith)))

-- a slot of zero bytes
pub slot_zero :
    (table : ℕ) (c : RingCursor) (ring : List ℕ) → place_of table c + 16 ≤ length ring
    → ((k : ℕ) → k < 16 → get_or ring (place_of table c + k) 0 ≡ 0) → slot_of table c ring ≡ descriptor 0 0 0 0
unfolding slot_of
slot_zero table c ring h z =
    let p = place_of table c in
    let n : length (get_of ring p 16) ≡ 16 = get_length ring p 16 in
    ap decode_of
    (ext_get_or 0 (get_of ring p 16) (replicate 16 0) (n ∙ sym (length-replicate {A = ℕ} 16 0))
    (λ k q.
    ap (λ (l : List ℕ). get_or l k 0) (get_fits ring p 16 h) ∙ part_at ring p 16 k (omega (arith, n)) ∙ z k (omega (arith, n))
    ∙ sym (get_or-replicate {A = ℕ} 16 k 0 0 (omega (arith, n)))))
    ∙ decode_zeros

-- ---- an event area

module _ (at : ℕ) (ring : List ℕ) where
  -- bytes that differ from these in the event area alone
  pub record EventAlone (bytes : List ℕ) : Type 0 where
    pub same_length : length bytes ≡ length ring
    pub clear : (j m : ℕ) → Clear at 4 j m → get_of bytes j m ≡ get_of ring j m

  pub event_kept : EventAlone ring
  event_kept = record { same_length = refl; clear = λ j m o. refl }

  pub event_alone : (e : EventSuppression) → EventAlone (event_put at e ring)
  event_alone e =
      record {
        same_length = put_length ring at (events.encode_of e);
        clear =
            λ j m o. put_clear ring at (events.encode_of e) j m (subst (λ (n : ℕ). Clear at n j m) (sym (event_trips.encode_length e)) o);
      }

  pub turned_alone : (shadow flags : ℕ) → EventAlone (turned at shadow flags ring)
  unfolding turned
  turned_alone shadow flags =
      let e = events.set_flags (event_at at ring) flags in
      chosen EventAlone (eqb shadow flags) ring (event_put at e ring) event_kept (event_alone e)

  pub armed_alone : (off : ℕ) (wrap : Bool) → EventAlone (armed at off wrap ring)
  unfolding armed
  armed_alone off wrap = event_alone (events.set_flags (events.set_desc_event (event_at at ring) off wrap) events.DESC)

-- what an event area asks is told by its four bytes
pub told_by_bytes :
    (at size : ℕ) (old new : RingCursor) (l m : List ℕ) → get_of l at 4 ≡ get_of m at 4 → told at size old new l ≡ told at size old new m
unfolding told
told_by_bytes at size old new l m e = ap (λ (bs : List ℕ). notify_of (events.decode_of bs) size old new) e

-- ---- entries of a table, or of an output

-- a run of stores leaves what lies behind it, and before it
pub sets_behind : (vs l : List ℕ) (i j : ℕ) → i + length vs ≤ j → get_or (sets l i vs) j 0 ≡ get_or l j 0
sets_behind [] l i j h = refl
sets_behind (v ∷ vs) l i j h =
    sets_behind vs (set l i v) (suc i) j (omega arith) ∙ get_or-set_other l i j v 0 (λ e. omega arith)

pub sets_before : (vs l : List ℕ) (i j : ℕ) → j < i → get_or (sets l i vs) j 0 ≡ get_or l j 0
sets_before [] l i j h = refl
sets_before (v ∷ vs) l i j h =
    sets_before vs (set l i v) (suc i) j (omega arith) ∙ get_or-set_other l i j v 0 (λ e. omega arith)

-- and what was stored stands there
pub sets_at : (vs l : List ℕ) (i k : ℕ) → k < length vs → i + length vs ≤ length l → get_or (sets l i vs) (i + k) 0 ≡ get_or vs k 0
sets_at [] l i k q h = absurd (omega arith)
sets_at (v ∷ vs) l i zero q h =
    ap (λ (j : ℕ). get_or (sets (set l i v) (suc i) vs) j 0) (add-zero i)
    ∙ sets_before vs (set l i v) (suc i) i (omega arith) ∙ get_or-set_same l i v 0 (omega arith)
sets_at (v ∷ vs) l i (suc k) q h =
    ap (λ (j : ℕ). get_or (sets (set l i v) (suc i) vs) j 0) (add-suc i k ∙ sym (suc-add i k))
    ∙ sets_at vs (set l i v) (suc i) k (omega arith) (omega (arith, length-set l i v))
