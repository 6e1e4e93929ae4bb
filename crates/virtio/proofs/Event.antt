-- The event suppression structure, for writing and for reading (VIRTIO 1.1, 2.7.10 and 2.7.14).
-- Assumes nothing.
use Prim.Native.Nat.{ℕ, ◌+◌, ◌*◌, ◌/◌, ◌%◌, ◌^◌, ◌<◌}
use mathlib.Core.Path.{◌≡◌, refl, sym, ◌∙◌, ap, ap₂}
use mathlib.Core.List.{List, [], ◌++◌, append-nil}
use mathlib.Core.Bool.{Bool, true, false, cond}
use native.Mathlib.Omega.{arith}
use lib.ListN.{length}
use lib.Dec.{eqb}
use borrow.Author.Tests.{eq-eqb, ne_eqb}
use Rattle.base.specs.Bytes.{bytes_of}
use Rattle.base.proofs.Tests.{by_eq}
use Rattle.base.proofs.Words.{Bytes, word_below}
use Rattle.event.specs.declared.EventSuppression.{EventSuppression}
use Rattle.event.specs.Event.{ENABLE, DISABLE, DESC, event, off_of, wrap_of, flags_of, set_flags, set_desc_event, encode_of, decode_of}
use Rattle.event.proofs.Trips.{Ranged, decode_encode, encode_decode}
use Rattle.virtio.specs.Packed.{little_endian, image, pvirtq_event_suppress, EventRanged, RING_EVENT_FLAGS_ENABLE, RING_EVENT_FLAGS_DISABLE}
use Rattle.virtio.specs.Packed.{RING_EVENT_FLAGS_DESC}
use Rattle.virtio.proofs.Bytes.{bytes_document}

-- the fourteen reserved bits
abbrev pub reserved_of : EventSuppression → ℕ
reserved_of e = e.flags / 4

-- the document's structure of an event area
abbrev pub fields : EventSuppression → List ℕ
fields e = image (pvirtq_event_suppress (off_of e) (wrap_of e) (flags_of e) (reserved_of e))

-- a word of 16 bits is its low 15 and its top one
split_word : (x : ℕ) → x < 256 ^ 2 → x ≡ x % 32768 + 2 ^ 15 * cond (eqb (x / 32768) 1) 1 0
split_word x h =
    by_eq (x / 32768) 1
    (λ t. rw (eq-eqb (x / 32768) 1 t) (omega arith))
    (λ t. rw (ne_eqb (x / 32768) 1 t) (omega arith))

-- writing: the bytes of an event area are the document's fields
pub encode_document : (e : EventSuppression) → Ranged e → encode_of e ≡ fields e
unfolding encode_of image
encode_document e r =
    ap₂ ◌++◌
    (ap (bytes_of 2) (split_word e.off_wrap r.off) ∙ bytes_document 2 (off_of e + 2 ^ 15 * cond (wrap_of e) 1 0))
    (ap (bytes_of 2) (parts e.flags) ∙ bytes_document 2 (flags_of e + 2 ^ 2 * reserved_of e)
    ∙ sym (append-nil (little_endian 0 2 (flags_of e + 2 ^ 2 * reserved_of e))))
  where
    parts : (x : ℕ) → x ≡ x % 4 + 2 ^ 2 * (x / 4)
    parts x = omega arith

-- reading: of any four bytes, decode gives the fields whose structure is those bytes
pub decode_ranged : (bs : List ℕ) → Bytes bs → Ranged (decode_of bs)
unfolding decode_of
decode_ranged bs b = record { off = word_below bs 0 2 b; flags = word_below bs 2 2 b }

pub decode_document : (bs : List ℕ) → Bytes bs → length bs ≡ 4 → fields (decode_of bs) ≡ bs
decode_document bs b e = sym (encode_document (decode_of bs) (decode_ranged bs b)) ∙ encode_decode bs b e

-- and no other area has them
pub decode_only : (e : EventSuppression) (bs : List ℕ) → Ranged e → fields e ≡ bs → decode_of bs ≡ e
decode_only e bs r h = ap decode_of (sym h ∙ sym (encode_document e r)) ∙ decode_encode e r

-- an area's bytes are its words', one after the other
whole : (x y : ℕ) → encode_of (event x y) ≡ bytes_of 2 x ++ bytes_of 2 y
unfolding encode_of
whole x y = refl

-- the fields that are read off any four bytes are as wide as the document's
pub read_ranged : (bs : List ℕ) → Bytes bs → EventRanged (off_of (decode_of bs)) (flags_of (decode_of bs)) (reserved_of (decode_of bs))
read_ranged bs b =
    record { fifteen = omega arith; two = omega arith; fourteen = top (decode_of bs).flags (decode_ranged bs b).flags }
  where
    top : (x : ℕ) → x < 256 ^ 2 → x / 4 < 2 ^ 14
    top x h = omega arith

-- and whatever fields of those widths the document's structure was made of, these are read
pub record Read (e : EventSuppression) (o : ℕ) (w : Bool) (f r : ℕ) : Type 0 where
  pub off : off_of e ≡ o
  pub wrap : wrap_of e ≡ w
  pub flags : flags_of e ≡ f
  pub reserved : reserved_of e ≡ r

pub read_document :
    (o : ℕ) (w : Bool) (f r : ℕ) → EventRanged o f r → Read (decode_of (image (pvirtq_event_suppress o w f r))) o w f r
unfolding image
read_document o w f r h =
    let x : ℕ = o + 2 ^ 15 * cond w 1 0 in
    let y : ℕ = f + 2 ^ 2 * r in
    let e : decode_of (little_endian 0 2 x ++ (little_endian 0 2 y ++ [])) ≡ event x y =
    ap decode_of
    (ap₂ ◌++◌ (sym (bytes_document 2 x)) (append-nil (little_endian 0 2 y) ∙ sym (bytes_document 2 y)) ∙ sym (whole x y))
    ∙ decode_encode (event x y) (record { off = first o w h.fifteen; flags = second f r h.two h.fourteen }) in
    rw e
    (record {
      off = low o w h.fifteen;
      wrap = top o w h.fifteen;
      flags = rest f r h.two;
      reserved = above f r h.two;
    })
  where
    first : (x : ℕ) (b : Bool) → x < 2 ^ 15 → x + 2 ^ 15 * cond b 1 0 < 256 ^ 2
    first x true h = omega arith
    first x false h = omega arith

    second : (x y : ℕ) → x < 2 ^ 2 → y < 2 ^ 14 → x + 2 ^ 2 * y < 256 ^ 2
    second x y h g = omega arith

    low : (x : ℕ) (b : Bool) → x < 2 ^ 15 → (x + 2 ^ 15 * cond b 1 0) % 32768 ≡ x
    low x true h = omega arith
    low x false h = omega arith

    top : (x : ℕ) (b : Bool) → x < 2 ^ 15 → eqb ((x + 2 ^ 15 * cond b 1 0) / 32768) 1 ≡ b
    top x true h = eq-eqb ((x + 2 ^ 15 * 1) / 32768) 1 (omega arith)
    top x false h = ne_eqb ((x + 2 ^ 15 * 0) / 32768) 1 (λ e. omega arith)

    rest : (x y : ℕ) → x < 2 ^ 2 → (x + 2 ^ 2 * y) % 4 ≡ x
    rest x y h = omega arith

    above : (x y : ℕ) → x < 2 ^ 2 → (x + 2 ^ 2 * y) / 4 ≡ y
    above x y h = omega arith

-- the flags' values are the document's
pub record SameValues : Type 0 where
  pub enable : ENABLE ≡ RING_EVENT_FLAGS_ENABLE
  pub disable : DISABLE ≡ RING_EVENT_FLAGS_DISABLE
  pub desc : DESC ≡ RING_EVENT_FLAGS_DESC

pub same_values : SameValues
same_values = record { enable = refl; disable = refl; desc = refl }

-- setting the flags sets the document's flags and no other field
pub record FlagsSet (e d : EventSuppression) (f : ℕ) : Type 0 where
  pub flags : flags_of d ≡ f % 4
  pub reserved : reserved_of d ≡ reserved_of e
  pub off : off_of d ≡ off_of e
  pub wrap : wrap_of d ≡ wrap_of e

pub set_flags_document : (e : EventSuppression) (f : ℕ) → FlagsSet e (set_flags e f) f
unfolding set_flags
set_flags_document e f =
    record { flags = low (e.flags / 4) (f % 4) (omega arith); reserved = high (e.flags / 4) (f % 4) (omega arith); off = refl; wrap = refl }
  where
    low : (q r : ℕ) → r < 4 → (q * 4 + r) % 4 ≡ r
    low q r h = omega arith

    high : (q r : ℕ) → r < 4 → (q * 4 + r) / 4 ≡ q
    high q r h = omega arith

-- arming sets offset and wrap, the offset modulo 32,768, and no other field
pub record EventSet (e d : EventSuppression) (o : ℕ) (w : Bool) : Type 0 where
  pub off : off_of d ≡ o % 32768
  pub wrap : wrap_of d ≡ w
  pub flags : flags_of d ≡ flags_of e
  pub reserved : reserved_of d ≡ reserved_of e

pub set_desc_event_document : (e : EventSuppression) (o : ℕ) (w : Bool) → EventSet e (set_desc_event e o w) o w
unfolding set_desc_event
set_desc_event_document e o w =
    record { off = low (o % 32768) w (omega arith); wrap = top (o % 32768) w (omega arith); flags = refl; reserved = refl }
  where
    low : (x : ℕ) (b : Bool) → x < 32768 → (x + cond b 32768 0) % 32768 ≡ x
    low x true h = omega arith
    low x false h = omega arith

    top : (x : ℕ) (b : Bool) → x < 32768 → eqb ((x + cond b 32768 0) / 32768) 1 ≡ b
    top x true h = eq-eqb ((x + 32768) / 32768) 1 (omega arith)
    top x false h = ne_eqb ((x + 0) / 32768) 1 (λ e. omega arith)
