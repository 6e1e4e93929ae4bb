-- The descriptor, for writing and for reading (VIRTIO 1.1, 2.7.13).
-- Assumes nothing.
use Prim.Native.Nat.{ℕ}
use mathlib.Core.Path.{◌≡◌, sym, ◌∙◌, ap, ap₂}
use mathlib.Core.List.{List, ◌++◌, append-nil}
use lib.ListN.{length}
use Rattle.base.proofs.Words.{Bytes, word_below}
use Rattle.desc.specs.declared.Descriptor.{Descriptor}
use Rattle.desc.specs.Desc.{encode_of, decode_of}
use Rattle.desc.proofs.Trips.{Ranged, decode_encode, encode_decode}
use Rattle.virtio.specs.Packed.{little_endian, image, pvirtq_desc}
use Rattle.virtio.proofs.Bytes.{bytes_document}

-- the document's structure of a descriptor
abbrev pub fields : Descriptor → List ℕ
fields d = image (pvirtq_desc d.addr d.len d.id d.flags)

-- writing: the bytes that encode gives are the document's fields of that descriptor
pub encode_document : (d : Descriptor) → encode_of d ≡ fields d
unfolding encode_of image
encode_document d =
    ap₂ ◌++◌ (bytes_document 8 d.addr)
    (ap₂ ◌++◌ (bytes_document 4 d.len)
    (ap₂ ◌++◌ (bytes_document 2 d.id)
    (bytes_document 2 d.flags ∙ sym (append-nil (little_endian 0 2 d.flags)))))

-- reading: of any sixteen bytes, decode gives fields in their ranges whose structure is those bytes
pub decode_document : (bs : List ℕ) → Bytes bs → length bs ≡ 16 → fields (decode_of bs) ≡ bs
decode_document bs b e = sym (encode_document (decode_of bs)) ∙ encode_decode bs b e

pub decode_ranged : (bs : List ℕ) → Bytes bs → Ranged (decode_of bs)
unfolding decode_of
decode_ranged bs b =
    record {
      addr = word_below bs 0 8 b;
      len = word_below bs 8 4 b;
      id = word_below bs 12 2 b;
      flags = word_below bs 14 2 b;
    }

-- and no other fields in their ranges have them
pub decode_only : (d : Descriptor) (bs : List ℕ) → Ranged d → fields d ≡ bs → decode_of bs ≡ d
decode_only d bs r e = ap decode_of (sym e ∙ sym (encode_document d)) ∙ decode_encode d r
