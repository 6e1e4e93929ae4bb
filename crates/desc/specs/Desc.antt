-- A descriptor and its sixteen bytes (document 01, "Slots, flags and cursors"; VIRTIO 1.1, 2.7.13).
use Rattle.std.specs.Prelude.{ℕ, ◌+◌, List, ◌++◌, Bool, cond}
use Rattle.base.specs.Bytes.{bytes_of, word_at}
use Rattle.desc.specs.declared.Descriptor.{Descriptor}
use Rattle.desc.specs.Flags.{AVAIL, USED, others}

-- a descriptor's fields: address, length, ID, flags
abbrev pub descriptor : ℕ → ℕ → ℕ → ℕ → Descriptor
descriptor a l i f = record { addr = a; len = l; id = i; flags = f }

-- "A descriptor is 16 bytes, little-endian: address 8 at 0, length 4 at 8, ID 2 at 12, flags 2 at 14."
unfoldable pub encode_of : Descriptor → List ℕ
encode_of d = bytes_of 8 d.addr ++ (bytes_of 4 d.len ++ (bytes_of 2 d.id ++ bytes_of 2 d.flags))

-- the descriptor of sixteen bytes: the same fields, from the same places
unfoldable pub decode_of : List ℕ → Descriptor
decode_of bs = descriptor (word_at bs 0 8) (word_at bs 8 4) (word_at bs 12 2) (word_at bs 14 2)

-- made available in round w, "AVAIL equals w and USED differs from w" (2.7.1); every other bit is kept
unfoldable pub mark_avail : Descriptor → Bool → Descriptor
mark_avail d w = descriptor d.addr d.len d.id (others d.flags + cond w AVAIL USED)

-- marked used in round w, "both equal w" (2.7.1); every other bit is kept
unfoldable pub mark_used : Descriptor → Bool → Descriptor
mark_used d w = descriptor d.addr d.len d.id (others d.flags + cond w (AVAIL + USED) 0)
