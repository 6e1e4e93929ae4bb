-- An event area (document 01, "Slots, flags and cursors"; VIRTIO 1.1, 2.7.10 and 2.7.14).
use Rattle.std.specs.Prelude.{ℕ, ◌+◌, ◌*◌, ◌/◌, ◌%◌, List, ◌++◌, Bool, cond, eqb}
use Rattle.base.specs.Bytes.{bytes_of, word_at}
use Rattle.event.specs.declared.EventSuppression.{EventSuppression}

-- "ENABLE 0, DISABLE 1, DESC 2"
abbrev pub ENABLE : ℕ
ENABLE = 0

abbrev pub DISABLE : ℕ
DISABLE = 1

abbrev pub DESC : ℕ
DESC = 2

-- an area's two words
abbrev pub event : ℕ → ℕ → EventSuppression
event o f = record { off_wrap = o; flags = f }

-- "offset in the low 15 bits and wrap in bit 15 of the first word; flags in the low two bits of the second"
abbrev pub off_of : EventSuppression → ℕ
off_of e = e.off_wrap % 32768

abbrev pub wrap_of : EventSuppression → Bool
wrap_of e = eqb (e.off_wrap / 32768) 1

abbrev pub flags_of : EventSuppression → ℕ
flags_of e = e.flags % 4

-- "Setting flags keeps the other 14 bits."
unfoldable pub set_flags : EventSuppression → ℕ → EventSuppression
set_flags e f = event e.off_wrap (e.flags / 4 * 4 + f % 4)

-- "the offset given is taken modulo 32,768"
unfoldable pub set_desc_event : EventSuppression → ℕ → Bool → EventSuppression
set_desc_event e o w = event (o % 32768 + cond w 32768 0) e.flags

-- "Event area, 4 bytes": the first word, then the second, each little-endian
unfoldable pub encode_of : EventSuppression → List ℕ
encode_of e = bytes_of 2 e.off_wrap ++ bytes_of 2 e.flags

-- the area of four bytes: the same words, from the same places
unfoldable pub decode_of : List ℕ → EventSuppression
decode_of bs = event (word_at bs 0 2) (word_at bs 2 2)
