-- The slot of a cursor in the lent bytes (document 01, "Slots, flags and cursors").
use Rattle.std.specs.Prelude.{ℕ, ◌+◌, ◌*◌, List}
use Rattle.base.specs.Bytes.{put_of, get_of}
use Rattle.cursor.specs.declared.RingCursor.{RingCursor}
use Rattle.desc.specs.declared.Descriptor.{Descriptor}
use Rattle.desc.specs.Desc.{encode_of, decode_of}

-- 16 bytes for each slot before it behind the table's start
abbrev pub place_of : ℕ → RingCursor → ℕ
place_of table c = table + c.head * 16

-- the descriptor in the cursor's slot
unfoldable pub slot_of : ℕ → RingCursor → List ℕ → Descriptor
slot_of table c ring = decode_of (get_of ring (place_of table c) 16)

-- the bytes with a descriptor in the cursor's slot
unfoldable pub slot_put : ℕ → RingCursor → Descriptor → List ℕ → List ℕ
slot_put table c d ring = (put_of ring (place_of table c) (encode_of d)).bytes
