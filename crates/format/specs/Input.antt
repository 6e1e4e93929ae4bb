-- The numbers of a trace ("All numbers are little-endian", docs/TRACE.md). Past the end there are zeros: so `get_or` gives them,
-- and with it `word_at`.
use Rattle.std.specs.Prelude.{ℕ, zero, suc, ◌+◌, List, [], ◌∷◌, Bool, eqb, get_or}
use Rattle.base.specs.Bytes.{word_at}
use Rattle.cursor.specs.declared.RingCursor.{RingCursor}
use Rattle.cursor.specs.Cursor.{at}
use Rattle.event.specs.declared.EventSuppression.{EventSuppression}
use Rattle.event.specs.Event.{event}

-- "A wrap or a flag field is one byte, 0 or 1."
unfoldable pub bit_at : List ℕ → ℕ → Bool
bit_at s k = eqb (get_or s k 0) 1

-- "head u16, wrap u8"
unfoldable pub cursor_at : List ℕ → ℕ → RingCursor
cursor_at s k = at (word_at s k 2) (bit_at s (k + 2))

-- "words u16 u16", behind the op
unfoldable pub event_at : List ℕ → EventSuppression
event_at s = event (word_at s 1 2) (word_at s 3 2)

-- n numbers of w bytes each: the first at place k, each `stride` bytes behind the one before ("n times an address u64 and a
-- length u32" are two of these, "k times id u16" is one)
unfoldable pub numbers_at : ℕ → List ℕ → ℕ → ℕ → ℕ → List ℕ
numbers_at w s k stride zero = []
numbers_at w s k stride (suc n) = word_at s k w ∷ numbers_at w s (k + stride) stride n
