-- Fields that a trace forges (docs/TRACE.md, ops 66 and 67: "Fields of 66 and 67"). The field at hand gets the value, and
-- every other stays.
use Rattle.std.specs.Prelude.{ℕ, ◌%◌, Bool, cond, eqb}
use Rattle.cursor.specs.declared.RingCursor.{RingCursor}
use Rattle.cursor.specs.Cursor.{at}
use Rattle.layout.specs.declared.Layout.{Layout}
use Rattle.layout.specs.Layout.{layout}

-- "A value is taken modulo its field's width: size, heads, num_free, num_inflight, height and shadow 16 bits"
abbrev pub low16 : ℕ → ℕ
low16 v = v % 65536

abbrev pub half_of : ℕ → ℕ → ℕ → ℕ → ℕ
half_of old number field v = cond (eqb field number) (low16 v) old

-- "the three offsets 64": the value is of 64 bits
abbrev pub offset_of : ℕ → ℕ → ℕ → ℕ → ℕ
offset_of old number field v = cond (eqb field number) v old

-- "wraps modulo 2"
abbrev pub wrap_of : Bool → ℕ → ℕ → ℕ → Bool
wrap_of old number field v = cond (eqb field number) (eqb (v % 2) 1) old

-- "0 size, 1 table, 2 driver event, 3 device event"
unfoldable pub geometry_of : Layout → ℕ → ℕ → Layout
geometry_of l field v =
    layout
    (half_of l.size 0 field v)
    (offset_of l.table 1 field v)
    (offset_of l.driver 2 field v)
    (offset_of l.device 3 field v)

-- a cursor whose head and wrap have these numbers: "4 avail head, 5 avail wrap, 6 used head, 7 used wrap"
unfoldable pub cursor_of : RingCursor → ℕ → ℕ → ℕ → ℕ → RingCursor
cursor_of c head wrap field v = at (half_of c.head head field v) (wrap_of c.wrap wrap field v)
