-- A region dump: "size u16, table offset u32, then the bytes", the numbers little-endian.
use Rattle.std.specs.Prelude.{ℕ, ◌+◌, List, cond, ◌||◌, ltb, eqb, length, Result, Ok, Err}
use Rattle.base.specs.Bytes.{word_at}
use Rattle.dump.specs.declared.Header.{Header}
use Rattle.dump.specs.declared.BadHeader.{BadHeader}
use Rattle.dump.specs.declared.BadHeader.TheVariants.{NoHeader, BadSize, TableOutside}

-- the first two bytes, and the four behind them
abbrev pub size_of : List ℕ → ℕ
size_of l = word_at l 0 2

abbrev pub table_of : List ℕ → ℕ
table_of l = word_at l 2 4

-- the ring's size and its table's place
abbrev pub ring : ℕ → ℕ → Header
ring size table = record { size = size; table = table }

-- a size and a table that begins at or before the end of the bytes behind the header; "Programs run rings of at most 2,048
-- slots"
unfoldable pub header_of : List ℕ → Result Header BadHeader
header_of l =
    cond (ltb (length l) 6)
    (Err NoHeader)
    (cond (eqb (size_of l) 0 || ltb 2048 (size_of l))
    (Err (BadSize (size_of l)))
    (cond (ltb (length l) (6 + table_of l))
    (Err (TableOutside (table_of l)))
    (Ok (ring (size_of l) (table_of l)))))
