-- How much of what there is the ends are lent (docs/TRACE.md, "Header" and op 69).
use Rattle.std.specs.Prelude.{ℕ, min, List}
use Rattle.base.specs.Bytes.{word_at}
use Rattle.format.specs.declared.lend.Lent.{Lent}

-- "bytes u32, free IDs u32, producer counts u32, consumer counts u32, output addresses u32, output lengths u32"
abbrev pub lent : ℕ → ℕ → ℕ → ℕ → ℕ → ℕ → Lent
lent b i t h a l = record { bytes = b; ids = i; taken = t; held = h; addrs = a; lens = l }

-- the whole region; "Three lent tables .. and the two poll outputs have 2,048 entries each"
unfoldable pub whole_of : ℕ → Lent
whole_of region = lent region 2048 2048 2048 2048 2048

-- op 69: "each number is cut to what there is", that of the bytes here, the others where their slices are lent
unfoldable pub lent_of : List ℕ → ℕ → Lent
lent_of s region =
    lent (min (word_at s 1 4) region) (word_at s 5 4) (word_at s 9 4) (word_at s 13 4) (word_at s 17 4) (word_at s 21 4)
