-- A trace's header (docs/TRACE.md, "Header: ten u32"): "magic 0x31515650, size, table offset, driver event offset, device event
-- offset, region length (at most 65,536), seed, hash_every, number of records, 0".
use Rattle.std.specs.Prelude.{ℕ, ◌*◌, List, Bool, not, cond, ◌||◌, ltb, eqb, length, Option, None, Some}
use Rattle.base.specs.Bytes.{word_at}
use Rattle.layout.specs.declared.Layout.{Layout}
use Rattle.layout.specs.Layout.{layout}
use Rattle.format.specs.declared.header.Header.{Header}

-- the header's number i, counted from 0
abbrev pub number_of : ℕ → List ℕ → ℕ
number_of i s = word_at s (i * 4) 4

-- "Bad magic, a region above 65,536, a header size above 65,535"; "A header under 40 bytes is cut; its last number is not
-- looked at."
unfoldable pub bad_header : List ℕ → Bool
bad_header s =
    ltb (length s) 40
    || (not (eqb (number_of 0 s) 0x31515650)
    || (ltb 65535 (number_of 1 s) || ltb 65536 (number_of 5 s)))

-- what a run needs of a header: how long the region is, how often its hash is told, how many records follow; or none, where it is bad
unfoldable pub header_of : List ℕ → Option Header
header_of s =
    cond (bad_header s)
    None
    (Some (record { region = number_of 5 s; every = number_of 7 s; records = number_of 8 s }))

-- the number that the region's first bytes are made of
unfoldable pub seed_of : List ℕ → ℕ
seed_of s = number_of 6 s

-- where a header (op 0) has the ring, its size taken from the low half of a number that is at most 65,535, or a record of op
-- 74 or 75: "size u16, table u64, driver u64, device u64"
unfoldable pub geometry_of : ℕ → List ℕ → Layout
geometry_of op s =
    cond (eqb op 0)
    (layout (word_at s 4 2) (number_of 2 s) (number_of 3 s) (number_of 4 s))
    (layout (word_at s 1 2) (word_at s 3 8) (word_at s 11 8) (word_at s 19 8))
