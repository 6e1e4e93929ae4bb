-- The table of slots: where each one is in the lent bytes (VIRTIO 1.1, 2.7.10.1: 16 bytes a slot).
use Rattle.std.specs.Prelude.{ℕ, ◌+◌, ◌*◌, [], ◌∷◌, cond, ◌&&◌, ltb, leb, Option, Some, None}
use Rattle.base.specs.Answer.{Answer, done}
use Rattle.desc.specs.declared.DescTable.{DescTable}

-- a table's place in the lent bytes, and its number of slots
abbrev pub table : ℕ → ℕ → DescTable
table b n = record { base_addr = b; len = n }

-- a place as an answer's values: 1 and the place, or 0 0 where there is none
abbrev pub answer_of : Option ℕ → Answer
answer_of (Some p) = done (1 ∷ p ∷ [])
answer_of None = done (0 ∷ 0 ∷ [])

-- slot i is 16 bytes for each slot before it behind the table's start; there is none at or past the table's length, nor
-- where the place would pass the largest number
unfoldable pub desc_addr_of : DescTable → ℕ → Answer
desc_addr_of t i =
    cond (ltb i t.len && leb (t.base_addr + i * 16) 18446744073709551615)
    (answer_of (Some (t.base_addr + i * 16)))
    (answer_of None)
