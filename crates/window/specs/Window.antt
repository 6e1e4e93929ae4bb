-- What a window over the lent table shows (document 01, "What must change shape").
use Rattle.std.specs.Prelude.{ℕ, ◌+◌, ◌*◌, List, [], ◌∷◌, cond, ◌&&◌, ltb, leb, length, Option, Some, None}
use Rattle.std.specs.Borrow.{Bor}
use Rattle.base.specs.Answer.{Answer, done}
use Rattle.base.specs.Bytes.{get_of}
use Rattle.desc.specs.Desc.{decode_of}
use Rattle.window.specs.declared.Window.{Window}
use Rattle.desc.specs.declared.Descriptor.{Descriptor}

-- "a window that keeps a reference to the lent table": that very reference, and the size
abbrev pub window : Bor (List ℕ) → ℕ → Window
window t n = record { table = t; size = n }

-- "a definition gives, for each of its cases, this paper's number and values": 1 and the slot's four fields, or 0 where there is
-- nothing
abbrev pub answer_of : Option Descriptor → Answer
answer_of (Some d) = done (1 ∷ d.addr ∷ d.len ∷ d.id ∷ d.flags ∷ [])
answer_of None = done (0 ∷ [])

-- "gives slot i, or nothing where i is not below the size or the slot is not whole in the bytes"; the table's first byte
-- is the first of the bytes
unfoldable pub shown_of : List ℕ → ℕ → ℕ → Answer
shown_of bytes size i =
    cond (ltb i size && leb (i * 16 + 16) (length bytes))
    (answer_of (Some (decode_of (get_of bytes (i * 16) 16))))
    (answer_of None)
