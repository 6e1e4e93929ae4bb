-- The consumer's record and what it is lent (document 01, "When the ring says no", refusals 7 and 8).
use Rattle.std.specs.Prelude.{ℕ, Bool, cond, ◌||◌, ltb, leb}
use Rattle.layout.specs.Layout.{bad_layout, outside}
use Rattle.consumer.specs.declared.RingConsumer.{RingConsumer}

-- 7: "stored geometry breaks 6 ..; a head not below the size ..; the record's own .. in-flight .. count above the size"
unfoldable pub bad_record : RingConsumer → Bool
bad_record p =
    bad_layout p.layout
    || (leb p.layout.size p.avail.head
    || (leb p.layout.size p.used.head
    || ltb p.layout.size p.inflight))

-- 8: "bytes too short for the areas; an ID table .. shorter than the size"
unfoldable pub bad_lent : RingConsumer → ℕ → ℕ → Bool
bad_lent p bytes counts = outside p.layout bytes || ltb counts p.layout.size

-- "7, 8 for all else", where the bytes alone are lent
unfoldable pub bytes_refusal : RingConsumer → ℕ → ℕ
bytes_refusal p bytes = cond (bad_record p) 7 (cond (outside p.layout bytes) 8 0)

-- the same, where the counts are lent too
unfoldable pub lent_refusal : RingConsumer → ℕ → ℕ → ℕ
lent_refusal p bytes counts = cond (bad_record p) 7 (cond (bad_lent p bytes counts) 8 0)
