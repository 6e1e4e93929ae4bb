-- The producer's record and what it is lent (document 01, "When the ring says no", refusals 7 and 8).
use Rattle.std.specs.Prelude.{ℕ, Bool, cond, ◌||◌, ltb, leb}
use Rattle.layout.specs.Layout.{bad_layout, outside}
use Rattle.producer.specs.declared.RingProducer.{RingProducer}

-- 7: "stored geometry breaks 6 ..; a head not below the size ..; the record's own free, in-flight or stack count above the size"
-- (in-flight is the size less the free slots)
unfoldable pub bad_record : RingProducer → Bool
bad_record p =
    bad_layout p.layout
    || (leb p.layout.size p.avail.head
    || (leb p.layout.size p.used.head
    || (ltb p.layout.size p.free
    || ltb p.layout.size p.height)))

-- 8: "bytes too short for the areas; an ID table .. shorter than the size"
unfoldable pub bad_lent : RingProducer → ℕ → ℕ → ℕ → Bool
bad_lent p bytes ids counts =
    outside p.layout bytes || (ltb ids p.layout.size || ltb counts p.layout.size)

-- "7, 8 for all else", where the bytes alone are lent
unfoldable pub bytes_refusal : RingProducer → ℕ → ℕ
bytes_refusal p bytes = cond (bad_record p) 7 (cond (outside p.layout bytes) 8 0)

-- the same, where both tables are lent too
unfoldable pub lent_refusal : RingProducer → ℕ → ℕ → ℕ → ℕ
lent_refusal p bytes ids counts = cond (bad_record p) 7 (cond (bad_lent p bytes ids counts) 8 0)
