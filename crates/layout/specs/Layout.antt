-- A ring's geometry (document 01, "When the ring says no", refusals 6, 7 and 8; VIRTIO 1.1, 2.7.10.1).
use Rattle.std.specs.Prelude.{ℕ, ◌+◌, ◌*◌, ◌%◌, List, [], ◌∷◌, Bool, not, cond, ◌||◌, ltb, leb, eqb, Result}
use Rattle.base.specs.declared.RingError.{RingError}
use Rattle.base.specs.Answer.{Answer, done, refused, answer_by}
use Rattle.layout.specs.declared.Layout.{Layout}

-- a ring's number of slots, and the offsets of its table and of the driver's and the device's event area
abbrev pub layout : ℕ → ℕ → ℕ → ℕ → Layout
layout size table driver device = record { table = table; driver = driver; device = device; size = size }

-- n bytes from a, and m from b, do not overlap: one run ends by the other's start
unfoldable pub apart : ℕ → ℕ → ℕ → ℕ → Bool
apart a n b m = leb (a + n) b || leb (b + m) a

-- 16 bytes a slot (2.7.10.1); an event area has 4
abbrev pub table_bytes : Layout → ℕ
table_bytes l = l.size * 16

-- refusal 6, and "stored geometry breaks 6, apart from fitting the lent bytes" of refusal 7: "size outside 1..32,768; table
-- offset not a multiple of 16; event offset not a multiple of 4; .. two areas overlap"
unfoldable pub bad_layout : Layout → Bool
bad_layout l =
    eqb l.size 0
    || (ltb 32768 l.size
    || (not (eqb (l.table % 16) 0)
    || (not (eqb (l.driver % 4) 0)
    || (not (eqb (l.device % 4) 0)
    || (not (apart l.table (table_bytes l) l.driver 4)
    || (not (apart l.table (table_bytes l) l.device 4)
    || not (apart l.driver 4 l.device 4)))))))

-- refusal 6, "an area outside the lent bytes", and refusal 8, "bytes too short for the areas"
unfoldable pub outside : Layout → ℕ → Bool
outside l bytes =
    not (leb (l.table + table_bytes l) bytes)
    || (not (leb (l.driver + 4) bytes)
    || not (leb (l.device + 4) bytes))

-- a layout's values: size, table, driver event, device event
abbrev pub values_of : Layout → List ℕ
values_of l = l.size ∷ l.table ∷ l.driver ∷ l.device ∷ []

-- refusal 6 at opening, over so many lent bytes; 0 where the geometry is taken
unfoldable pub open_refusal : Layout → ℕ → ℕ
open_refusal l bytes = cond (bad_layout l || outside l bytes) 6 0

-- the same of a geometry's four numbers: "on refusal gives the number alone"
unfoldable pub open_of : Layout → ℕ → Answer
open_of l bytes = cond (bad_layout l || outside l bytes) (refused 6) (done (values_of l))

-- the answer, in the paper's number and values
abbrev pub answer_of : Result Layout RingError → Answer
answer_of r = answer_by values_of r
