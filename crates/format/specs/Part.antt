-- Parts of lent slices, for elements of any type and width: where a part would pass the end, it is what there is.
use Rattle.std.specs.Prelude.{ℕ, ◌-◌, min, cond, ◌&&◌, leb, length}
use Rattle.base.specs.Part.{Slice, part}

-- the first n elements, each w bytes wide
unfoldable pub first_of : {A : Type 0} → ℕ → ℕ → Slice A → Slice A
first_of w n s = part w 0 n s

-- all from element n on
unfoldable pub from_of : {A : Type 0} → ℕ → ℕ → Slice A → Slice A
from_of w n s = part w (min n (length s.elements)) (length s.elements - n) s

-- from element i up to element j; none, behind the last one, where i is past j or j past the end
unfoldable pub between_of : {A : Type 0} → ℕ → ℕ → ℕ → Slice A → Slice A
between_of w i j s =
    cond (leb i j && leb j (length s.elements))
    (part w i (j - i) s)
    (part w (length s.elements) 0 s)
