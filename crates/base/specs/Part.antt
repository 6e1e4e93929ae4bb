-- A slice, and a part of it: which elements it has, and that it lies where they lie (document 01, "hand back a part of one
-- slice").
use Rattle.std.specs.Prelude.{ℕ, ◌+◌, ◌*◌, List, take, drop}

-- where a slice begins (a block of memory, and a byte of it), and its elements
pub record Slice (A : Type 0) : Type 0 where
  pub place : ℕ × ℕ
  pub elements : List A

abbrev pub slice : {A : Type 0} → ℕ × ℕ → List A → Slice A
slice p l = record { place = p; elements = l }

-- n elements of w bytes each, from element i on
abbrev pub part : {A : Type 0} → ℕ → ℕ → ℕ → Slice A → Slice A
part w i n s = slice (s.place.0, i * w + s.place.1) (take n (drop i s.elements))
