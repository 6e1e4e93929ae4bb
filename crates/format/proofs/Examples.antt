-- The definitions, computed on a small header and on small records: values that meet the premises of the laws.
-- Assumes nothing.
use Prim.Native.Nat.{ℕ}
use mathlib.Core.Path.{◌≡◌, refl}
use mathlib.Core.List.{List, [], ◌∷◌, ◌++◌}
use lib.ListN.{replicate}
use Rattle.base.specs.Bytes.{bytes_of, word_at}
use Rattle.std.specs.Prelude.{None, Some}
use Rattle.format.specs.Header.{bad_header, header_of}
use Rattle.format.specs.Input.{numbers_at}
use Rattle.format.specs.Form.{rows, fields_of, fixed_of, bad_flags, bad_counts, bad_places, list_bytes, length_of}

-- a header of four slots in 4,096 bytes, no seed, every hash, three records; and one byte less of it
abbrev header : List ℕ
header =
    bytes_of 4 0x31515650 ++ (bytes_of 4 4 ++ (replicate 12 0 ++ (bytes_of 4 4096 ++ (bytes_of 4 0 ++ (bytes_of 4 1 ++ (bytes_of 4 3 ++ bytes_of 4 0))))))

pub header_read : header_of header ≡ Some (record { region = 4096; every = 1; records = 3 })
unfolding header_of bad_header bytes_of word_at
header_read = refl

-- op 3 with two elements: its op, two numbers and twice twelve bytes; with 4,097 elements it is bad
pub two_elements : length_of (3 ∷ 2 ∷ 0 ∷ 1 ∷ 0 ∷ []) 4096 ≡ Some 29
unfolding length_of fixed_of fields_of rows bad_flags bad_counts bad_places list_bytes word_at
two_elements = refl

pub too_many : length_of (3 ∷ 1 ∷ 16 ∷ 1 ∷ 0 ∷ []) 4096 ≡ None
unfolding length_of fixed_of fields_of rows bad_flags bad_counts bad_places list_bytes word_at
too_many = refl

-- op 10 with a wrap of 1, and of 2
pub wrap_of_1 : length_of (10 ∷ 3 ∷ 0 ∷ 1 ∷ []) 4096 ≡ Some 4
unfolding length_of fixed_of fields_of rows bad_flags bad_counts bad_places list_bytes word_at
wrap_of_1 = refl

pub wrap_of_2 : length_of (10 ∷ 3 ∷ 0 ∷ 2 ∷ []) 4096 ≡ None
unfolding length_of fixed_of fields_of rows bad_flags bad_counts bad_places list_bytes word_at
wrap_of_2 = refl

-- op 65 up to the region's end, and one byte past it
pub whole_region : length_of (65 ∷ 0 ∷ 0 ∷ 0 ∷ 0 ∷ 8 ∷ 0 ∷ []) 8 ≡ Some 7
unfolding length_of fixed_of fields_of rows bad_flags bad_counts bad_places list_bytes word_at
whole_region = refl

pub past_region : length_of (65 ∷ 1 ∷ 0 ∷ 0 ∷ 0 ∷ 8 ∷ 0 ∷ []) 8 ≡ None
unfolding length_of fixed_of fields_of rows bad_flags bad_counts bad_places list_bytes word_at
past_region = refl

-- two lengths of 32 bits, twelve bytes apart, the second of which ends past the end
pub at_a_stride : numbers_at 4 (7 ∷ 1 ∷ 0 ∷ 0 ∷ 0 ∷ 0 ∷ 0 ∷ 0 ∷ 0 ∷ 0 ∷ 0 ∷ 0 ∷ 0 ∷ 9 ∷ 1 ∷ []) 1 12 2 ≡ 1 ∷ 265 ∷ []
unfolding numbers_at word_at
at_a_stride = refl
