-- The form of a record (docs/TRACE.md, "Records: one op byte, then its fields", and what makes it bad, at the page's end).
use Rattle.std.specs.Prelude.{ℕ, ◌+◌, ◌*◌, List, [], ◌∷◌, Bool, false, cond, ◌||◌, ◌&&◌, ltb, leb, eqb, get_or, Option, None, Some}
use Rattle.base.specs.Bytes.{word_at}

-- a field: a number of so many bytes; "A wrap or a flag field is one byte, 0 or 1"; one of "n, m and k", a u16, with the bytes
-- that the list at the record's end has for each
pub data Field : Type 0 where
  number : ℕ → Field
  flag : Field
  count : ℕ → Field

abbrev pub u8 : Field
u8 = number 1

abbrev pub u16 : Field
u16 = number 2

abbrev pub u32 : Field
u32 = number 4

abbrev pub u64 : Field
u64 = number 8

-- the column "fields" of both tables, an op a row
unfoldable pub rows : List (ℕ × List Field)
rows =
    (1, u64 ∷ u32 ∷ flag ∷ [])
    ∷ (2, u64 ∷ u32 ∷ flag ∷ [])
    ∷ (3, count 12 ∷ u16 ∷ [])
    ∷ (4, count 12 ∷ u16 ∷ [])
    ∷ (5, [])
    ∷ (6, [])
    ∷ (7, [])
    ∷ (8, [])
    ∷ (9, [])
    ∷ (10, u16 ∷ flag ∷ [])
    ∷ (11, [])
    ∷ (12, [])
    ∷ (13, u16 ∷ flag ∷ [])
    ∷ (14, [])
    ∷ (15, [])
    ∷ (33, [])
    ∷ (34, u16 ∷ u32 ∷ [])
    ∷ (35, u16 ∷ u32 ∷ [])
    ∷ (36, [])
    ∷ (37, [])
    ∷ (38, [])
    ∷ (39, [])
    ∷ (40, u8 ∷ [])
    ∷ (41, u8 ∷ count 2 ∷ [])
    ∷ (42, [])
    ∷ (43, [])
    ∷ (44, u16 ∷ flag ∷ [])
    ∷ (45, [])
    ∷ (46, [])
    ∷ (64, u32 ∷ count 1 ∷ [])
    ∷ (65, u32 ∷ count 0 ∷ [])
    ∷ (96, u16 ∷ u16 ∷ flag ∷ [])
    ∷ (97, u16 ∷ u16 ∷ flag ∷ u16 ∷ [])
    ∷ (98, u16 ∷ u16 ∷ u16 ∷ u16 ∷ flag ∷ u16 ∷ flag ∷ [])
    ∷ (99, u64 ∷ u32 ∷ u16 ∷ u16 ∷ flag ∷ [])
    ∷ (100, u64 ∷ u32 ∷ u16 ∷ u16 ∷ flag ∷ [])
    ∷ (101, u16 ∷ flag ∷ [])
    ∷ (102, u16 ∷ u16 ∷ u16 ∷ [])
    ∷ (103, u16 ∷ u16 ∷ u16 ∷ flag ∷ [])
    ∷ (104, u16 ∷ u16 ∷ [])
    ∷ (105, u16 ∷ [])
    ∷ (106, number 16 ∷ [])
    ∷ (66, u8 ∷ u64 ∷ [])
    ∷ (67, u8 ∷ u64 ∷ [])
    ∷ (68, u8 ∷ u16 ∷ u16 ∷ [])
    ∷ (69, u32 ∷ u32 ∷ u32 ∷ u32 ∷ u32 ∷ u32 ∷ [])
    ∷ (70, u8 ∷ u16 ∷ flag ∷ u16 ∷ flag ∷ u16 ∷ [])
    ∷ (71, count 8 ∷ count 4 ∷ u64 ∷ [])
    ∷ (72, u16 ∷ count 0 ∷ [])
    ∷ (73, u8 ∷ u16 ∷ count 0 ∷ [])
    ∷ (74, u16 ∷ u64 ∷ u64 ∷ u64 ∷ [])
    ∷ (75, u16 ∷ u64 ∷ u64 ∷ u64 ∷ [])
    ∷ (107, count 0 ∷ count 0 ∷ u64 ∷ [])
    ∷ (108, count 0 ∷ u64 ∷ [])
    ∷ (109, count 0 ∷ u64 ∷ [])
    ∷ (110, count 0 ∷ u64 ∷ [])
    ∷ (111, count 0 ∷ u64 ∷ [])
    ∷ []

-- the bytes of the fields, without the lists
abbrev pub width_of : List Field → ℕ
width_of [] = 0
width_of (number w ∷ fs) = w + width_of fs
width_of (flag ∷ fs) = 1 + width_of fs
width_of (count e ∷ fs) = 2 + width_of fs

-- the places of the wraps and flags, the first field being at place i
abbrev pub flags_of : ℕ → List Field → List ℕ
flags_of i [] = []
flags_of i (number w ∷ fs) = flags_of (i + w) fs
flags_of i (flag ∷ fs) = i ∷ flags_of (i + 1) fs
flags_of i (count e ∷ fs) = flags_of (i + 2) fs

-- the places of n, m and k, each with its bytes in the list
abbrev pub counts_of : ℕ → List Field → List (ℕ × ℕ)
counts_of i [] = []
counts_of i (number w ∷ fs) = counts_of (i + w) fs
counts_of i (flag ∷ fs) = counts_of (i + 1) fs
counts_of i (count e ∷ fs) = (i, e) ∷ counts_of (i + 2) fs

-- the fields of an op: none where there is no such op
abbrev pub fields_in : List (ℕ × List Field) → ℕ → List Field
fields_in [] op = []
fields_in (r ∷ rs) op = cond (eqb op r.0) r.1 (fields_in rs op)

-- the bytes of an op and its fields: 0 where there is no such op
abbrev pub fixed_in : List (ℕ × List Field) → ℕ → ℕ
fixed_in [] op = 0
fixed_in (r ∷ rs) op = cond (eqb op r.0) (1 + width_of r.1) (fixed_in rs op)

-- of the table's rows: the fields, and the bytes
unfoldable pub fields_of : ℕ → List Field
fields_of op = fields_in rows op

unfoldable pub fixed_of : ℕ → ℕ
fixed_of op = fixed_in rows op

-- it holds of one of them
abbrev pub any_of : {A : Type 0} → (A → Bool) → List A → Bool
any_of f [] = false
any_of f (x ∷ xs) = f x || any_of f xs

-- "a wrap or flag byte above 1"
unfoldable pub bad_flags : ℕ → List ℕ → Bool
bad_flags op s = any_of (λ (i : ℕ). ltb 1 (get_or s i 0)) (flags_of 1 (fields_of op))

-- "n, m or k above 4,096"
unfoldable pub bad_counts : ℕ → List ℕ → Bool
bad_counts op s = any_of (λ (p : ℕ × ℕ). ltb 4096 (word_at s p.0 2)) (counts_of 1 (fields_of op))

-- "Past means that the start plus k is above the length."
abbrev pub is_past : ℕ → ℕ → ℕ → Bool
is_past start k len = ltb len (start + k)

-- "ops 64 and 65 past the region, 68, 72 and 73 past the table, .. a field or table number that is not there"
unfoldable pub bad_places : ℕ → List ℕ → ℕ → Bool
bad_places op s region =
    (eqb op 64 || eqb op 65) && is_past (word_at s 1 4) (word_at s 5 2) region
    || eqb op 66 && ltb 10 (get_or s 1 0)
    || eqb op 67 && ltb 9 (get_or s 1 0)
    || (eqb op 68 || eqb op 73) && ltb 2 (get_or s 1 0)
    || eqb op 68 && leb 2048 (word_at s 2 2)
    || eqb op 72 && is_past (word_at s 1 2) (word_at s 3 2) 2048
    || eqb op 73 && is_past (word_at s 2 2) (word_at s 4 2) 2048

-- the bytes of the list that ends a record
abbrev pub list_of : List ℕ → List (ℕ × ℕ) → ℕ
list_of s [] = 0
list_of s (p ∷ ps) = p.1 * word_at s p.0 2 + list_of s ps

-- of an op's own fields, behind its first byte
unfoldable pub list_bytes : ℕ → List ℕ → ℕ
list_bytes op s = list_of s (counts_of 1 (fields_of op))

-- the bytes of an op and its fields, or none
abbrev pub row_of : ℕ → Option ℕ
row_of op = cond (eqb (fixed_of op) 0) None (Some (fixed_of op))

-- the bytes of the record at the start of s, its op included; none where it is bad ("an unknown record" among them)
unfoldable pub length_of : List ℕ → ℕ → Option ℕ
length_of s region =
    let op = get_or s 0 0 in
    cond (eqb (fixed_of op) 0 || (bad_flags op s || bad_counts op s || bad_places op s region))
    None
    (Some (fixed_of op + list_bytes op s))
