-- What is shown of a region's dump, line by line: a heading and a line for each slot, or one line that says what is wrong.
-- A line is given by its texts, one behind the other.
use Rattle.std.specs.Prelude.{ℕ, zero, suc, ◌+◌, ◌-◌, ◌*◌, ◌/◌, List, [], ◌∷◌, ◌++◌, Bool, true, false, cond, ◌&&◌, ltb, eqb, length, Option, Some, None, Result, Ok, Err}
use Rattle.base.specs.Bytes.{get_of}
use Rattle.desc.specs.declared.Descriptor.{Descriptor}
use Rattle.desc.specs.Flags.{is_avail, is_used}
use Rattle.desc.specs.Desc.{decode_of}
use Rattle.text.specs.Text.{words, right_of, hex_of, Written}
use Rattle.dump.specs.declared.Header.{Header}
use Rattle.dump.specs.declared.BadHeader.{BadHeader}
use Rattle.dump.specs.declared.BadHeader.TheVariants.{NoHeader, BadSize, TableOutside}
use Rattle.dump.specs.declared.Names.{Names}
use Rattle.dump.specs.Header.{header_of}
use Rattle.dump.specs.Names.{names_of}

-- what a slot is in a round, in a column of its own: "Available in round w: AVAIL equals w and USED differs from w. Used in
-- round w: both equal w."
unfoldable pub mark_text : ℕ → Bool → List ℕ
mark_text f w =
    cond (is_avail f w)
    (words "  available")
    (cond (is_used f w)
    (words "  used     ")
    (words "  -        "))

-- a name where its flag is set
abbrev pub named : Bool → List ℕ → List ℕ
named b name = cond b name []

-- the flags by name, the bits that have none as one number, and a dash where no bit is set
unfoldable pub flag_texts : ℕ → Names → List (List ℕ)
flag_texts f names =
    named names.next (words " NEXT")
    ∷ named names.write (words " WRITE")
    ∷ named names.indirect (words " INDIRECT")
    ∷ named names.avail (words " AVAIL")
    ∷ named names.used (words " USED")
    ∷ named (eqb f 0) (words " -")
    ∷ cond (eqb names.unnamed 0) [] (words " 0x" ∷ hex_of 4 names.unnamed ∷ [])

-- "index, address, length, ID, the flags by name, and whether it is available or used in each round"
unfoldable pub slot_texts : ℕ → Descriptor → List (List ℕ)
slot_texts i d =
    (right_of 5 i ++ (words "  " ∷ hex_of 16 d.addr ∷ (right_of 12 d.len ++ right_of 7 d.id)))
    ++ ((mark_text d.flags true ∷ mark_text d.flags false ∷ words " " ∷ [])
    ++ (flag_texts d.flags (names_of d.flags) ++ (words "\n" ∷ [])))

-- how many of so many slots are whole in so many bytes
unfoldable pub whole_of : ℕ → ℕ → ℕ
whole_of size bytes = cond (ltb (bytes / 16) size) (bytes / 16) size

abbrev pub heading : List ℕ
heading = words " slot           address      length     id  round 1    round 0    flags\n"

-- from this slot on none is whole
abbrev pub missing_texts : ℕ → ℕ → List (List ℕ)
missing_texts i size =
    words "not whole in the bytes: slot " ∷ (right_of 0 i ++ (words " and all behind it, of " ∷ (right_of 0 size ++ (words "\n" ∷ []))))

-- the k-th line of a ring whose table begins at a byte of l: the heading, the slots that are whole, and what is not
unfoldable pub ring_line : List ℕ → ℕ → ℕ → ℕ → List (List ℕ)
ring_line l table size zero = heading ∷ []
ring_line l table size (suc i) =
    let whole = whole_of size (length l - table) in
    cond (ltb i whole)
    (slot_texts i (decode_of (get_of l (table + i * 16) 16)))
    (cond (eqb i whole && ltb i size) (missing_texts i size) [])

-- "bad input gets one clear line"
abbrev pub bad_size_texts : ℕ → List (List ℕ)
bad_size_texts n = words "bad input: the size is " ∷ (right_of 0 n ++ (words ", not 1 to 2048\n" ∷ []))

abbrev pub outside_texts : ℕ → List (List ℕ)
outside_texts n = words "bad input: the table begins at " ∷ (right_of 0 n ++ (words ", behind the end of the bytes\n" ∷ []))

abbrev pub no_header_texts : List (List ℕ)
no_header_texts = words "bad input: fewer than the six bytes of a size and a table's offset\n" ∷ []

abbrev pub bad_texts : BadHeader → List (List ℕ)
bad_texts NoHeader = no_header_texts
bad_texts (BadSize n) = bad_size_texts n
bad_texts (TableOutside n) = outside_texts n

-- line 0 and no other
abbrev pub only_line : List (List ℕ) → ℕ → List (List ℕ)
only_line ts k = cond (eqb k 0) ts []

-- the k-th line by what the header says; no texts where there is no such line
unfoldable pub line_by : Result Header BadHeader → List ℕ → ℕ → List (List ℕ)
line_by (Ok h) l k = ring_line l (6 + h.table) h.size k
line_by (Err e) l k = only_line (bad_texts e) k

-- the k-th line of what is shown of the dump l
abbrev pub line_of : List ℕ → ℕ → List (List ℕ)
line_of l k = line_by (header_of l) l k

-- what a caller is told of a line: how long it is, and nothing where there is none; and the buffer
abbrev pub told : Written → Option ℕ × List ℕ
told w = (cond (eqb w.place 0) None (Some w.place), w.buffer)
