-- Dumps that are none, and some that are: every way of the header, and whole lines, computed.
-- Assumes nothing.
use Prim.Native.Nat.{ℕ}
use mathlib.Core.Path.{◌≡◌, refl, ◌∙◌}
use mathlib.Core.List.{List, [], ◌∷◌, ◌++◌}
use native.Mathlib.Omega.{arith}
use lib.ListN.{replicate}
use Rattle.base.specs.Bytes.{word_at}
use Rattle.dump.specs.declared.BadHeader.TheVariants.{NoHeader, BadSize, TableOutside}
use Rattle.std.specs.Prelude.{Ok, Err}
use Rattle.base.specs.Bytes.{get_of}
use Rattle.desc.specs.Flags.{is_avail, is_used}
use Rattle.desc.specs.Desc.{decode_of}
use Rattle.text.specs.Text.{words, digits_of, hex_of, written, puts}
use Rattle.text.proofs.Room.{room}
use Rattle.dump.specs.Header.{header_of, ring}
use Rattle.dump.specs.Names.{names_of}
use Rattle.dump.specs.Lines.{mark_text, flag_texts, slot_texts, whole_of, ring_line, line_by, line_of}
use Rattle.dump.proofs.Short.{line_fits}

-- five bytes have no header
pub short : header_of (1 ∷ 0 ∷ 0 ∷ 0 ∷ 0 ∷ []) ≡ Err NoHeader
unfolding header_of word_at
short = refl

-- sizes 0 and 2,049
pub no_size : header_of (0 ∷ 0 ∷ 0 ∷ 0 ∷ 0 ∷ 0 ∷ []) ≡ Err (BadSize 0)
unfolding header_of word_at
no_size = refl

pub large_size : header_of (1 ∷ 8 ∷ 0 ∷ 0 ∷ 0 ∷ 0 ∷ []) ≡ Err (BadSize 2049)
unfolding header_of word_at
large_size = refl

-- a table that begins one byte behind the last
pub past_the_end : header_of (1 ∷ 0 ∷ 1 ∷ 0 ∷ 0 ∷ 0 ∷ []) ≡ Err (TableOutside 1)
unfolding header_of word_at
past_the_end = refl

-- the largest size, and a table that begins at the end of the bytes
pub largest : header_of (0 ∷ 8 ∷ 1 ∷ 0 ∷ 0 ∷ 0 ∷ 255 ∷ []) ≡ Ok (ring 2048 1)
unfolding header_of word_at
largest = refl

-- ---- lines

pub joined : List (List ℕ) → List ℕ
joined [] = []
joined (t ∷ ts) = t ++ joined ts

-- one line for five bytes, and no second
pub short_line : joined (line_of (1 ∷ 0 ∷ 0 ∷ 0 ∷ 0 ∷ []) 0) ≡ words "bad input: fewer than the six bytes of a size and a table's offset\n"
unfolding joined line_by header_of word_at words
short_line = refl

pub no_more : line_of (1 ∷ 0 ∷ 0 ∷ 0 ∷ 0 ∷ []) 1 ≡ []
unfolding line_by header_of word_at
no_more = refl

pub size_line : joined (line_of (1 ∷ 8 ∷ 0 ∷ 0 ∷ 0 ∷ 0 ∷ []) 0) ≡ words "bad input: the size is 2049, not 1 to 2048\n"
unfolding joined line_by header_of word_at words digits_of
size_line = refl

pub table_line : joined (line_of (1 ∷ 0 ∷ 1 ∷ 0 ∷ 0 ∷ 0 ∷ []) 0) ≡ words "bad input: the table begins at 1, behind the end of the bytes\n"
unfolding joined line_by header_of word_at words digits_of
table_line = refl

-- document 01's D1 in the first of two slots, the second not whole
abbrev pub dump : List ℕ
dump =
    2 ∷ 0 ∷ 0 ∷ 0 ∷ 0 ∷ 0 ∷ 0x88 ∷ 0x77 ∷ 0x66 ∷ 0x55 ∷ 0x44 ∷ 0x33 ∷ 0x22 ∷ 0x11 ∷ 0x40 ∷ 0 ∷ 0 ∷ 0 ∷ 3 ∷ 0 ∷ 0x82 ∷ 0 ∷ 255 ∷ []

pub first_slot : joined (line_of dump 1) ≡ words "    0  1122334455667788          64      3  available  -          WRITE AVAIL\n"
unfolding joined line_by ring_line whole_of header_of word_at get_of decode_of slot_texts mark_text is_avail is_used flag_texts names_of words digits_of hex_of
first_slot = refl

pub not_whole : joined (line_of dump 2) ≡ words "not whole in the bytes: slot 1 and all behind it, of 2\n"
unfolding joined line_by ring_line whole_of header_of word_at words digits_of
not_whole = refl

pub nothing_more : line_of dump 3 ≡ []
unfolding line_by ring_line whole_of header_of word_at
nothing_more = refl

-- a slot whose bits are all set: as long as a slot's line gets
abbrev pub full : List ℕ
full = 1 ∷ 0 ∷ 0 ∷ 0 ∷ 0 ∷ 0 ∷ replicate 16 255

pub full_slot : room (line_of full 1) ≡ 104
unfolding line_by ring_line whole_of header_of word_at get_of decode_of slot_texts mark_text is_avail is_used flag_texts names_of words digits_of hex_of
full_slot = refl

-- in a buffer of 160 bytes
pub full_fits : (puts (line_of full 1) (written 0 (replicate 160 0))).place ≡ 104
full_fits = line_fits full (replicate 160 0) 1 (omega arith) ∙ full_slot
