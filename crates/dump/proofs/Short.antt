-- No line is longer than 160 bytes, so a buffer of so many loses none. A number is taken for twenty bytes, whatever its
-- width: `full_slot` in Examples.antt, every flag set, has 104.
-- Assumes nothing.
use Prim.Native.Nat.{ℕ, zero, suc, ◌+◌, ◌-◌, ◌*◌, ◌≤◌}
use native.Mathlib.Omega.{arith}
use mathlib.Core.Path.{◌≡◌, refl, sym, ap, ◌∙◌}
use mathlib.Core.List.{List, [], ◌∷◌, ◌++◌}
use mathlib.Core.Bool.{Bool, true, false, cond, ◌&&◌}
use lib.Dec.{ltb, eqb}
use lib.ListN.{length}
use borrow.Author.Tests.{eq-eqb, ne_eqb}
use Rattle.base.specs.Determined.{both}
use Rattle.base.specs.Bytes.{get_of}
use Rattle.base.proofs.Tests.{chosen, by_eq}
use Rattle.desc.specs.declared.Descriptor.{Descriptor}
use Rattle.desc.specs.Flags.{is_avail, is_used}
use Rattle.desc.specs.Desc.{decode_of}
use Rattle.text.specs.Text.{words, right_of, hex_of, written, puts}
use Rattle.text.proofs.Room.{room, room_append, right_short, hex_length, texts_fit}
use Rattle.std.specs.Prelude.{Option, Some, None, Result, Ok, Err}
use Rattle.dump.specs.declared.Header.{Header}
use Rattle.dump.specs.declared.BadHeader.{BadHeader}
use Rattle.dump.specs.declared.BadHeader.TheVariants.{NoHeader, BadSize, TableOutside}
use Rattle.dump.specs.declared.Names.{Names}
use Rattle.dump.specs.Header.{header_of}
use Rattle.dump.specs.Names.{names_of}
use Rattle.dump.specs.Lines.{mark_text, named, flag_texts, slot_texts, whole_of, missing_texts, ring_line}
use Rattle.dump.specs.Lines.{bad_size_texts, outside_texts, no_header_texts, line_by, line_of, told}
use Rattle.dump.proofs.line_of.Reads as Line-of

-- ---- a slot's line

abbrev Eleven : List ℕ → Type 0
Eleven t = length t ≡ 11

mark_length : (f : ℕ) (w : Bool) → Eleven (mark_text f w)
unfolding mark_text words
mark_length f w =
    chosen Eleven (is_avail f w) (words "  available") (cond (is_used f w) (words "  used     ") (words "  -        "))
    refl
    (chosen Eleven (is_used f w) (words "  used     ") (words "  -        ") refl refl)

named_short : (b : Bool) (name : List ℕ) → length (named b name) ≤ length name
named_short true name = omega arith
named_short false name = omega arith

flags_short : (f : ℕ) (names : Names) → room (flag_texts f names) ≤ 40
unfolding flag_texts words
flags_short f names =
    let unnamed : room (cond (eqb names.unnamed 0) [] (words " 0x" ∷ hex_of 4 names.unnamed ∷ [])) ≤ 7 =
    chosen (λ (ts : List (List ℕ)). room ts ≤ 7) (eqb names.unnamed 0) [] (words " 0x" ∷ hex_of 4 names.unnamed ∷ [])
    (omega arith)
    (omega (arith, hex_length 4 names.unnamed)) in
    omega (
      arith,
      named_short names.next (words " NEXT"),
      named_short names.write (words " WRITE"),
      named_short names.indirect (words " INDIRECT"),
      named_short names.avail (words " AVAIL"),
      named_short names.used (words " USED"),
      named_short (eqb f 0) (words " -"),
    )

slot_short : (i : ℕ) (d : Descriptor) → room (slot_texts i d) ≤ 160
unfolding slot_texts words
slot_short i d =
    let flags = flag_texts d.flags (names_of d.flags) in
    omega (
      arith,
      right_short 5 i (omega arith),
      right_short 12 d.len (omega arith),
      right_short 7 d.id (omega arith),
      hex_length 16 d.addr,
      mark_length d.flags true,
      mark_length d.flags false,
      flags_short d.flags (names_of d.flags),
      room_append flags (words "\n" ∷ []),
    )

-- ---- the other lines

around_short :
    (before behind : List ℕ) (n : ℕ) → length before + length behind ≤ 140
    → room (before ∷ (right_of 0 n ++ (behind ∷ []))) ≤ 160
around_short before behind n h = omega (arith, right_short 0 n (omega arith))

missing_short : (i size : ℕ) → room (missing_texts i size) ≤ 160
unfolding words
missing_short i size = omega (arith, right_short 0 i (omega arith), right_short 0 size (omega arith))

-- the one that is shown, or none
shown_short : (b : Bool) (ts : List (List ℕ)) → room ts ≤ 160 → room (cond b ts []) ≤ 160
shown_short true ts h = h
shown_short false ts h = omega arith

-- ---- every line

ring_short : (l : List ℕ) (table size k : ℕ) → room (ring_line l table size k) ≤ 160
unfolding ring_line words
ring_short l table size zero = omega arith
ring_short l table size (suc i) =
    let whole = whole_of size (length l - table) in
    let d = decode_of (get_of l (table + i * 16) 16) in
    let rest = cond (eqb i whole && ltb i size) (missing_texts i size) [] in
    chosen (λ (ts : List (List ℕ)). room ts ≤ 160) (ltb i whole) (slot_texts i d) rest
    (slot_short i d)
    (shown_short (eqb i whole && ltb i size) (missing_texts i size) (missing_short i size))

by_header : (h : Result Header BadHeader) (l : List ℕ) (k : ℕ) → room (line_by h l k) ≤ 160
unfolding line_by words
by_header (Ok h) l k = ring_short l (6 + h.table) h.size k
by_header (Err NoHeader) l k = shown_short (eqb k 0) no_header_texts (omega arith)
by_header (Err (BadSize n)) l k = shown_short (eqb k 0) (bad_size_texts n) (around_short (words "bad input: the size is ") (words ", not 1 to 2048\n") n (omega arith))
by_header (Err (TableOutside n)) l k =
    shown_short (eqb k 0) (outside_texts n) (around_short (words "bad input: the table begins at ") (words ", behind the end of the bytes\n") n (omega arith))

pub line_short : (l : List ℕ) (k : ℕ) → room (line_of l k) ≤ 160
line_short l k = by_header (header_of l) l k

-- in a buffer of 160 bytes or more the line is whole: the place behind it is its length, and so not `LOST`
pub line_fits : (l out : List ℕ) (k : ℕ) → 160 ≤ length out → (puts (line_of l k) (written 0 out)).place ≡ room (line_of l k)
line_fits l out k h = texts_fit (line_of l k) out 0 (omega (arith, line_short l k)) ∙ omega arith

-- a length, where there is one
abbrev pub length_of : ℕ → Option ℕ
length_of n = cond (eqb n 0) None (Some n)

-- and so says the contract of `line_of` of its answer, as a caller has it
pub line_told :
    (l out out' : List ℕ) (k : ℕ) (r : Option ℕ) → both r out' ≡ told (puts (line_of l k) (written 0 out)) → 160 ≤ length out
    → (r ≡ length_of (room (line_of l k))) × (room (line_of l k) ≤ 160)
line_told l out out' k r p h =
    (ap (λ (x : Option ℕ × List ℕ). x.0) p ∙ ap length_of (line_fits l out k h), line_short l k)

-- and as it is generated
pub line_whole :
    (κ : _) (a : _) (r : Option ℕ) (s : _) → Line-of.Post κ a r s → 160 ≤ length a.1.1.0.now
    → (r ≡ length_of (room (line_of a.0.now a.1.0))) × (room (line_of a.0.now a.1.0) ≤ 160)
line_whole κ a r s = line_told a.0.now a.1.1.0.now s.1.1.0.now a.1.0 r

-- so where a line is shown, its length is not 0, and no longer than 160
pub line_shown :
    (l out out' : List ℕ) (k : ℕ) (r : Option ℕ) (n : ℕ) → both r out' ≡ told (puts (line_of l k) (written 0 out)) → 160 ≤ length out
    → r ≡ Some n → (n ≡ room (line_of l k)) × (n ≤ 160)
line_shown l out out' k r n p h e =
    let t = line_told l out out' k r p h in
    let m = room (line_of l k) in
    let s : n ≡ m =
    by_eq m 0
    (λ z. absurd (some_none n (sym e ∙ t.0 ∙ simp (eq-eqb m 0 z))))
    (λ z. some_same n m (sym e ∙ t.0 ∙ simp (ne_eqb m 0 z))) in
    (s, omega (arith, s, t.1))
  where
    some_none : (n : ℕ) → Some n ≡ None → ⊥
    some_none n h = cc

    some_same : (n m : ℕ) → Some n ≡ Some m → n ≡ m
    some_same n m h = cc
