-- What a window over a region shows, in terms of what the ring's ends look at and write. `ring`, `table`: the region's bytes and the table's
-- first byte in it; with 0 for `table` the region is the table itself.
-- Assumes nothing.
use Prim.Native.Nat.{ℕ, ◌+◌, ◌*◌, ◌≤◌, ◌<◌}
use mathlib.Core.Path.{◌≡◌, refl, sym, ◌∙◌, ap}
use mathlib.Core.Logic.{◌⊎◌, inl, inr, ⊎_elim}
use mathlib.Core.List.{List, []}
use mathlib.Core.Bool.{true}
use native.Mathlib.Omega.{arith}
use lib.ListN.{length, get_or, take, drop, replicate, length-drop, length-replicate}
use lib.Seq.{drop-drop}
use contract.Lifetimes.{Lfts}
use denote.Ref.{Bor}
use denote.Triple.Clauses.{AtExit}
use Rattle.base.specs.Answer.{Answer}
use Rattle.base.specs.Bytes.{put_of, get_of}
use Rattle.base.proofs.Tests.{by_lt}
use Rattle.base.proofs.Runs.{get_fits}
use Rattle.cursor.specs.declared.RingCursor.{RingCursor}
use Rattle.cursor.specs.Cursor as cursor
use Rattle.desc.specs.declared.Descriptor.{Descriptor}
use Rattle.desc.specs.Desc.{descriptor, encode_of, decode_of}
use Rattle.desc.proofs.Trips.{Ranged}
use Rattle.ring.specs.Slots as ends
use Rattle.ring.proofs.Frames.{slot_decoded, slot_stored, slot_length, slot_same}
use Rattle.std.specs.Prelude.{Option, Some, None}
use Rattle.window.specs.declared.Window.{Window}
use Rattle.window.specs.Window.{window, answer_of, shown_of}
use Rattle.window.proofs.Laws.{shown, past, cut, answer_same}
use Rattle.desc.specs.contracts.load as loads
use Rattle.desc.proofs.load.Reads as load
use Rattle.desc.specs.contracts.Descriptor.decode as decodes
use Rattle.desc.proofs.Descriptor.decode.Reads as decode
use Rattle.window.proofs.Window.slot.Reads as slot_reads
use Rattle.window.specs.contracts.Window.slot as slot
use Rattle.window.specs.contracts.slot_at as at
use Rattle.window.proofs.slot_at.Reads as slot_at

abbrev holding : Descriptor → Answer
holding d = answer_of (Some d)

module _ (ring : List ℕ) (table size : ℕ) where
  -- "gives slot i": below the size and whole in the bytes, what is shown is load and decode of the slot
  pub load_and_decode :
      (i : ℕ) → i < size → table + i * 16 + 16 ≤ length ring
      → shown_of (drop table ring) size i ≡ holding (decode_of (get_of ring (table + i * 16) 16))
  load_and_decode i h w =
      let n = length-drop table ring in
      shown (drop table ring) size i h (omega arith)
      ∙ ap (λ (l : List ℕ). holding (decode_of l))
      (get_fits (drop table ring) (i * 16) 16 (omega arith)
      ∙ ap (take 16) (drop-drop (i * 16) table ring)
      ∙ sym (get_fits ring (table + i * 16) 16 (omega arith)))

  -- and so what both ends look at with a cursor on that slot
  pub as_the_ends_look :
      (c : RingCursor) → c.head < size → ends.place_of table c + 16 ≤ length ring
      → shown_of (drop table ring) size c.head ≡ holding (ends.slot_of table c ring)
  as_the_ends_look c h w = load_and_decode c.head h w ∙ ap holding (sym (slot_decoded table c ring))

  -- "or nothing where i is not below the size or the slot is not whole in the bytes": then, and only then
  pub nothing_then :
      (i : ℕ) → (size ≤ i) ⊎ (length ring < table + i * 16 + 16) → shown_of (drop table ring) size i ≡ answer_of None
  nothing_then i o =
      ⊎_elim (λ h. past (drop table ring) size i h)
      (λ w. cut (drop table ring) size i (omega (arith, length-drop table ring))) o

  pub only_then :
      (i : ℕ) → shown_of (drop table ring) size i ≡ answer_of None → (size ≤ i) ⊎ (length ring < table + i * 16 + 16)
  only_then i e =
      by_lt i size
      (λ h. by_lt (length ring) (table + i * 16 + 16) (λ w. inr w)
      (λ w. absurd (omega (arith, ap (λ (a : Answer). get_or a.values 0 0) (sym (load_and_decode i h w) ∙ e)))))
      (λ h. inl h)

  -- so where a slot shows nothing, no later one shows anything
  pub nothing_behind :
      (i j : ℕ) → i ≤ j → shown_of (drop table ring) size i ≡ answer_of None → shown_of (drop table ring) size j ≡ answer_of None
  nothing_behind i j l e = nothing_then j (⊎_elim (λ h. inl (omega arith)) (λ h. inr (omega arith)) (only_then i e))

held : (x : Option Descriptor) (bs b : List ℕ) (d : Descriptor) → answer_of x ≡ holding (decode_of bs) → b ≡ bs → d ≡ decode_of b → x ≡ Some d
held x bs b d px pb pd = answer_same x (Some d) (px ∙ ap holding (ap decode_of (sym pb) ∙ sym pd))

-- the same of the functions' own contracts: whatever `slot_at`, `desc::load` and `Descriptor::decode` may answer by them, what `slot_at` answers
-- holds what the other two make of the slot
pub by_contract :
    (κ : Lfts 1) (ring : Bor (List ℕ)) (table size i : ℕ) → i < size → table + i * 16 + 16 ≤ length ring.now
    → (x : Option Descriptor) (sx : AtExit at.ended κ) → slot_at.Post κ (ring, (table, (size, (i, tt)))) x sx
    → (b : List ℕ) (sb : AtExit loads.ended κ) → load.Post κ (ring, (table + i * 16, tt)) b sb
    → (d : Descriptor) (sd : AtExit decodes.ended tt) → decode.Post tt (b, tt) d sd
    → x ≡ Some d
by_contract κ ring table size i h w x sx px b sb pb d sd pd =
    held x (get_of ring.now (table + i * 16) 16) b d (px ∙ load_and_decode ring.now table size i h w) pb pd

-- and whatever `Window::slot` may answer of a window
pub slot_by_contract :
    (κ : Lfts 1) (v : Window) (i : ℕ) → i < v.size → i * 16 + 16 ≤ length v.table.now
    → (x : Option Descriptor) (sx : AtExit slot.ended κ) → slot_reads.Post κ (v, (i, tt)) x sx
    → (b : List ℕ) (sb : AtExit loads.ended κ) → load.Post κ (v.table, (i * 16, tt)) b sb
    → (d : Descriptor) (sd : AtExit decodes.ended tt) → decode.Post tt (b, tt) d sd
    → x ≡ Some d
slot_by_contract κ v i h w x sx px b sb pb d sd pd =
    held x (get_of v.table.now (i * 16) 16) b d (px ∙ shown v.table.now v.size i h w) pb pd

-- what an end wrote into a slot is what a window shows
pub as_the_ends_write :
    (ring : List ℕ) (table size : ℕ) (c : RingCursor) (d : Descriptor) → Ranged d → c.head < size → ends.place_of table c + 16 ≤ length ring
    → shown_of (drop table (ends.slot_put table c d ring)) size c.head ≡ holding d
as_the_ends_write ring table size c d r h w =
    as_the_ends_look (ends.slot_put table c d ring) table size c h (omega (arith, slot_length table c d ring))
    ∙ ap holding (slot_same table c d ring w r)

-- the same of the sixteen bytes that `desc::store` puts there
pub as_stored :
    (ring : List ℕ) (table size i : ℕ) (d : Descriptor) → Ranged d → i < size → table + i * 16 + 16 ≤ length ring
    → shown_of (drop table (put_of ring (table + i * 16) (encode_of d)).bytes) size i ≡ holding d
as_stored ring table size i d r h w =
    let c = cursor.at i true in
    ap (λ (l : List ℕ). shown_of (drop table l) size i) (sym (slot_stored table c d ring)) ∙ as_the_ends_write ring table size c d r h w

-- ---- values that meet the premises: the slot D1 of document 01, in the second slot of a table of two at byte 16 of 48

d1 : Descriptor
d1 = descriptor 0x1122334455667788 64 3 130

ranged : Ranged d1
unfolding d1
ranged = record { addr = omega arith; len = omega arith; id = omega arith; flags = omega arith }

zeros : List ℕ
zeros = replicate 48 0

whole : 16 + 1 * 16 + 16 ≤ length zeros
unfolding zeros
whole = omega (arith, length-replicate {A = ℕ} 48 0)

looked : shown_of (drop 16 zeros) 2 1 ≡ holding (decode_of (get_of zeros (16 + 1 * 16) 16))
looked = load_and_decode zeros 16 2 1 (omega arith) whole

looked_alike : shown_of (drop 16 zeros) 2 1 ≡ holding (ends.slot_of 16 (cursor.at 1 true) zeros)
looked_alike = as_the_ends_look zeros 16 2 (cursor.at 1 true) (omega arith) whole

abbrev lent : Bor (List ℕ)
lent = record { ref_ptr = (0, 0); now = zeros }

abbrev zero : Descriptor
zero = decode_of (get_of zeros (16 + 1 * 16) 16)

-- the same slot of the window whose table is the region itself
abbrev first : Descriptor
first = decode_of (get_of zeros (1 * 16) 16)

first_whole : 1 * 16 + 16 ≤ length zeros
unfolding zeros
first_whole = omega (arith, length-replicate {A = ℕ} 48 0)

abbrev κ : Lfts 1
κ = ([], tt)

-- each contract allows an answer there, and no other
allowed : slot_at.Post κ (lent, (16, (2, (1, tt)))) (Some zero) (lent, (16, (2, (1, tt))))
allowed = sym looked

answered : (x : Option Descriptor) (sx : AtExit at.ended κ) → slot_at.Post κ (lent, (16, (2, (1, tt)))) x sx → x ≡ Some zero
answered x sx px =
    by_contract κ lent 16 2 1 (omega arith) whole x sx px
    (get_of zeros (16 + 1 * 16) 16) (lent, (16 + 1 * 16, tt)) refl
    zero (get_of zeros (16 + 1 * 16) 16, tt) refl

allowed_slot : slot_reads.Post κ (window lent 2, (1, tt)) (Some first) (window lent 2, (1, tt))
allowed_slot = sym (shown zeros 2 1 (omega arith) first_whole)

answered_slot : (x : Option Descriptor) (sx : AtExit slot.ended κ) → slot_reads.Post κ (window lent 2, (1, tt)) x sx → x ≡ Some first
answered_slot x sx px =
    slot_by_contract κ (window lent 2) 1 (omega arith) first_whole x sx px
    (get_of zeros (1 * 16) 16) (lent, (1 * 16, tt)) refl
    first (get_of zeros (1 * 16) 16, tt) refl

stored : shown_of (drop 16 (put_of zeros (16 + 1 * 16) (encode_of d1)).bytes) 2 1 ≡ holding d1
stored = as_stored zeros 16 2 1 d1 ranged (omega arith) whole

written : shown_of (drop 16 (ends.slot_put 16 (cursor.at 1 true) d1 zeros)) 2 1 ≡ holding d1
written = as_the_ends_write zeros 16 2 (cursor.at 1 true) d1 ranged (omega arith) whole

-- slot 2 is not below the size, and a third slot would end past the bytes
none : shown_of (drop 16 zeros) 2 2 ≡ answer_of None
none = nothing_then zeros 16 2 2 (inl (omega arith))

short : shown_of (drop 16 zeros) 3 2 ≡ answer_of None
unfolding zeros
short = nothing_then zeros 16 3 2 (inr (omega (arith, length-replicate {A = ℕ} 48 0)))

none_behind : shown_of (drop 16 zeros) 2 7 ≡ answer_of None
none_behind = nothing_behind zeros 16 2 2 7 (omega arith) none

why : (3 ≤ 2) ⊎ (length zeros < 16 + 2 * 16 + 16)
why = only_then zeros 16 3 2 short
