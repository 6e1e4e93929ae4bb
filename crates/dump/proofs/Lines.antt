-- The lines of a dump, case by case.
-- Assumes nothing.
use Prim.Native.Nat.{ℕ, suc, ◌+◌, ◌-◌, ◌*◌, ◌/◌, ◌≤◌, ◌<◌}
use native.Mathlib.Omega.{arith}
use mathlib.Core.Path.{◌≡◌, sym, ap, ◌∙◌}
use mathlib.Core.Logic.{◌⊎◌, inl, inr, ⊎_elim}
use mathlib.Core.List.{List, [], ◌∷◌, ◌++◌}
use mathlib.Core.Bool.{true, false, cond, ◌&&◌}
use lib.Dec.{ltb, eqb}
use lib.ListN.{length, get_or, drop}
use borrow.Author.Tests.{lt-ltb, le-ltb}
use Rattle.base.specs.Answer.{Answer}
use Rattle.base.specs.Bytes.{get_of}
use Rattle.base.proofs.Tests.{by_lt}
use Rattle.desc.specs.declared.Descriptor.{Descriptor}
use Rattle.desc.specs.Desc.{decode_of}
use Rattle.std.specs.Prelude.{Option, Some, None}
use Rattle.window.specs.Window.{answer_of, shown_of}
use Rattle.window.proofs.Laws.{answer_same}
use Rattle.window.proofs.Shows.{load_and_decode, nothing_then, only_then}
use Rattle.text.specs.Text.{words, right_of, hex_of, Written, put_text, puts}
use Rattle.text.proofs.Texts.{texts_append}
use Rattle.dump.specs.Names.{names_of}
use Rattle.dump.specs.Lines.{mark_text, flag_texts, slot_texts, whole_of, missing_texts, ring_line}

-- ---- a slot's line: its numbers, its marks, its flags, the line's end

pub slot_line :
    (i : ℕ) (d : Descriptor) (w : Written)
    → puts (slot_texts i d) w
    ≡ put_text (words "\n")
    (puts (flag_texts d.flags (names_of d.flags))
    (put_text (words " ") (put_text (mark_text d.flags false) (put_text (mark_text d.flags true)
    (puts (right_of 5 i ++ (words "  " ∷ hex_of 16 d.addr ∷ (right_of 12 d.len ++ right_of 7 d.id))) w)))))
unfolding slot_texts puts
slot_line i d w = texts_append (flag_texts d.flags (names_of d.flags)) (words "\n" ∷ []) _

-- ---- the lines of a ring

module _ (l : List ℕ) (table size : ℕ) where
  abbrev whole : ℕ
  whole = whole_of size (length l - table)

  pub whole_below : (i : ℕ) → i < size → table + i * 16 + 16 ≤ length l → i < whole
  unfolding whole_of
  whole_below i h w =
      by_lt ((length l - table) / 16) size
      (λ s. rw (lt-ltb ((length l - table) / 16) size s) (omega arith))
      (λ s. rw (le-ltb ((length l - table) / 16) size s) h)

  pub whole_above : (i : ℕ) → (size ≤ i) ⊎ (length l < table + i * 16 + 16) → whole ≤ i
  unfolding whole_of
  whole_above i o =
      by_lt ((length l - table) / 16) size
      (λ s. rw (lt-ltb ((length l - table) / 16) size s) (⊎_elim (λ h. omega arith) (λ h. omega arith) o))
      (λ s. rw (le-ltb ((length l - table) / 16) size s) (⊎_elim (λ h. h) (λ h. omega arith) o))

  -- the descriptor that stands in slot i
  abbrev at : ℕ → Descriptor
  at i = decode_of (get_of l (table + i * 16) 16)

  line : (i : ℕ) → ltb i whole ≡ true → ring_line l table size (suc i) ≡ slot_texts i (at i)
  unfolding ring_line
  line i t = simp t

  -- a slot that the window holds has its line
  pub held : (i : ℕ) (d : Descriptor) → answer_of (Some d) ≡ shown_of (drop table l) size i → ring_line l table size (suc i) ≡ slot_texts i d
  held i d e =
      by_lt i size
      (λ h. by_lt (length l) (table + i * 16 + 16)
      (λ w. absurd (omega (arith, ap (λ (a : Answer). get_or a.values 0 0) (e ∙ nothing_then l table size i (inr w)))))
      (λ w. line i (lt-ltb i whole (whole_below i h w))
      ∙ ap (slot_texts i) (sym (ap content (answer_same (Some d) (Some (at i)) (e ∙ load_and_decode l table size i h w))))))
      (λ h. absurd (omega (arith, ap (λ (a : Answer). get_or a.values 0 0) (e ∙ nothing_then l table size i (inl h)))))
    where
      content : Option Descriptor → Descriptor
      content (Some x) = x
      content None = d

  -- one that it does not hold has none, but for the first of them
  pub absent :
      (i : ℕ) → answer_of None ≡ shown_of (drop table l) size i
      → ring_line l table size (suc i) ≡ cond (eqb i whole && ltb i size) (missing_texts i size) []
  unfolding ring_line
  absent i e = simp (le-ltb i whole (whole_above i (only_then l table size i (sym e))))
