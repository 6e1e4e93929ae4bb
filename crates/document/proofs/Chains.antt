-- What an accepted submission leaves in the bytes is the document's chain (VIRTIO 1.1, 2.7.5 and 2.7.6), at the positions that the avail
-- cursor stands for.
-- Assumes nothing.
use Prim.Native.Nat.{ℕ, ◌+◌, ◌^◌, ◌≤◌, ◌<◌}
use mathlib.Core.Path.{◌≡◌, refl, sym, ◌∙◌, ap, subst}
use mathlib.Core.List.{List}
use mathlib.Core.Bool.{Bool, true, false, not}
use native.Mathlib.Omega.{arith}
use lib.Dec.{ltb}
use lib.ListN.{length, get_or}
use borrow.Author.Tests.{ltb-false, le-ltb}
use Rattle.base.proofs.Words.{Bytes}
use Rattle.cursor.specs.declared.RingCursor.{RingCursor}
use Rattle.cursor.specs.Cursor.{steps}
use Rattle.cursor.proofs.Laws.{steps_below}
use Rattle.desc.specs.Desc.{mark_avail}
use Rattle.ring.specs.Slots.{place_of}
use Rattle.virtio.specs.Packed.{Available}
use Rattle.virtio.specs.Chains.{AvailableAt, ChainAt}
use Rattle.virtio.proofs.Rounds.{same_bits, mark_available, mark_available_others}
use Rattle.producer.specs.declared.RingProducer.{RingProducer}
use Rattle.producer.specs.Outcome as made
use Rattle.producer.specs.Submit.{top_of, submit_refusal, element_of, put_chain, submit_of}
use Rattle.producer.proofs.Submit.{SubmitReady, submit_ready, submit_done}
use Rattle.producer.proofs.Goes.{submitted_is, taken_is}
use Rattle.producer.proofs.Frame.{chain_hold, chain_past, element_ranged, element_flags, marked_says}
use Rattle.producer.proofs.Touch.{submit_ring, submit_length}
use Rattle.back.proofs.Back.{written}
use Rattle.document.specs.Document.{cursor_at, element_in}
use Rattle.document.proofs.Positions.{steps_position}
use Rattle.document.proofs.Slots.{slot_bytes, slot_there, moved, unset}

module _ (p : RingProducer) (ring ids counts addrs lens : List ℕ) (readable : ℕ)
    (h : submit_refusal p (length ring) ids counts (length addrs) (length lens) readable ≡ 0)
    (ring_bytes : Bytes ring) (aw : (i : ℕ) → get_or addrs i 0 < 256 ^ 8) (lw : (i : ℕ) → get_or lens i 0 < 256 ^ 4)
    (q : ℕ) (stands : p.avail ≡ cursor_at p.layout.size q) where
  abbrev size : ℕ
  size = p.layout.size

  abbrev table : ℕ
  table = p.layout.table

  abbrev id : ℕ
  id = top_of p ids

  abbrev n : ℕ
  n = length addrs

  abbrev after : List ℕ
  after = (submit_of p ring ids counts addrs lens readable).ring

  is_ready : SubmitReady p (length ring) ids counts n (length lens) readable
  is_ready = submit_ready p (length ring) ids counts n (length lens) readable h

  big : 0 < size
  big = is_ready.sound.laid.low

  after_bytes : Bytes after
  after_bytes =
      subst (λ (l : List ℕ). Bytes l) (sym (submit_ring p ring ids counts addrs lens readable h))
      (chain_hold p.layout (element_of id addrs lens readable) n p.avail ring (λ l. Bytes l) (slot_bytes table) ring_bytes)

  cursor : (j : ℕ) → steps size j p.avail ≡ cursor_at size (q + j)
  cursor j = ap (steps size j) stands ∙ steps_position size big q j

  -- element j is at position q + j, with the ID that the submission got: the same in every slot
  pub submitted_slot : (j : ℕ) → j < n → AvailableAt after table size (q + j) (element_in addrs lens readable j) id (ltb (j + 1) n)
  submitted_slot j l =
      let c = steps size j p.avail in
      let e = element_of id addrs lens readable j in
      let d = mark_avail e c.wrap in
      let s = marked_says id addrs lens readable j c.wrap in
      let b = same_bits d.flags in
      let five = element_flags id addrs lens readable j in
      let r = element_ranged id addrs lens readable (omega (arith, is_ready.id, is_ready.sound.laid.high)) aw lw j c.wrap in
      let whole : place_of table c + 16 ≤ length after =
      omega (arith, steps_below size j p.avail is_ready.sound.avail, is_ready.lent.bytes_whole.table, submit_length p ring ids counts addrs lens readable h) in
      record {
        flags = d.flags;
        desc =
            moved (ap (λ (x : RingCursor). x.head) (cursor j)) s.addr s.len s.id
            (slot_there table c after d after_bytes whole r ((written p ring ids counts addrs lens readable h aw lw).slots j l));
        round = subst (λ (w : Bool). Available d.flags w) (ap (λ (x : RingCursor). x.wrap) (cursor j)) (mark_available e c.wrap);
        write = sym b.write ∙ s.write;
        next = sym b.next ∙ s.next;
        direct = sym b.indirect ∙ s.indirect;
        reserved = λ k. unset e.flags d.flags k (mark_available_others e c.wrap five.1 k) five;
      }

  -- so the document's chain of those elements stands there, and its last slot has the ID, as 2.7.5 asks
  pub submitted_chain : ChainAt after table size q n id (element_in addrs lens readable)
  submitted_chain =
      record {
        some_elements = is_ready.elements;
        no_longer = omega (arith, is_ready.room, is_ready.sound.free);
        readable_first = λ i j l g e. first i j l e;
        ids = λ j. id;
        slots = submitted_slot;
        last = refl;
      }
    where
      off : (b : Bool) → not b ≡ true → b ≡ false
      off false e = refl
      off true e = sym e

      first : (i j : ℕ) → i < j → not (ltb i readable) ≡ true → not (ltb j readable) ≡ true
      first i j l e = let g = ltb-false i readable (off (ltb i readable) e) in ap not (le-ltb j readable (omega arith))

  -- and so has every other
  pub submitted_ids : (j : ℕ) → submitted_chain.ids j ≡ id
  unfolding submitted_chain
  submitted_ids j = refl

  -- and the avail cursor is n positions on
  pub submitted_cursor : (submit_of p ring ids counts addrs lens readable).end.avail ≡ cursor_at size (q + n)
  submitted_cursor =
      let w = put_chain p.layout (element_of id addrs lens readable) n p.avail ring in
      ap (λ (o : made.Outcome). o.end.avail) (submit_done p ring ids counts addrs lens readable h ∙ submitted_is p ids counts n id w)
      ∙ ap (λ (x : RingProducer). x.avail) (taken_is p w.past n)
      ∙ chain_past p.layout (element_of id addrs lens readable) n p.avail ring is_ready.elements
      ∙ cursor n
