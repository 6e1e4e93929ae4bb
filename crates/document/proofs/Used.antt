-- What an accepted completion leaves in the bytes is the document's used descriptor (VIRTIO 1.1, 2.7.5) but for WRITE, at the position that
-- the used cursor stands for.
-- Assumes nothing.
use Prim.Native.Nat.{ℕ, ◌+◌, ◌^◌, ◌≤◌, ◌<◌}
use mathlib.Core.Path.{◌≡◌, refl, sym, ◌∙◌, ap, subst}
use mathlib.Core.List.{List}
use mathlib.Core.Bool.{Bool, false}
use native.Mathlib.Omega.{arith}
use lib.ListN.{length, get_or}
use Rattle.base.proofs.Words.{Bytes}
use Rattle.cursor.specs.declared.RingCursor.{RingCursor}
use Rattle.cursor.specs.Cursor.{steps}
use Rattle.desc.specs.Desc.{descriptor, mark_used}
use Rattle.desc.proofs.Flags.{used_ranged, used_keeps}
use Rattle.ring.specs.Slots.{place_of, slot_put}
use Rattle.ring.proofs.Frames.{slot_length, slot_same}
use Rattle.virtio.specs.Packed.{Used}
use Rattle.virtio.specs.Chains.{slot_at, DescAt, UsedAt}
use Rattle.virtio.proofs.Rounds.{same_bits, mark_used_lem, mark_used_others}
use Rattle.consumer.specs.declared.RingConsumer.{RingConsumer}
use Rattle.consumer.specs.Outcome as taken
use Rattle.consumer.specs.Complete.{complete_refusal, complete_of}
use Rattle.consumer.proofs.Complete.{CompleteReady, complete_ready, complete_done}
use Rattle.consumer.proofs.Goes.{completed_is}
use Rattle.document.specs.Document.{cursor_at}
use Rattle.document.proofs.Positions.{steps_position}
use Rattle.document.proofs.Slots.{slot_bytes, slot_there, moved, unset}

module _ (p : RingConsumer) (ring counts : List ℕ) (id len : ℕ) (h : complete_refusal p (length ring) id counts ≡ 0)
    (ring_bytes : Bytes ring) (lw : len < 256 ^ 4) (q : ℕ) (stands : p.used ≡ cursor_at p.layout.size q) where
  abbrev size : ℕ
  size = p.layout.size

  abbrev table : ℕ
  table = p.layout.table

  abbrev after : List ℕ
  after = (complete_of p ring counts id len).ring

  is_ready : CompleteReady p (length ring) id counts
  is_ready = complete_ready p (length ring) id counts h

  -- the chain's one used descriptor, with its ID and length. WRITE is never set, which the document has only where the device wrote
  -- nothing (docs/DIFFERENCES.md)
  pub completed_slot : UsedAt after table size q id len false
  completed_slot =
      let w = p.used.wrap in
      let e = descriptor 0 len id 0 in
      let d = mark_used e w in
      let s = used_keeps e w in
      let r = used_ranged len id w lw (omega (arith, is_ready.below, is_ready.sound.laid.high)) in
      let f = ap (λ (o : taken.Outcome). o.ring) (complete_done p ring counts id len h) in
      let whole : place_of table p.used + 16 ≤ length ring = omega (arith, is_ready.sound.used, is_ready.lent.bytes_whole.table) in
      record {
        addr = 0;
        flags = d.flags;
        desc =
            subst (λ (l : List ℕ). DescAt l table (slot_at size q) 0 len id d.flags) (sym f)
            (moved (ap (λ (x : RingCursor). x.head) stands) s.addr s.len s.id
            (slot_there table p.used (slot_put table p.used d ring) d (slot_bytes table p.used d ring ring_bytes)
            (omega (arith, slot_length table p.used d ring)) r (slot_same table p.used d ring whole r)));
        round = subst (λ (b : Bool). Used d.flags b) (ap (λ (x : RingCursor). x.wrap) stands) (mark_used_lem e w);
        write = sym (same_bits d.flags).write ∙ s.flags.write;
        reserved = λ k. unset 0 d.flags k (mark_used_others e w (omega arith) k) (refl, omega arith);
      }

  -- and the used cursor is as many positions on as the chain has slots
  pub completed_cursor : (complete_of p ring counts id len).end.used ≡ cursor_at size (q + get_or counts id 0)
  completed_cursor =
      ap (λ (o : taken.Outcome). o.end.used) (complete_done p ring counts id len h)
      ∙ ap (λ (x : RingConsumer). x.used) (completed_is p (get_or counts id 0))
      ∙ ap (steps size (get_or counts id 0)) stands
      ∙ steps_position size is_ready.sound.laid.low q (get_or counts id 0)
