-- Bytes that hold the document's chain at the avail cursor's position are polled as that chain, and bytes that hold its used descriptor at the
-- used cursor's as that completion, whoever wrote them (VIRTIO 1.1, 2.7.4 to 2.7.6).
-- Assumes nothing.
use Prim.Native.Nat.{ℕ, ◌+◌, ◌*◌, ◌≤◌, ◌<◌}
use mathlib.Core.Path.{◌≡◌, sym, ◌∙◌, ap, subst}
use mathlib.Core.List.{List, [], ◌∷◌}
use mathlib.Core.Bool.{Bool, true, false}
use native.Mathlib.Omega.{arith}
use native.Mathlib.Nat.{add-zero, mod-lt}
use lib.ListN.{length, get_or, set}
use lib.Seq.{sets}
use Rattle.base.specs.Answer.{done}
use Rattle.cursor.specs.declared.RingCursor.{RingCursor}
use Rattle.cursor.specs.Cursor.{steps}
use Rattle.cursor.proofs.Laws.{steps_none}
use Rattle.desc.specs.declared.Descriptor.{Descriptor}
use Rattle.desc.specs.Flags.{NEXT, WRITE, INDIRECT, has, is_avail, is_used}
use Rattle.desc.specs.Desc.{descriptor}
use Rattle.layout.specs.declared.Layout.{Layout}
use Rattle.layout.specs.Layout.{table_bytes}
use Rattle.ring.specs.Slots.{slot_of}
use Rattle.virtio.specs.Packed.{Available, Used}
use Rattle.virtio.specs.Chains.{slot_at, counter_at, ChainAt, UsedAt}
use Rattle.virtio.proofs.Rounds.{same_bits, available_avail, used_test}
use Rattle.producer.specs.declared.RingProducer.{RingProducer}
use Rattle.producer.specs.Record as made
use Rattle.producer.specs.Outcome as outcomes
use Rattle.producer.specs.Poll as used
use Rattle.producer.proofs.Ready as makes
use Rattle.producer.proofs.Poll.{poll_done}
use Rattle.producer.proofs.Goes.{poll_goes, polled_is}
use Rattle.consumer.specs.declared.RingConsumer.{RingConsumer}
use Rattle.consumer.specs.Record.{bad_record, bad_lent}
use Rattle.consumer.specs.Poll.{taken, past_of, poll_of}
use Rattle.consumer.proofs.Ready as takes
use Rattle.back.proofs.Back.{Legible, poll_accepted, poll_back}
use Rattle.document.specs.Document.{cursor_at, element_in}
use Rattle.document.proofs.Positions.{steps_position}
use Rattle.document.proofs.Slots.{slot_read}

-- ---- a chain, of the elements that two lists of addresses and lengths are. Its head must have the ID too: the ring reads the head's, the
-- document has it in the last (docs/DIFFERENCES.md)

module _ (l : Layout) (bytes : List ℕ) (q id : ℕ) (addrs lens : List ℕ) (readable : ℕ)
    (chain : ChainAt bytes l.table l.size q (length addrs) id (element_in addrs lens readable)) (head : chain.ids 0 ≡ id)
    (equal : length addrs ≡ length lens) (within : readable ≤ length addrs) where
  module _ (big : 0 < l.size) (whole : l.table + table_bytes l ≤ length bytes) where
    abbrev c : RingCursor
    c = cursor_at l.size q

    slot :
        (j : ℕ) (h : j < length addrs)
        → slot_of l.table (steps l.size j c) bytes
        ≡ descriptor (get_or addrs j 0) (get_or lens j 0) (chain.ids j) (chain.slots j h).flags
    slot j h =
        ap (λ (x : RingCursor). slot_of l.table x bytes) (steps_position l.size big q j)
        ∙ slot_read l.table (cursor_at l.size (q + j)) bytes (get_or addrs j 0) (get_or lens j 0) (chain.ids j) (chain.slots j h).flags
        (in_table (slot_at l.size (q + j)) (mod-lt (q + j) big)) (chain.slots j h).desc
      where
        in_table : (s : ℕ) → s < l.size → l.table + s * 16 + 16 ≤ length bytes
        in_table s h = omega arith

    at_head :
        slot_of l.table c bytes
        ≡ descriptor (get_or addrs 0 0) (get_or lens 0 0) (chain.ids 0) (chain.slots 0 chain.some_elements).flags
    at_head = ap (λ (x : RingCursor). slot_of l.table x bytes) (sym (steps_none l.size c)) ∙ slot 0 chain.some_elements

    pub chain_legible : Legible l bytes c id addrs lens readable
    chain_legible =
        let first = chain.slots 0 chain.some_elements in
        record {
          some_elements = chain.some_elements;
          few = chain.no_longer;
          equal = equal;
          within = within;
          addr = λ j h. ap (λ (d : Descriptor). d.addr) (slot j h);
          len = λ j h. ap (λ (d : Descriptor). d.len) (slot j h);
          spelt =
              record {
                next = λ j h.
                    let s = chain.slots j h in ap (λ (d : Descriptor). has d.flags NEXT) (slot j h) ∙ (same_bits s.flags).next ∙ s.next;
                write = λ j h.
                    let s = chain.slots j h in ap (λ (d : Descriptor). has d.flags WRITE) (slot j h) ∙ (same_bits s.flags).write ∙ s.write;
                indirect = λ j h.
                    let s = chain.slots j h in
                    ap (λ (d : Descriptor). has d.flags INDIRECT) (slot j h) ∙ (same_bits s.flags).indirect ∙ s.direct;
              };
          head_id = ap (λ (d : Descriptor). d.id) at_head ∙ head;
          head_avail =
              ap (λ (d : Descriptor). is_avail d.flags c.wrap) at_head
              ∙ available_avail first.flags c.wrap
              (subst (λ (p : ℕ). Available first.flags (counter_at l.size p)) (add-zero q) first.round);
        }

-- with a good record, whatever is lent long enough, an ID of the ring that is not held, and room for the chain, a poll hands out that chain: its
-- ID, its elements and its readable count
module _ (p : RingConsumer) (bytes held outs louts : List ℕ) (q id : ℕ) (addrs lens : List ℕ) (readable : ℕ)
    (chain : ChainAt bytes p.layout.table p.layout.size q (length addrs) id (element_in addrs lens readable)) (head : chain.ids 0 ≡ id)
    (equal : length addrs ≡ length lens) (within : readable ≤ length addrs) (stands : p.avail ≡ cursor_at p.layout.size q) where
  pub chain_polled :
      bad_record p ≡ false → bad_lent p (length bytes) (length held) ≡ false
      → p.layout.size ≤ length outs → p.layout.size ≤ length louts
      → id < p.layout.size → get_or held id 0 ≡ 0 → p.inflight + length addrs ≤ p.layout.size
      → poll_of p bytes held outs louts
      ≡ taken (done (id ∷ length addrs ∷ readable ∷ [])) (past_of p (cursor_at p.layout.size (q + length addrs)) (length addrs))
      (set held id (length addrs)) (sets outs 0 addrs) (sets louts 0 lens)
  chain_polled r l a b low free room =
      let big = (takes.sound p r).laid.low in
      let s = subst (λ (c : RingCursor). Legible p.layout bytes c id addrs lens readable) (sym stands)
      (chain_legible p.layout bytes q id addrs lens readable chain head equal within big (takes.lent p (length bytes) (length held) l).bytes_whole.table) in
      poll_back p bytes id addrs lens readable s held outs louts
      (poll_accepted p bytes id addrs lens readable s held outs louts r l a b low free room)
      ∙ ap (λ (c : RingCursor). taken (done (id ∷ length addrs ∷ readable ∷ [])) (past_of p c (length addrs)) (set held id (length addrs)) (sets outs 0 addrs) (sets louts 0 lens))
      (ap (steps p.layout.size (length addrs)) stands ∙ steps_position p.layout.size big q (length addrs))

-- ---- a used descriptor, of an ID that is out: the poll takes its ID and its length, WRITE or not

module _ (p : RingProducer) (bytes ids counts : List ℕ) (q id len : ℕ) (wrote : Bool)
    (u : UsedAt bytes p.layout.table p.layout.size q id len wrote) (stands : p.used ≡ cursor_at p.layout.size q) where
  pub used_polled :
      made.bad_record p ≡ false → made.bad_lent p (length bytes) (length ids) (length counts) ≡ false
      → id < p.layout.size → 0 < get_or counts id 0 → p.free + get_or counts id 0 ≤ p.layout.size → p.height < p.layout.size
      → (used.poll_of p bytes ids counts).answer ≡ done (id ∷ len ∷ [])
  used_polled r l low out free room =
      let s = makes.sound p r in
      let w = (makes.lent p (length bytes) (length ids) (length counts) l).bytes_whole.table in
      let found = slot_of p.layout.table p.used bytes in
      let e : found ≡ descriptor u.addr len id u.flags =
      ap (λ (x : RingCursor). slot_of p.layout.table x bytes) stands
      ∙ slot_read p.layout.table (cursor_at p.layout.size q) bytes u.addr len id u.flags
      (omega (arith, mod-lt q s.laid.low, w)) u.desc in
      let i : found.id ≡ id = ap (λ (d : Descriptor). d.id) e in
      let is_used_lem : is_used found.flags p.used.wrap ≡ true =
      ap (λ (d : Descriptor). is_used d.flags p.used.wrap) e
      ∙ used_test u.flags p.used.wrap (subst (λ (b : Bool). Used u.flags b) (sym (ap (λ (x : RingCursor). x.wrap) stands)) u.round) in
      ap (λ (o : outcomes.Outcome). o.answer)
      (poll_done p bytes ids counts
      (poll_goes p (length bytes) found (length ids) counts r l is_used_lem (omega (arith, i))
      (subst (λ (k : ℕ). 0 < get_or counts k 0) (sym i) out)
      (subst (λ (k : ℕ). p.free + get_or counts k 0 ≤ p.layout.size) (sym i) free) room)
      ∙ polled_is p found bytes ids counts)
      ∙ (λ k. done ((e k).id ∷ (e k).len ∷ []))
