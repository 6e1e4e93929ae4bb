-- Reading back a written chain gives the chain: from slots in which a chain stands, as an accepted submission leaves them, or is legible at all,
-- a poll hands out its ID, its elements and its readable count.
-- Assumes nothing.
use Prim.Native.Nat.{ℕ, ◌+◌, ◌^◌, ◌≤◌, ◌<◌}
use mathlib.Core.Path.{◌≡◌, refl, sym, ◌∙◌, ap}
use mathlib.Core.List.{List, [], ◌∷◌, map}
use mathlib.Core.Bool.{Bool, true, false, beq}
use native.Mathlib.Omega.{arith}
use lib.Dec.{ltb}
use lib.ListN.{length, get_or, set}
use lib.Seq.{sets, ext_get_or}
use Rattle.base.specs.Answer.{done}
use Rattle.cursor.specs.declared.RingCursor.{RingCursor}
use Rattle.cursor.specs.Cursor.{steps}
use Rattle.cursor.proofs.Laws.{steps_none}
use Rattle.desc.specs.declared.Descriptor.{Descriptor}
use Rattle.desc.specs.Flags.{is_avail}
use Rattle.desc.specs.Desc.{mark_avail}
use Rattle.desc.proofs.Flags.{avail_marked}
use Rattle.layout.specs.declared.Layout.{Layout}
use Rattle.ring.specs.Slots.{slot_of}
use Rattle.walk.specs.declared.Walk.{Walk}
use Rattle.walk.specs.Walk.{slots_from, addr_of, len_of}
use Rattle.walk.proofs.Laws.{Spelt, walk_whole, slots_length, slots_at}
use Rattle.producer.specs.declared.RingProducer.{RingProducer}
use Rattle.producer.specs.Submit.{top_of, submit_refusal, element_of, submit_of}
use Rattle.producer.proofs.Submit.{submit_ready}
use Rattle.producer.proofs.Frame.{Says, chain_at, element_ranged, marked_says}
use Rattle.producer.proofs.Touch.{submit_ring}
use Rattle.consumer.specs.declared.RingConsumer.{RingConsumer}
use Rattle.consumer.specs.Poll.{taken, head_of, walked_of, past_of, poll_of, poll_refusal}
use Rattle.consumer.specs.Record.{bad_record, bad_lent}
use Rattle.consumer.proofs.Poll.{head_goes, walk_goes, poll_goes, poll_takes}

-- a chain stands in the slots from a cursor on: element j in the j-th of them, available in that slot's round
pub record Stands (l : Layout) (bytes : List ℕ) (c : RingCursor) (id : ℕ) (addrs lens : List ℕ) (readable : ℕ) : Type 0 where
  pub some_elements : 0 < length addrs
  pub few : length addrs ≤ l.size
  pub equal : length addrs ≡ length lens
  pub within : readable ≤ length addrs
  pub slots :
      (j : ℕ) → j < length addrs
      → slot_of l.table (steps l.size j c) bytes ≡ mark_avail (element_of id addrs lens readable j) (steps l.size j c).wrap

-- an accepted submission leaves its chain standing from the avail cursor on, the lent numbers being of their types
pub written :
    (p : RingProducer) (ring ids counts addrs lens : List ℕ) (readable : ℕ)
    → submit_refusal p (length ring) ids counts (length addrs) (length lens) readable ≡ 0
    → ((i : ℕ) → get_or addrs i 0 < 256 ^ 8) → ((i : ℕ) → get_or lens i 0 < 256 ^ 4)
    → Stands p.layout (submit_of p ring ids counts addrs lens readable).ring p.avail (top_of p ids) addrs lens readable
written p ring ids counts addrs lens readable h aw lw =
    let r = submit_ready p (length ring) ids counts (length addrs) (length lens) readable h in
    let few : length addrs ≤ p.layout.size = omega (arith, r.room, r.sound.free) in
    record {
      some_elements = r.elements;
      few = few;
      equal = r.chain.equal;
      within = r.chain.within;
      slots = λ j q.
          ap (slot_of p.layout.table (steps p.layout.size j p.avail)) (submit_ring p ring ids counts addrs lens readable h)
          ∙ chain_at p.layout (element_of (top_of p ids) addrs lens readable) (length addrs) p.avail ring
          (element_ranged (top_of p ids) addrs lens readable (omega (arith, r.id, r.sound.laid.high)) aw lw)
          j q few r.sound.avail r.lent.bytes_whole.table;
    }

-- what a poll looks at of a chain: the elements' fields in the slots from a cursor on, and the head's ID and round. Tail IDs and tail marks
-- are none of it
pub record Legible (l : Layout) (bytes : List ℕ) (c : RingCursor) (id : ℕ) (addrs lens : List ℕ) (readable : ℕ) : Type 0 where
  pub some_elements : 0 < length addrs
  pub few : length addrs ≤ l.size
  pub equal : length addrs ≡ length lens
  pub within : readable ≤ length addrs
  pub addr : (j : ℕ) → j < length addrs → (slot_of l.table (steps l.size j c) bytes).addr ≡ get_or addrs j 0
  pub len : (j : ℕ) → j < length addrs → (slot_of l.table (steps l.size j c) bytes).len ≡ get_or lens j 0
  pub spelt : Spelt l.table l.size bytes c (length addrs) readable
  pub head_id : (slot_of l.table c bytes).id ≡ id
  pub head_avail : is_avail (slot_of l.table c bytes).flags c.wrap ≡ true

-- a chain that stands is legible
pub legible :
    (l : Layout) (bytes : List ℕ) (c : RingCursor) (id : ℕ) (addrs lens : List ℕ) (readable : ℕ) → Stands l bytes c id addrs lens readable
    → Legible l bytes c id addrs lens readable
legible l bytes c id addrs lens readable s =
    record {
      some_elements = s.some_elements;
      few = s.few;
      equal = s.equal;
      within = s.within;
      addr = λ j h. (says j h).addr;
      len = λ j h. (says j h).len;
      spelt = record { next = λ j h. (says j h).next; write = λ j h. (says j h).write; indirect = λ j h. (says j h).indirect };
      head_id = ap (λ (d : Descriptor). d.id) head ∙ (says 0 s.some_elements).id;
      head_avail =
          ap (λ (d : Descriptor). is_avail d.flags c.wrap) (head ∙ s.slots 0 s.some_elements)
          ∙ avail_marked (element_of id addrs lens readable 0) (steps l.size 0 c).wrap c.wrap
          ∙ ap (λ (x : RingCursor). beq x.wrap c.wrap) (steps_none l.size c)
          ∙ same c.wrap;
    }
  where
    says : (j : ℕ) → j < length addrs → Says id addrs lens readable j (slot_of l.table (steps l.size j c) bytes)
    says j h = rw (s.slots j h) (marked_says id addrs lens readable j (steps l.size j c).wrap)

    head : slot_of l.table c bytes ≡ slot_of l.table (steps l.size 0 c) bytes
    head = ap (λ (x : RingCursor). slot_of l.table x bytes) (sym (steps_none l.size c))

    same : (b : Bool) → beq b b ≡ true
    same true = refl
    same false = refl

module _ (q : RingConsumer) (bytes : List ℕ) (id : ℕ) (addrs lens : List ℕ) (readable : ℕ)
    (s : Legible q.layout bytes q.avail id addrs lens readable) where
  abbrev n : ℕ
  n = length addrs

  abbrev size : ℕ
  size = q.layout.size

  abbrev table : ℕ
  table = q.layout.table

  -- the chain's j-th slot
  abbrev slot : ℕ → Descriptor
  slot j = slot_of table (steps size j q.avail) bytes

  -- what is copied out of them is what was lent
  copied :
      (A : Descriptor → ℕ) (l : List ℕ) → length l ≡ n → ((j : ℕ) → j < n → A (slot j) ≡ get_or l j 0)
      → map A (slots_from table size bytes q.avail n) ≡ l
  copied A l e f =
      let k = slots_length table size bytes A n q.avail in
      ext_get_or 0 (map A (slots_from table size bytes q.avail n)) l (k ∙ sym e)
      (λ i h. slots_at table size bytes A n i q.avail (omega (arith, k)) ∙ f i (omega (arith, k)))

  addrs_back : map addr_of (slots_from table size bytes q.avail n) ≡ addrs
  addrs_back = copied addr_of addrs refl s.addr

  lens_back : map len_of (slots_from table size bytes q.avail n) ≡ lens
  lens_back = copied len_of lens (sym s.equal) s.len

  -- the walk from the head on comes to the chain's end, and counts what was submitted
  pub walk_back :
      walked_of q bytes
      ≡ record { at = steps size n q.avail; count = n; readable = readable; more = false; writing = ltb readable n; bad = false }
  walk_back = walk_whole table size bytes q.avail n readable s.spelt s.some_elements s.few s.within

  module _ (held outs louts : List ℕ) where
    -- nothing but the record, what is lent, an ID that is not the ring's or is held, or too much in flight can be in the poll's way
    pub poll_accepted :
        bad_record q ≡ false → bad_lent q (length bytes) (length held) ≡ false → size ≤ length outs → size ≤ length louts
        → id < size → get_or held id 0 ≡ 0 → q.inflight + n ≤ size
        → poll_refusal q bytes held (length outs) (length louts) ≡ 0
    poll_accepted r l a b low z i =
        poll_goes q bytes held outs louts
        (head_goes q (length bytes) (head_of q bytes) (length held) (length outs) (length louts) r l a b s.head_avail 0)
        (walk_goes q (walked_of q bytes) (head_of q bytes).id held
        (ap (λ (w : Walk). w.bad) walk_back)
        (ap (λ (w : Walk). w.more) walk_back)
        (omega (arith, s.head_id))
        (ap (λ (k : ℕ). get_or held k 0) s.head_id ∙ z)
        (omega (arith, ap (λ (w : Walk). w.count) walk_back)))

    -- and it hands out the chain: its ID, its elements, its readable count
    pub poll_back :
        poll_refusal q bytes held (length outs) (length louts) ≡ 0
        → poll_of q bytes held outs louts
        ≡ taken (done (id ∷ n ∷ readable ∷ [])) (past_of q (steps size n q.avail) n) (set held id n) (sets outs 0 addrs) (sets louts 0 lens)
    poll_back g =
        let e = s.head_id in
        poll_takes q bytes held outs louts g
        ∙ (λ i.
        taken (done (e i ∷ (walk_back i).count ∷ (walk_back i).readable ∷ [])) (past_of q (walk_back i).at (walk_back i).count)
        (set held (e i) (walk_back i).count)
        (sets outs 0 (map addr_of (slots_from table size bytes q.avail (walk_back i).count)))
        (sets louts 0 (map len_of (slots_from table size bytes q.avail (walk_back i).count))))
        ∙ (λ i.
        taken (done (id ∷ n ∷ readable ∷ [])) (past_of q (steps size n q.avail) n) (set held id n)
        (sets outs 0 (addrs_back i)) (sets louts 0 (lens_back i)))
