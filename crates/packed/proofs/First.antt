-- Two fresh ends over a zeroed ring are like the empty queue.
-- Assumes nothing.
use Prim.Native.Nat.{ℕ, ◌+◌, ◌*◌, ◌≤◌, ◌<◌}
use mathlib.Core.Path.{◌≡◌, refl, sym, ap, ◌∙◌, subst}
use mathlib.Core.Bool.{false, ◌||◌}
use mathlib.Core.List.{List, [], ◌∷◌}
use native.Mathlib.Omega.{arith}
use native.Mathlib.Nat.{le_refl, zero-add}
use lib.Dec.{ltb}
use lib.ListN.{length, get_or, take, replicate, length-replicate, get_or-replicate}
use lib.Seq.{sets, length-sets}
use borrow.Author.Tests.{ltb-false}
use Rattle.base.specs.Answer.{done}
use Rattle.base.proofs.Tests.{split, by_lt, neither}
use Rattle.base.proofs.Runs.{part_same}
use Rattle.cursor.specs.Cursor.{fresh}
use Rattle.desc.specs.declared.Descriptor.{Descriptor}
use Rattle.event.specs.Event.{ENABLE}
use Rattle.desc.specs.Flags.{AVAIL, has}
use Rattle.layout.specs.declared.Layout.{Layout}
use Rattle.layout.specs.Layout.{bad_layout, outside}
use Rattle.layout.proofs.Laws.{laid, within}
use Rattle.ring.specs.Tables.{up_to}
use Rattle.ring.proofs.Laws.{up_length}
use Rattle.ring.proofs.Frames.{slot_zero, sets_at}
use Rattle.producer.specs.declared.RingProducer.{RingProducer}
use Rattle.producer.specs.Fresh as made
use Rattle.producer.proofs.Reset as made_laws
use Rattle.producer.proofs.Goes as makes
use Rattle.consumer.specs.declared.RingConsumer.{RingConsumer}
use Rattle.consumer.specs.Fresh as taken
use Rattle.consumer.proofs.Reset as taken_laws
use Rattle.consumer.proofs.Goes as takes
use Rattle.queue.proofs.Model.{start}
use Rattle.packed.specs.Machine.{packed, producer_opens_of, consumer_opens_of}
use Rattle.packed.specs.Opening.{Opening, opened_world}
use Rattle.packed.proofs.Position.{pos, view, pos_low, pos_start, round_early}
use Rattle.packed.proofs.Counts.{occ_s, one, occ_up, one_no}
use Rattle.packed.proofs.Invariant.{Like}

module _ (o : Opening packed) where
  abbrev at : Layout
  at = o.geometry

  abbrev size : ℕ
  size = at.size

  abbrev table : ℕ
  table = at.table

  abbrev driver : ℕ
  driver = at.driver

  abbrev device : ℕ
  device = at.device

  abbrev ring : List ℕ
  ring = o.ring

  abbrev ids : List ℕ
  ids = o.ids

  abbrev counts : List ℕ
  counts = o.counts

  abbrev held : List ℕ
  held = o.held_counts

  -- what the two `new` left
  abbrev producer_opens : made.Open
  producer_opens = producer_opens_of at o.producer_finds ids counts

  abbrev consumer_opens : taken.Open
  consumer_opens = consumer_opens_of at o.consumer_finds held

  -- what two accepted openings say of the geometry and of what is lent
  producer_opens_lem : bad_layout at || outside at (length o.producer_finds) ≡ false
  producer_opens_lem =
      split (bad_layout at || outside at (length o.producer_finds))
      (λ t. absurd (no_six (ap (λ (x : made.Open). x.answer.number) (sym (made_laws.opening_refused size table driver device o.producer_finds ids counts t)) ∙ o.producer)))
      (λ f. f)
    where
      no_six : ◌≡◌ {A = ℕ} 6 0 → ⊥
      no_six e = omega arith

  opens_at : (bytes : List ℕ) → length bytes ≡ length ring → bad_layout at || outside at (length bytes) ≡ false
  opens_at bytes e = subst (λ (n : ℕ). bad_layout at || outside at n ≡ false) (o.producer_length ∙ sym e) producer_opens_lem

  opens : bad_layout at || outside at (length ring) ≡ false
  opens = opens_at ring refl

  consumer_opens_lem : bad_layout at || outside at (length o.consumer_finds) ≡ false
  consumer_opens_lem = opens_at o.consumer_finds o.consumer_length

  pub laid_out : bad_layout at ≡ false
  laid_out = (neither (bad_layout at) (outside at (length ring)) opens).0

  pub fits : outside at (length ring) ≡ false
  fits = (neither (bad_layout at) (outside at (length ring)) opens).1

  no_eight : ◌≡◌ {A = ℕ} 8 0 → ⊥
  no_eight e = omega arith

  tables : ltb (length ids) size || ltb (length counts) size ≡ false
  tables =
      split (ltb (length ids) size || ltb (length counts) size)
      (λ t. absurd (no_eight (ap (λ (x : made.Open). x.answer.number) (sym (made_laws.opening_short size table driver device o.producer_finds ids counts producer_opens_lem t)) ∙ o.producer)))
      (λ f. f)

  ids_long : size ≤ length ids
  ids_long = ltb-false (length ids) size (neither (ltb (length ids) size) (ltb (length counts) size) tables).0

  counts_long : size ≤ length counts
  counts_long = ltb-false (length counts) size (neither (ltb (length ids) size) (ltb (length counts) size) tables).1

  held_long : size ≤ length held
  held_long =
      by_lt (length held) size
      (λ h. absurd (no_eight (ap (λ (x : taken.Open). x.answer.number) (sym (taken_laws.opening_short size table driver device o.consumer_finds held consumer_opens_lem h)) ∙ o.consumer)))
      (λ h. h)

  ids_are : producer_opens.ids ≡ sets ids 0 (up_to size)
  ids_are = ap (λ (x : made.Open). x.ids) (made_laws.opening_done size table driver device o.producer_finds ids counts producer_opens_lem tables)

  counts_are : producer_opens.counts ≡ sets counts 0 (replicate size 0)
  counts_are = ap (λ (x : made.Open). x.counts) (made_laws.opening_done size table driver device o.producer_finds ids counts producer_opens_lem tables)

  held_are : consumer_opens.counts ≡ sets held 0 (replicate size 0)
  held_are = ap (λ (x : taken.Open). x.counts) (taken_laws.opening_done size table driver device o.consumer_finds held consumer_opens_lem held_long)

  -- the records of the opened world are those that the openings answered
  pub made_answer : producer_opens.answer ≡ done (made.record_values (opened_world packed o).producer.end)
  made_answer = ap (λ (x : made.Open). x.answer) (made_laws.opening_done size table driver device o.producer_finds ids counts producer_opens_lem tables)

  pub taken_answer : consumer_opens.answer ≡ done (taken.record_values (opened_world packed o).consumer.end)
  taken_answer = ap (λ (x : taken.Open). x.answer) (taken_laws.opening_done size table driver device o.consumer_finds held consumer_opens_lem held_long)

  zeros_at : (t : List ℕ) (y : ℕ) → size ≤ length t → y < size → get_or (sets t 0 (replicate size 0)) y 0 ≡ 0
  zeros_at t y h b =
      let n = length-replicate {A = ℕ} size 0 in
      ap (λ (i : ℕ). get_or (sets t 0 (replicate size 0)) i 0) (sym (zero-add y))
      ∙ sets_at (replicate size 0) t 0 y (omega (arith, n)) (omega (arith, n))
      ∙ get_or-replicate {A = ℕ} size y 0 0 b

  slot_blank : (p : ℕ) → has (view size table ring p).flags AVAIL ≡ false
  slot_blank p =
      let b = pos_low size (laid at laid_out).low p in
      ap (λ (d : Descriptor). has d.flags AVAIL)
      (slot_zero table (pos size p) ring (omega (arith, b, (within at (length ring) fits).table))
      (λ k h.
      ap (λ (i : ℕ). get_or ring i 0) (omega arith)
      ∙ o.zeroed ((pos size p).head * 16 + k) (omega (arith, b))))

  pub first_like : Like at [] (opened_world packed o) start
  first_like =
      let big = (laid at laid_out).low in
      let p = makes.fresh_is at in
      let c = takes.fresh_is at in
      record {
        pu = size;
        cu = size;
        fa = size;
        ca = size;
        pa = size;
        cu_is = omega arith;
        fa_is = omega arith;
        ca_is = omega arith;
        pa_is = omega arith;
        room = ap (λ (x : RingProducer). size + x.free) p;
        begun = le_refl size;
        p_layout = ap (λ (x : RingProducer). x.layout) p;
        c_layout = ap (λ (x : RingConsumer). x.layout) c;
        p_used = ap (λ (x : RingProducer). x.used) p ∙ sym (pos_start size big);
        c_used = ap (λ (x : RingConsumer). x.used) c ∙ sym (pos_start size big);
        c_avail = ap (λ (x : RingConsumer). x.avail) c ∙ sym (pos_start size big);
        p_avail = ap (λ (x : RingProducer). x.avail) p ∙ sym (pos_start size big);
        inflight = ap (λ (x : RingConsumer). x.inflight) c;
        whole = fits;
        ids_whole = omega (arith, ap length ids_are, length-sets ids 0 (up_to size), ids_long);
        counts_whole = omega (arith, ap length counts_are, length-sets counts 0 (replicate size 0), counts_long);
        held_whole = omega (arith, ap length held_are, length-sets held 0 (replicate size 0), held_long);
        spelled = tt;
        returned = tt;
        rounds = λ n a b. slot_blank n ∙ sym (round_early size big n b);
        unused = λ n a b. absurd (omega arith);
        dones_are = refl;
        fine = tt;
        o_pos = tt;
        r_pos = tt;
        once = λ y. stacked y p;
        p_nums = λ y b. ap (λ (t : List ℕ). get_or t y 0) counts_are ∙ zeros_at counts y counts_long b;
        c_nums = λ y b. ap (λ (t : List ℕ). get_or t y 0) held_are ∙ zeros_at held y held_long b;
        heights = ap (λ (x : RingProducer). x.height + 0) p ∙ omega arith;
        out_pos = tt;
        out_occ = λ y. omega arith;
        out_slots = λ y. omega arith;
        out_tot = omega arith;
        promise = λ i e. absurd (no_promise i e);
        checks = tt;
      }
    where
      no_promise : (i : ℕ) → ◌≡◌ {A = List ℕ} [] (i ∷ []) → ⊥
      no_promise i e = let z : ◌≡◌ {A = ℕ} 0 1 = ap length e in omega arith

      stacked :
          (y : ℕ) → made.fresh_of at ≡ record { layout = at; avail = fresh; used = fresh; free = size; height = size; shadow = ENABLE }
          → occ_s y (take (made.fresh_of at).height producer_opens.ids) + (0 + (0 + 0) + 0) ≡ one size y
      stacked y p =
          let n = up_length 0 size in
          let t : take size (sets ids 0 (up_to size)) ≡ up_to size =
          ap (λ (m : ℕ). take m (sets ids 0 (up_to size))) (sym n) ∙ part_same (up_to size) ids 0 (omega (arith, n, ids_long)) in
          let a : occ_s y (take (made.fresh_of at).height producer_opens.ids) ≡ occ_s y (up_to size) =
          ap (λ (x : RingProducer). occ_s y (take x.height producer_opens.ids)) p
          ∙ ap (λ (s : List ℕ). occ_s y (take size s)) ids_are ∙ ap (occ_s y) t in
          omega (arith, a, occ_up y 0 size, one_no 0 y (omega arith), ap (λ (m : ℕ). one m y) (zero-add size))
