-- poll_used: the completion made first of those not yet returned, or a block because there is none.
-- Assumes nothing.
use Prim.Native.Nat.{ℕ, suc, ◌+◌, ◌<◌}
use mathlib.Core.Path.{◌≡◌, refl, sym, ap, ap₂, ◌∙◌, subst}
use mathlib.Core.Bool.{Bool, true, false, not, beq}
use mathlib.Core.Logic.{inr}
use mathlib.Core.List.{List, [], ◌∷◌}
use native.Mathlib.Omega.{arith}
use native.Mathlib.Numerals.{add-one}
use lib.ListN.{length, get_or, set, take, length-set}
use Rattle.base.specs.Answer.{done, refused}
use Rattle.base.proofs.Tests.{by_lt}
use Rattle.cursor.specs.declared.RingCursor.{RingCursor}
use Rattle.cursor.specs.Cursor.{steps}
use Rattle.desc.specs.declared.Descriptor.{Descriptor}
use Rattle.desc.specs.Flags.{AVAIL, USED, has, is_used}
use Rattle.desc.specs.Desc.{descriptor, mark_used}
use Rattle.desc.proofs.Flags.{not_used, not_used_yet, used_marked, used_fields}
use Rattle.layout.specs.declared.Layout.{Layout}
use Rattle.layout.specs.Layout.{bad_layout}
use Rattle.ring.specs.Slots.{slot_of}
use Rattle.producer.specs.declared.RingProducer.{RingProducer}
use Rattle.producer.specs.Outcome.{Outcome, outcome}
use Rattle.producer.specs.Poll.{freed_of, poll_of}
use Rattle.producer.proofs.Poll.{poll_refused, poll_done}
use Rattle.producer.proofs.Goes.{poll_blocks, poll_goes, polled_is, freed_is}
use Rattle.consumer.specs.declared.Checkpoint.{Checkpoint}
use Rattle.queue.specs.History.{without_item}
use Rattle.queue.specs.History as said
use Rattle.queue.proofs.Model.{Queue, next, tail}
use Rattle.packed.specs.Calls.{asks}
use Rattle.packed.specs.Machine.{World, after_producer}
use Rattle.packed.proofs.Answers.{says_reclaimed, after_made, read_refused}
use Rattle.packed.proofs.Position.{round, view, pos_add}
use Rattle.packed.proofs.Counts.{Used, of_items, of_used, dones, hit, occ_s, occ, slots, tot, hit_same, slots_none, one_le, one_low, at_clear}
use Rattle.packed.proofs.Counts.{OutItem, item_out, occ_push}
use Rattle.packed.proofs.Invariant.{O, F, W, Like, Good, good_by, p_size, p_sound, p_lent, edge, like_unchanged}

module _ (l : Layout) (laid_out : bad_layout l ≡ false) where
  abbrev size : ℕ
  size = l.size

  abbrev reclaims : World → Outcome
  reclaims w = poll_of w.producer.end w.ring w.producer.ids w.producer.counts

  module _ (ret : List Used) (w : World) (q : Queue Checkpoint) (k : Like l ret w q) where
    abbrev found : Descriptor
    found = slot_of w.producer.end.layout.table w.producer.end.used w.ring

    found_view : found ≡ view size l.table w.ring k.pu
    found_view = ap₂ (λ (m : Layout) (c : RingCursor). slot_of m.table c w.ring) k.p_layout k.p_used

    wrap_is : w.producer.end.used.wrap ≡ round size k.pu
    wrap_is = ap (λ (c : RingCursor). c.wrap) k.p_used

    -- a flag of the slot found, against the round
    at_found : (b : ℕ) → has (view size l.table w.ring k.pu).flags b ≡ not (round size k.pu) → has found.flags b ≡ not w.producer.end.used.wrap
    at_found b h = ap (λ (d : Descriptor). has d.flags b) found_view ∙ h ∙ ap not (sym wrap_is)

    none_used : ret ≡ [] → is_used found.flags w.producer.end.used.wrap ≡ false
    none_used e =
        let z : tot (of_used ret) ≡ 0 = ap (λ (us : List Used). tot (of_used us)) e in
        by_lt k.pu k.pa
        (λ h. not_used_yet found.flags w.producer.end.used.wrap (at_found USED (k.unused k.pu (omega (arith, k.cu_is, z)) h)))
        (λ h.
        let p : k.pa ≡ k.pu = omega (arith, k.cu_is, k.fa_is, k.ca_is, k.pa_is) in
        not_used found.flags w.producer.end.used.wrap
        (at_found AVAIL (subst (λ (n : ℕ). has (view size l.table w.ring n).flags AVAIL ≡ not (round size n)) p (edge l laid_out ret w q k))))

    reclaim_blocked : ret ≡ [] → Good l q (says_reclaimed (reclaims w).answer) (after_made w (reclaims w))
    reclaim_blocked e =
        let n = poll_blocks w.producer.end (length w.ring) found (length w.producer.ids) w.producer.counts (p_sound l laid_out ret w q k) (p_lent l laid_out ret w q k) (none_used e) in
        let t : reclaims w ≡ outcome (refused 3) w.producer.end w.ring w.producer.ids w.producer.counts =
        poll_refused w.producer.end w.ring w.producer.ids w.producer.counts (λ z. omega (arith, n, z))
        ∙ ap (λ (m : ℕ). outcome (refused m) w.producer.end w.ring w.producer.ids w.producer.counts) n in
        good_by l q _ (said.unchanged (said.refused said.reclaim true 3)) _ w
        (read_refused (reclaims w).answer 3 (asks said.reclaim true) (ap (λ (o : Outcome). o.answer) t) (omega arith))
        (ap (after_made w) t)
        (λ h. (λ z. z, inr (refl, (refl, k.dones_are ∙ ap dones e))), (ret, like_unchanged l laid_out ret w q k (said.refused said.reclaim true 3) k.promise))

  module _ (u : Used) (us : List Used) (w : World) (q : Queue Checkpoint) (k : Like l (u ∷ us) w q) where
    abbrev id : ℕ
    id = u.done.id

    abbrev seen : Descriptor
    seen = slot_of w.producer.end.layout.table w.producer.end.used w.ring

    seen_is : seen ≡ mark_used (descriptor 0 u.done.len id 0) (round size k.pu)
    seen_is = found_view (u ∷ us) w q k ∙ k.returned.0

    id_is : seen.id ≡ id
    id_is = ap (λ (d : Descriptor). d.id) seen_is ∙ (used_fields u.done.len id (round size k.pu)).0

    len_is : seen.len ≡ u.done.len
    len_is = ap (λ (d : Descriptor). d.len) seen_is ∙ (used_fields u.done.len id (round size k.pu)).1

    is_used_lem : is_used seen.flags w.producer.end.used.wrap ≡ true
    is_used_lem =
        ap₂ (λ (d : Descriptor) (b : Bool). is_used d.flags b) seen_is (wrap_is (u ∷ us) w q k)
        ∙ used_marked (descriptor 0 u.done.len id 0) (round size k.pu) (round size k.pu) ∙ same (round size k.pu)
      where
        same : (b : Bool) → beq b b ≡ true
        same true = refl
        same false = refl

    low : id < size
    low = one_low size id (omega (arith, k.once id, hit_same id 1))

    alone : (slots id (W q) ≡ 0) × (slots id (O q) ≡ 0) × (slots id (F q) ≡ 0) × (slots id (of_used us) ≡ 0)
    alone =
        let h = hit_same id 1 in (
          slots_none id (W q) (omega (arith, k.once id, h, one_le size id)),
          slots_none id (O q) (omega (arith, k.once id, h, one_le size id)),
          slots_none id (F q) (omega (arith, k.once id, h, one_le size id)),
          slots_none id (of_used us) (omega (arith, k.once id, h, one_le size id)),
        )

    count : get_or w.producer.counts id 0 ≡ u.n
    count = let a = alone in omega (arith, k.p_nums id low, hit_same id u.n, a.0, a.1, a.2, a.3)

    -- its chain leaves the chains that are out
    left : OutItem id q.out (without_item id q.out)
    left = item_out id q.out (omega (arith, k.out_occ id, hit_same id 1))

    left_n : left.n ≡ u.n
    left_n =
        let a = alone in
        let z : slots id (of_items (without_item id q.out)) ≡ 0 =
        slots_none id (of_items (without_item id q.out)) (omega (arith, left.occ_is id, k.out_occ id, k.once id, one_le size id, hit_same id 1)) in
        omega (arith, left.slots_is id, hit_same id left.n, z, k.out_slots id, hit_same id u.n, a.0, a.1, a.2, a.3)

    abbrev reclaim_world : World
    reclaim_world =
        after_producer w
        (record {
          end = freed_of w.producer.end u.n;
          ids = set w.producer.ids w.producer.end.height id;
          counts = set w.producer.counts id 0;
        })
        w.ring

    is_reclaimed :
        reclaims w ≡ outcome (done (id ∷ u.done.len ∷ [])) (freed_of w.producer.end u.n) w.ring (set w.producer.ids w.producer.end.height id) (set w.producer.counts id 0)
    is_reclaimed =
        let s = p_size l laid_out (u ∷ us) w q k in
        let c : get_or w.producer.counts seen.id 0 ≡ u.n = ap (λ (i : ℕ). get_or w.producer.counts i 0) id_is ∙ count in
        poll_done w.producer.end w.ring w.producer.ids w.producer.counts
        (poll_goes w.producer.end (length w.ring) seen (length w.producer.ids) w.producer.counts (p_sound l laid_out (u ∷ us) w q k) (p_lent l laid_out (u ∷ us) w q k)
        is_used_lem (omega (arith, s, low, id_is)) (omega (arith, c, k.r_pos.0))
        (omega (arith, s, c, k.room, k.pa_is, k.ca_is, k.fa_is, k.cu_is))
        (omega (arith, s, k.heights, left.len_is)))
        ∙ polled_is w.producer.end seen w.ring w.producer.ids w.producer.counts
        ∙ (λ i. outcome (done (id_is i ∷ len_is i ∷ [])) (freed_of w.producer.end (c i)) w.ring (set w.producer.ids w.producer.end.height (id_is i)) (set w.producer.counts (id_is i) 0))

    reclaim_like : Like l us reclaim_world (next q (said.reclaimed u.done))
    unfolding next
    reclaim_like =
        let g = freed_is w.producer.end u.n in
        let s = p_size l laid_out (u ∷ us) w q k in
        let h : (freed_of w.producer.end u.n).height ≡ suc w.producer.end.height = ap (λ (p : RingProducer). p.height) g ∙ add-one w.producer.end.height in
        let f : (freed_of w.producer.end u.n).free ≡ w.producer.end.free + u.n = ap (λ (p : RingProducer). p.free) g in
        let n = left_n in
        record {
          pu = k.pu + u.n;
          cu = k.cu;
          fa = k.fa;
          ca = k.ca;
          pa = k.pa;
          cu_is = omega (arith, k.cu_is);
          fa_is = k.fa_is;
          ca_is = k.ca_is;
          pa_is = k.pa_is;
          room = omega (arith, k.room, f);
          begun = omega (arith, k.begun);
          p_layout = ap (λ (p : RingProducer). p.layout) g ∙ k.p_layout;
          c_layout = k.c_layout;
          p_used = ap (λ (p : RingProducer). p.used) g ∙ ap₂ (λ (m : ℕ) (c : RingCursor). steps m u.n c) s k.p_used ∙ sym (pos_add size k.pu u.n);
          c_used = k.c_used;
          c_avail = k.c_avail;
          p_avail = ap (λ (p : RingProducer). p.avail) g ∙ k.p_avail;
          inflight = k.inflight;
          whole = k.whole;
          ids_whole = omega (arith, k.ids_whole, length-set w.producer.ids w.producer.end.height id);
          counts_whole = omega (arith, k.counts_whole, length-set w.producer.counts id 0);
          held_whole = k.held_whole;
          spelled = k.spelled;
          returned = k.returned.1;
          rounds = k.rounds;
          unused = k.unused;
          dones_are = ap tail k.dones_are;
          fine = k.fine;
          o_pos = k.o_pos;
          r_pos = k.r_pos.1;
          once = λ y.
              ap (λ (m : ℕ). occ_s y (take m (set w.producer.ids w.producer.end.height id)) + (occ y (W q) + (occ y (O q) + occ y (F q)) + occ y (of_used us))) h
              ∙ omega (arith, k.once y, occ_push y w.producer.ids w.producer.end.height id (omega (arith, k.heights, left.len_is, k.ids_whole)));
          p_nums = λ y b. omega (arith, k.p_nums y b, at_clear w.producer.counts id y (omega (arith, low, k.counts_whole)), ap (hit id y) count);
          c_nums = k.c_nums;
          heights = omega (arith, k.heights, h, left.len_is);
          out_pos = left.pos_is k.out_pos;
          out_occ = λ y. omega (arith, k.out_occ y, left.occ_is y);
          out_slots = λ y. omega (arith, k.out_slots y, left.slots_is y, ap (hit id y) n);
          out_tot = omega (arith, k.out_tot, left.tot_is, n);
          promise = λ i e. absurd (no_promise i e);
          checks = k.checks;
        }
      where
        no_promise : (i : ℕ) → ◌≡◌ {A = List ℕ} [] (i ∷ []) → ⊥
        no_promise i e = let z : ◌≡◌ {A = ℕ} 0 1 = ap length e in omega arith

    reclaim_gives : Good l q (says_reclaimed (reclaims w).answer) (after_made w (reclaims w))
    reclaim_gives =
        good_by l q _ (said.reclaimed u.done) _ reclaim_world
        (ap (λ (o : Outcome). says_reclaimed o.answer) is_reclaimed) (ap (after_made w) is_reclaimed)
        (λ h. (dones us, k.dones_are), (us, reclaim_like))

  -- POLL USED
  pub reclaim_good : (ret : List Used) (w : World) (q : Queue Checkpoint) → Like l ret w q → Good l q (says_reclaimed (reclaims w).answer) (after_made w (reclaims w))
  reclaim_good [] w q k = reclaim_blocked [] w q k refl
  reclaim_good (u ∷ us) w q k = reclaim_gives u us w q k
