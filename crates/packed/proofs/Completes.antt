-- submit_used, with and without notify: a held chain is completed, and nothing else.
-- Assumes nothing.
use Prim.Native.Nat.{ℕ, suc, ◌+◌, ◌-◌, ◌*◌, ◌^◌, ◌≤◌, ◌<◌}
use mathlib.Core.Path.{◌≡◌, refl, sym, ap, ap₂, ◌∙◌, subst}
use mathlib.Core.Logic.{inl, inr}
use mathlib.Core.Bool.{true, false, cond}
use mathlib.Core.List.{List, [], ◌∷◌, ◌++◌}
use native.Mathlib.Omega.{arith}
use lib.Dec.{eqb}
use lib.ListN.{length, get_or, set, length-set}
use borrow.Author.Tests.{le-leb, lt-leb, eq-eqb}
use Rattle.base.specs.Answer.{done, refused}
use Rattle.base.proofs.Tests.{by_lt, by_eq}
use Rattle.cursor.specs.declared.RingCursor.{RingCursor}
use Rattle.cursor.specs.Cursor.{steps}
use Rattle.desc.specs.declared.Descriptor.{Descriptor}
use Rattle.desc.specs.Flags.{AVAIL, USED, has}
use Rattle.desc.specs.Desc.{descriptor, mark_used}
use Rattle.desc.proofs.Flags.{marked_used, used_ranged}
use Rattle.layout.specs.declared.Layout.{Layout}
use Rattle.layout.specs.Layout.{bad_layout, outside}
use Rattle.layout.proofs.Laws.{within}
use Rattle.ring.specs.Slots.{slot_put}
use Rattle.ring.proofs.Frames.{slot_length, slot_same, slot_other}
use Rattle.consumer.specs.declared.RingConsumer.{RingConsumer}
use Rattle.consumer.specs.declared.Checkpoint.{Checkpoint}
use Rattle.consumer.specs.Outcome.{Outcome, outcome}
use Rattle.consumer.specs.Complete.{complete_refusal, complete_of, tell_of}
use Rattle.consumer.proofs.Complete.{complete_refused, complete_done}
use Rattle.consumer.proofs.Goes.{complete_goes, complete_unheld, completed_is, tell_number, tell_leaves}
use Rattle.queue.specs.History.{Done, Poll, items, without}
use Rattle.queue.specs.History as said
use Rattle.queue.specs.Promise.{Has}
use Rattle.queue.proofs.Listing.{all_left, all_right, all_map}
use Rattle.queue.proofs.Model.{Queue, Mark, next}
use Rattle.packed.specs.Calls.{asks}
use Rattle.packed.specs.Machine.{World, after_consumer}
use Rattle.packed.proofs.Answers.{says_completed, after_completed, read_refused}
use Rattle.packed.proofs.Position.{pos, round, view, pos_add, pos_low, apart}
use Rattle.packed.proofs.Counts.{Held, Used, of_items, hit, occ, slots, tot, Pos, hit_same, hit_other, occ_some, slots_none, one_le, one_no}
use Rattle.packed.proofs.Counts.{at_clear, Out1, take_out, both_tot, both_occ, both_slots, both_pos, tot_used, occ_used, slots_used, used_pos}
use Rattle.packed.proofs.Counts.{dones_append, has_of_occ}
use Rattle.packed.proofs.Spells.{Spells, Returns, spells_cong, spells_split, returns_cong, returns_append}
use Rattle.packed.proofs.Invariant.{FineItem, fine_pos, O, F, CheckOk, Like, Good, good_by, big, c_size, c_sound, c_lent, like_unchanged}

-- an ID that holds slots, the other way round
pub occ_slots : (y : ℕ) (hs : List Held) → Pos hs → 0 < occ y hs → 0 < slots y hs
occ_slots y [] p l = absurd (omega arith)
occ_slots y (h ∷ hs) p l =
    by_eq h.id y
    (λ e. subst (λ (z : ℕ). 0 < hit h.id z h.n + slots z hs) e (omega (arith, hit_same h.id h.n, p.0)))
    (λ e. omega (arith, occ_slots y hs p.1 (omega (arith, hit_other h.id y 1 e))))

pub has_occ : (x : ℕ) (ps : List Poll) → Has x ps → 0 < occ x (of_items (items ps))
has_occ x [] h = absurd h
has_occ x (p ∷ ps) (inl e) = subst (λ (z : ℕ). 0 < hit p.item.id z 1 + occ z (of_items (items ps))) e (omega (arith, hit_same p.item.id 1))
has_occ x (p ∷ ps) (inr h) = omega (arith, has_occ x ps h)

module _ (l : Layout) (laid_out : bad_layout l ≡ false) where
  abbrev size : ℕ
  size = l.size

  module _ (ret : List Used) (w : World) (q : Queue Checkpoint) (k : Like l ret w q) (id len : ℕ) where
    abbrev completes : Outcome
    completes = complete_of w.consumer.end w.ring w.consumer.counts id len

    abbrev d : Done
    d = record { id = id; len = len }

    abbrev n : ℕ
    n = get_or w.consumer.counts id 0

    -- refused with 5, and not held
    complete_no : complete_refusal w.consumer.end (length w.ring) id w.consumer.counts ≡ 5 → (Has id (q.old ++ q.fresh) → ⊥)
        → Good l q (says_completed id len completes.answer) (after_completed w completes)
    complete_no e h =
        let t : completes ≡ outcome (refused 5) w.consumer.end w.ring w.consumer.counts =
        complete_refused w.consumer.end w.ring w.consumer.counts id len (λ y. omega (arith, e, y))
        ∙ ap (λ (x : ℕ). outcome (refused x) w.consumer.end w.ring w.consumer.counts) e in
        good_by l q _ (said.unchanged (said.refused (said.complete d) true 5)) _ w
        (read_refused completes.answer 5 (asks (said.complete d) true) (ap (λ (o : Outcome). o.answer) t) (omega arith))
        (ap (after_completed w) t)
        (λ g. (λ z. z, inr (refl, (refl, h))), (ret, like_unchanged l laid_out ret w q k (said.refused (said.complete d) true 5) k.promise))

    held_some : Has id (q.old ++ q.fresh) → (id < size) × (0 < n)
    held_some h =
        let o = has_occ id (q.old ++ q.fresh) h in
        let b = both_occ id q.old q.fresh in
        let low : id < size = by_lt id size (λ r. r) (λ r. absurd (omega (arith, o, b, k.once id, one_no size id r))) in
        let p : Pos (of_items (items (q.old ++ q.fresh))) =
        both_pos q.old q.fresh k.o_pos (fine_pos (items q.fresh) (all_left FineItem (items q.fresh) q.waiting k.fine)) in
        (low, omega (arith, occ_slots id (of_items (items (q.old ++ q.fresh))) p o, both_slots id q.old q.fresh, k.c_nums id low))

    module _ (low : id < size) (some_held : 0 < n) (idr : id < 256 ^ 2) (lenr : len < 256 ^ 4) where
      complete_occ : 0 < occ id (of_items (items (q.old ++ q.fresh)))
      complete_occ = occ_some id (of_items (items (q.old ++ q.fresh))) (omega (arith, both_slots id q.old q.fresh, k.c_nums id low))

      out : Out1 id (q.old ++ q.fresh) (without id (q.old ++ q.fresh))
      out = take_out id (q.old ++ q.fresh) complete_occ

      out_n : n ≡ out.n
      out_n =
          let rest : List Held = of_items (items (without id (q.old ++ q.fresh))) in
          let z : slots id rest ≡ 0 = slots_none id rest (omega (arith, out.occ_is id, both_occ id q.old q.fresh, k.once id, one_le size id, hit_same id 1)) in
          omega (arith, k.c_nums id low, both_slots id q.old q.fresh, out.slots_is id, hit_same id out.n, z)

      tots : tot (O q) + tot (F q) ≡ tot (of_items (items (without id (q.old ++ q.fresh)))) + n
      tots = omega (arith, out.tot_is, both_tot q.old q.fresh, out_n)

      accepted : complete_refusal w.consumer.end (length w.ring) id w.consumer.counts ≡ 0
      accepted =
          complete_goes w.consumer.end (length w.ring) id w.consumer.counts (c_sound l laid_out ret w q k) (c_lent l laid_out ret w q k)
          (omega (arith, low, c_size l laid_out ret w q k)) some_held (omega (arith, k.inflight, tots))

      abbrev mark : Descriptor
      mark = mark_used (descriptor 0 len id 0) (round size k.cu)

      abbrev ring' : List ℕ
      ring' = slot_put l.table (pos size k.cu) mark w.ring

      abbrev cons' : RingConsumer
      cons' =
          record {
            layout = w.consumer.end.layout;
            avail = w.consumer.end.avail;
            used = steps w.consumer.end.layout.size n w.consumer.end.used;
            inflight = w.consumer.end.inflight - n;
            shadow = w.consumer.end.shadow;
          }

      abbrev complete_world : World
      complete_world = after_consumer w (record { end = cons'; counts = set w.consumer.counts id 0 }) ring'

      is_completed : completes ≡ outcome (done []) cons' ring' (set w.consumer.counts id 0)
      is_completed =
          complete_done w.consumer.end w.ring w.consumer.counts id len accepted
          ∙ (λ i.
          outcome (done []) (completed_is w.consumer.end n i)
          (slot_put (k.c_layout i).table (k.c_used i) (mark_used (descriptor 0 len id 0) (k.c_used i).wrap) w.ring) (set w.consumer.counts id 0))

      fits : l.table + (pos size k.cu).head * 16 + 16 ≤ length w.ring
      fits = omega (arith, pos_low size (big l laid_out) k.cu, (within l (length w.ring) k.whole).table)

      at_cu : view size l.table ring' k.cu ≡ mark
      at_cu = slot_same l.table (pos size k.cu) mark w.ring fits (used_ranged len id (round size k.cu) lenr idr)

      later : (p : ℕ) → k.cu < p → p < k.cu + size → view size l.table w.ring p ≡ view size l.table ring' p
      later p a b = sym (slot_other l.table (pos size k.cu) mark w.ring (pos size p) (λ e. apart size (big l laid_out) k.cu p a b e))

      earlier : (p : ℕ) → p < k.cu → k.cu < p + size → view size l.table w.ring p ≡ view size l.table ring' p
      earlier p a b = sym (slot_other l.table (pos size k.cu) mark w.ring (pos size p) (λ e. apart size (big l laid_out) p k.cu a b (sym e)))

      ahead : k.cu < k.ca
      ahead = omega (arith, k.ca_is, k.fa_is, tots, some_held)

      rounds' : (p : ℕ) → k.pa ≤ p + size → p < k.pa → has (view size l.table ring' p).flags AVAIL ≡ round size p
      rounds' p a b =
          by_lt p k.cu
          (λ h. ap (λ (x : Descriptor). has x.flags AVAIL) (sym (earlier p h (omega (arith, ahead, k.pa_is)))) ∙ k.rounds p a b)
          (λ h.
          by_lt k.cu p
          (λ g. ap (λ (x : Descriptor). has x.flags AVAIL) (sym (later p g (omega (arith, k.room, k.cu_is)))) ∙ k.rounds p a b)
          (λ g.
          let e : p ≡ k.cu = omega arith in
          ap (λ (m : ℕ). has (view size l.table ring' m).flags AVAIL) e ∙ ap (λ (x : Descriptor). has x.flags AVAIL) at_cu
          ∙ (marked_used (descriptor 0 len id 0) (round size k.cu)).0 ∙ ap (round size) (sym e)))

      abbrev u : Used
      u = record { done = d; n = n }

      -- a completion puts every checkpoint out of use
      past_checks : (m : Mark Checkpoint) → CheckOk size q.comps k.cu (tot (O q)) m → CheckOk size (suc q.comps) (k.cu + n) (tot (of_items (items (without id (q.old ++ q.fresh))))) m
      past_checks m o = (omega (arith, o.0), λ (e : m.comps ≡ suc q.comps). absurd (omega (arith, o.0, e)))

      complete_like : Like l (ret ++ (u ∷ [])) complete_world (next q (said.completed d))
      unfolding next
      complete_like =
          let f = view size l.table w.ring in
          let g = view size l.table ring' in
          record {
            pu = k.pu;
            cu = k.cu + n;
            fa = k.ca;
            ca = k.ca;
            pa = k.pa;
            cu_is = omega (arith, k.cu_is, tot_used ret u);
            fa_is = omega (arith, k.ca_is, k.fa_is, tots);
            ca_is = omega arith;
            pa_is = k.pa_is;
            room = k.room;
            begun = k.begun;
            p_layout = k.p_layout;
            c_layout = k.c_layout;
            p_used = k.p_used;
            c_used = ap₂ (λ (m : ℕ) (c : RingCursor). steps m n c) (c_size l laid_out ret w q k) k.c_used ∙ sym (pos_add size k.cu n);
            c_avail = k.c_avail;
            p_avail = k.p_avail;
            inflight = omega (arith, k.inflight, tots);
            whole = ap (outside l) (slot_length l.table (pos size k.cu) mark w.ring) ∙ k.whole;
            ids_whole = k.ids_whole;
            counts_whole = k.counts_whole;
            held_whole = omega (arith, k.held_whole, length-set w.consumer.counts id 0);
            spelled =
                spells_cong size f g k.ca q.waiting (λ p a b. later p (omega (arith, ahead)) (omega (arith, k.pa_is, k.room, k.cu_is)))
                (subst (λ (x : ℕ). Spells size f x q.waiting) (sym k.ca_is) (spells_split size f k.fa (items q.fresh) q.waiting k.spelled).1);
            returned =
                returns_append size g k.pu ret (u ∷ [])
                (returns_cong size f g k.pu ret (λ p a b. earlier p (omega (arith, k.cu_is)) (omega (arith, k.room, k.pa_is, ahead))) k.r_pos k.returned)
                (subst (λ (x : ℕ). Returns size g x (u ∷ [])) k.cu_is (at_cu, tt));
            rounds = rounds';
            unused = λ p a b. ap (λ (x : Descriptor). has x.flags USED) (sym (later p (omega (arith, some_held)) (omega (arith, k.room, k.cu_is)))) ∙ k.unused p (omega arith) b;
            dones_are = ap (λ (x : List Done). x ++ (d ∷ [])) k.dones_are ∙ sym (dones_append ret (u ∷ []));
            fine = all_right FineItem (items q.fresh) q.waiting k.fine;
            o_pos = out.pos_is (both_pos q.old q.fresh k.o_pos (fine_pos (items q.fresh) (all_left FineItem (items q.fresh) q.waiting k.fine)));
            r_pos = used_pos ret u k.r_pos some_held;
            once = λ y. omega (arith, k.once y, out.occ_is y, both_occ y q.old q.fresh, occ_used y ret u);
            p_nums = λ y b. omega (arith, k.p_nums y b, out.slots_is y, both_slots y q.old q.fresh, slots_used y ret u, ap (hit id y) out_n);
            c_nums = λ y b. omega (arith, k.c_nums y b, out.slots_is y, both_slots y q.old q.fresh, at_clear w.consumer.counts id y (omega (arith, low, k.held_whole)), ap (hit id y) out_n);
            heights = k.heights;
            out_pos = k.out_pos;
            out_occ = λ y. omega (arith, k.out_occ y, out.occ_is y, both_occ y q.old q.fresh, occ_used y ret u);
            out_slots = λ y. omega (arith, k.out_slots y, out.slots_is y, both_slots y q.old q.fresh, slots_used y ret u, ap (hit id y) out_n);
            out_tot = omega (arith, k.out_tot, tots, tot_used ret u);
            promise = k.promise;
            checks =
                all_map (CheckOk size q.comps k.cu (tot (O q))) (CheckOk size (suc q.comps) (k.cu + n) (tot (of_items (items (without id (q.old ++ q.fresh))))))
                past_checks q.marks k.checks;
          }

      complete_gives : Good l q (says_completed id len completes.answer) (after_completed w completes)
      complete_gives =
          good_by l q _ (said.completed d) _ complete_world (ap (λ (o : Outcome). says_completed id len o.answer) is_completed) (ap (after_completed w) is_completed)
          (λ h. has_of_occ id (q.old ++ q.fresh) complete_occ, (ret ++ (u ∷ []), complete_like))

    -- COMPLETE: any ID
    pub complete_good : id < 256 ^ 2 → len < 256 ^ 4 → Good l q (says_completed id len completes.answer) (after_completed w completes)
    complete_good idr lenr =
        let c = c_size l laid_out ret w q k in
        let r = c_sound l laid_out ret w q k in
        let t = c_lent l laid_out ret w q k in
        by_lt id size
        (λ low.
        by_lt 0 n
        (λ z. complete_gives low z idr lenr)
        (λ z. complete_no
        (complete_unheld w.consumer.end (length w.ring) id w.consumer.counts r t (simp (lt-leb w.consumer.end.layout.size id (omega (arith, low, c)), eq-eqb n 0 (omega arith))))
        (λ h. omega (arith, (held_some h).1, z))))
        (λ high. complete_no
        (complete_unheld w.consumer.end (length w.ring) id w.consumer.counts r t (simp (le-leb w.consumer.end.layout.size id (omega (arith, high, c)))))
        (λ h. omega (arith, (held_some h).0, high)))

    -- WITH NOTIFY: the same, said and left
    pub told_good :
        id < 256 ^ 2 → len < 256 ^ 4
        → Good l q (says_completed id len (tell_of w.consumer.end.used completes).answer) (after_completed w (tell_of w.consumer.end.used completes))
    told_good idr lenr =
        good_by l q _ (says_completed id len completes.answer) _ (after_completed w completes)
        (ap (λ (m : ℕ). cond (eqb m 0) (said.completed d) (said.unchanged (said.refused (said.complete d) true m))) (tell_number w.consumer.end.used completes))
        (ap (after_completed w) (tell_leaves w.consumer.end.used completes))
        (complete_good idr lenr)
