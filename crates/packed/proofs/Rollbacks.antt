-- rollback_polls and poll_checkpoint: a rollback that undoes every poll since its checkpoint puts their chains back before those that wait.
-- Assumes nothing.
use Prim.Native.Nat.{ℕ, ◌+◌, ◌≤◌, ◌<◌}
use mathlib.Core.Path.{◌≡◌, refl, sym, ap, ap₂, ◌∙◌, subst}
use mathlib.Core.Logic.{inl, inr}
use mathlib.Core.Bool.{Bool, true, false, ◌&&◌, ◌||◌}
use mathlib.Core.List.{List, [], ◌∷◌, ◌++◌, append_assoc}
use native.Mathlib.Omega.{arith}
use native.Mathlib.Nat.{le_refl}
use lib.Dec.{ltb, leb, eqb}
use lib.ListN.{length, get_or}
use borrow.Author.Tests.{lt-ltb, lt-leb, le-leb, ltb-true}
use Rattle.base.specs.Answer.{done, refused, bit}
use Rattle.base.proofs.Tests.{split, by_lt, neither}
use Rattle.cursor.specs.declared.RingCursor.{RingCursor}
use Rattle.cursor.specs.Cursor.{at, steps}
use Rattle.layout.specs.declared.Layout.{Layout}
use Rattle.layout.specs.Layout.{bad_layout}
use Rattle.ring.specs.Asked.{ask_of}
use Rattle.ring.proofs.Asked.{ask_good}
use Rattle.undo.specs.Undo.{bad_ids, total_of, cleared_of}
use Rattle.undo.proofs.Laws.{cleared_length}
use Rattle.consumer.specs.declared.RingConsumer.{RingConsumer}
use Rattle.consumer.specs.declared.Checkpoint.{Checkpoint}
use Rattle.consumer.specs.Record.{bad_record}
use Rattle.consumer.specs.Outcome.{Rolled, rolled}
use Rattle.consumer.specs.Rollback.{checkpoint_of, checkpoint_values, stale_of, rollback_of}
use Rattle.consumer.proofs.Rollback.{Current, current, rollback_stopped, rollback_refused, rollback_done}
use Rattle.consumer.proofs.Goes.{handed_bad, handed_goes, not_stale, back_is}
use Rattle.queue.specs.History.{Item, Poll, History, slots_of, items, ids, upto, after, times}
use Rattle.queue.specs.Promise.{UndoesIntact}
use Rattle.queue.specs.History as said
use Rattle.queue.specs.Sentences.{All}
use Rattle.queue.proofs.Listing.{all_append, all_left, all_right, all_of, items_append, upto_after, but_last_upto, drop_after}
use Rattle.queue.proofs.Model.{Queue, mark_of, next, Undo, UndoIntact}
use Rattle.packed.specs.Calls.{asks, valid_checkpoint}
use Rattle.packed.specs.Machine.{World, after_consumer}
use Rattle.packed.proofs.Answers.{says_rolled, says_marked, after_rolled, read_refused, and_true}
use Rattle.packed.proofs.Position.{pos, view, pos_add, pos_low}
use Rattle.packed.proofs.Counts.{Used, of_items, occ, slots, tot, Pos, one_le, one_low, hit_same, slots_none, both_tot, both_occ, both_slots}
use Rattle.packed.proofs.Counts.{items_tot, items_occ, items_slots}
use Rattle.packed.proofs.Spells.{Spells}
use Rattle.packed.proofs.Named.{occ_times, none_bad, same_total, own_slots, total_polls, cleared_at}
use Rattle.packed.proofs.Completes.{occ_slots}
use Rattle.packed.proofs.Invariant.{FineItem, fine_pos, O, F, CheckOk, Like, Good, GoodAfter, good_by, good_after_by, big, c_size, c_sound}
use Rattle.packed.proofs.Invariant.{like_marks, like_unchanged}

module _ (l : Layout) (laid_out : bad_layout l ≡ false) where
  abbrev size : ℕ
  size = l.size

  module _ (ret : List Used) (w : World) (q : Queue Checkpoint) (k : Like l ret w q) where
    -- ---- a checkpoint
    checkpoint_read : (c : Checkpoint) → says_marked (done (checkpoint_values c)) ≡ said.marked c
    checkpoint_read c =
        λ i. said.marked (record {
          avail = at c.avail.head (bit_back c.avail.wrap i);
          used = at c.used.head (bit_back c.used.wrap i);
          inflight = c.inflight;
        })
      where
        bit_back : (b : Bool) → eqb (bit b) 1 ≡ b
        bit_back true = refl
        bit_back false = refl

    mark_like : Like l ret w (next q (said.marked (checkpoint_of w.consumer.end)))
    unfolding next
    mark_like =
        like_marks l laid_out ret w q k q.promised (q.marks ++ (mark_of q (checkpoint_of w.consumer.end) ∷ [])) k.promise
        (all_append (CheckOk size q.comps k.cu (tot (O q))) q.marks (mark_of q (checkpoint_of w.consumer.end) ∷ []) k.checks (
          (
            le_refl q.comps,
            λ e. (k.c_used, (k.inflight, k.c_avail ∙ ap (pos size) (omega (arith, k.ca_is, k.fa_is, k.inflight)))),
          ),
          tt,
        ))

    -- CHECKPOINT
    pub mark_good : Good l q (says_marked (ask_of (bad_record w.consumer.end) (checkpoint_values (checkpoint_of w.consumer.end)))) w
    mark_good =
        good_by l q _ (said.marked (checkpoint_of w.consumer.end)) w w
        (ap says_marked (ask_good (bad_record w.consumer.end) (checkpoint_values (checkpoint_of w.consumer.end)) (c_sound l laid_out ret w q k)) ∙ checkpoint_read (checkpoint_of w.consumer.end))
        refl (λ h. tt, (ret, mark_like))

    -- ---- rollbacks
    module _ (cp : Checkpoint) (js : List ℕ) where
      abbrev rolls : Rolled
      rolls = rollback_of w.consumer.end w.consumer.counts cp js

      abbrev on_ring : Bool
      on_ring = valid_checkpoint w.consumer.end.layout.size cp

      -- the record's size is the one that was opened
      valid_is : valid_checkpoint size cp ≡ on_ring
      valid_is = ap (λ (m : ℕ). valid_checkpoint m cp) (sym (c_size l laid_out ret w q k))

      roll_no :
          (h : History Checkpoint) (m : ℕ) (g : Bool) → 0 < m → rolls ≡ rolled (refused m) w.consumer.end w.consumer.counts → on_ring ≡ g
          → GoodAfter l h q (said.unchanged (said.refused (said.rollback cp js) g m)) w
          → GoodAfter l h q (says_rolled size cp js rolls.answer) (after_rolled w rolls)
      roll_no h m g z t b good =
          good_after_by l h q _ (said.unchanged (said.refused (said.rollback cp js) g m)) _ w
          (read_refused rolls.answer m (asks (said.rollback cp js) (valid_checkpoint size cp)) (ap (λ (o : Rolled). o.answer) t) z
          ∙ ap (λ (y : Bool). said.unchanged (said.refused (said.rollback cp js) y m)) (valid_is ∙ b))
          (ap (after_rolled w) t)
          good

      -- what the polls named by an honest list have in the table
      module _ (u : Undo q cp js) where
        abbrev b : ℕ
        b = u.mark.polls

        abbrev up : List Poll
        up = upto b q.fresh

        abbrev back : List Poll
        back = after b q.fresh

        parts : up ++ back ≡ q.fresh
        parts = upto_after b q.fresh

        tots : tot (F q) ≡ tot (of_items (items up)) + tot (of_items (items back))
        tots = ap (λ (ps : List Poll). tot (of_items (items ps))) (sym parts) ∙ both_tot up back

        occs : (y : ℕ) → occ y (F q) ≡ occ y (of_items (items up)) + occ y (of_items (items back))
        occs y = ap (λ (ps : List Poll). occ y (of_items (items ps))) (sym parts) ∙ both_occ y up back

        slotss : (y : ℕ) → slots y (F q) ≡ slots y (of_items (items up)) + slots y (of_items (items back))
        slotss y = ap (λ (ps : List Poll). slots y (of_items (items ps))) (sym parts) ∙ both_slots y up back

        back_times : (y : ℕ) → times y js ≡ occ y (of_items (items back))
        back_times y = u.names y ∙ sym (occ_times y back)

        back_once : (y : ℕ) → occ y (of_items (items (q.old ++ up))) + occ y (of_items (items back)) ≤ 1
        back_once y = omega (arith, k.once y, one_le size y, occs y, both_occ y q.old up)

        back_pos : Pos (of_items (items back))
        back_pos =
            fine_pos (items back)
            (all_right FineItem (items up) (items back)
            (subst (All FineItem) (ap items (sym parts) ∙ items_append up back) (all_left FineItem (items q.fresh) q.waiting k.fine)))

        -- each named ID is the ring's and has a count
        named_ok : (y : ℕ) → 0 < times y js → (y < size) × (0 < get_or w.consumer.counts y 0)
        named_ok y h =
            let o : 0 < occ y (of_items (items back)) = omega (arith, h, back_times y) in
            let low : y < size = one_low size y (omega (arith, k.once y, occs y, o)) in
            (low, omega (arith, k.c_nums y low, slotss y, occ_slots y (of_items (items back)) back_pos o))

        none_bad_now : bad_ids size w.consumer.counts js ≡ false
        none_bad_now = none_bad size w.consumer.counts js (λ y. omega (arith, back_times y, back_once y)) named_ok

        -- the sum is that of their chains' slots
        entries : (qs : List Poll) → All (λ (p : Poll). slots p.item.id (of_items (items (q.old ++ up))) + slots p.item.id (of_items (items back)) ≡ slots_of p.item.chain) qs
            → All (λ (p : Poll). 0 < occ p.item.id (of_items (items back))) qs → All (λ (p : Poll). get_or w.consumer.counts p.item.id 0 ≡ slots_of p.item.chain) qs
        entries [] s t = tt
        entries (p ∷ qs) s t =
            let low : p.item.id < size = one_low size p.item.id (omega (arith, k.once p.item.id, occs p.item.id, t.0)) in (
              omega (arith, k.c_nums p.item.id low, slotss p.item.id, both_slots p.item.id q.old up, s.0),
              entries qs s.1 t.1,
            )

        stand_in : (ps : List Poll) → ((y : ℕ) → occ y (of_items (items ps)) ≤ occ y (of_items (items back))) → All (λ (p : Poll). 0 < occ p.item.id (of_items (items back))) ps
        stand_in [] h = tt
        stand_in (p ∷ ps) h = (
          omega (arith, h p.item.id, hit_same p.item.id 1),
          stand_in ps (λ y. omega (arith, h y)),
        )

        total : total_of w.consumer.counts js ≡ tot (of_items (items back))
        total =
            same_total w.consumer.counts js (ids back) u.names
            ∙ total_polls w.consumer.counts back (entries back (own_slots (of_items (items (q.old ++ up))) back back_once) (stand_in back (λ y. le_refl (occ y (of_items (items back))))))

        check : (u.mark.value.used ≡ pos size k.cu) × ((u.mark.value.inflight ≡ tot (O q) + tot (of_items (items u.mark.stood))) × (u.mark.value.avail ≡ pos size (k.cu + u.mark.value.inflight)))
        check = (all_of (CheckOk size q.comps k.cu (tot (O q))) u.mark q.marks u.taken k.checks).1 u.same_comps

        -- it is on the ring
        taken_on_ring : on_ring ≡ true
        taken_on_ring =
            let v = u.value in
            let s = c_size l laid_out ret w q k in
            let a : cp.avail.head < size =
            subst (λ (x : RingCursor). x.head < size) (sym check.1.1 ∙ ap (λ (x : Checkpoint). x.avail) v) (pos_low size (big l laid_out) (k.cu + u.mark.value.inflight)) in
            let d : cp.used.head < size =
            subst (λ (x : RingCursor). x.head < size) (sym check.0 ∙ ap (λ (x : Checkpoint). x.used) v) (pos_low size (big l laid_out) k.cu) in
            and_true (ltb cp.avail.head w.consumer.end.layout.size) (ltb cp.used.head w.consumer.end.layout.size)
            (lt-ltb cp.avail.head w.consumer.end.layout.size (omega (arith, s, a))) (lt-ltb cp.used.head w.consumer.end.layout.size (omega (arith, s, d)))

        -- where every poll that stood at the checkpoint stands, nothing is stale
        stands_current : up ≡ u.mark.stood → stale_of w.consumer.end cp (total_of w.consumer.counts js) ≡ false
        stands_current e =
            let c = check in
            let v = u.value in
            let i : w.consumer.end.inflight ≡ cp.inflight + total_of w.consumer.counts js =
            omega (arith, k.inflight, tots, total, c.1.0, ap (λ (x : Checkpoint). x.inflight) v, ap (λ (ps : List Poll). tot (of_items (items ps))) e) in
            not_stale w.consumer.end cp (total_of w.consumer.counts js)
            (k.c_used ∙ sym c.0 ∙ ap (λ (x : Checkpoint). x.used) v)
            i
            (k.c_avail ∙ ap (pos size) (omega (arith, k.ca_is, k.fa_is, k.inflight, i)) ∙ pos_add size (k.cu + cp.inflight) (total_of w.consumer.counts js)
            ∙ ap₂ (λ (m : ℕ) (x : RingCursor). steps m (total_of w.consumer.counts js) x) (sym (c_size l laid_out ret w q k))
            (sym (sym (ap (λ (x : Checkpoint). x.avail) v) ∙ c.1.1 ∙ ap (λ (x : Checkpoint). pos size (k.cu + x.inflight)) v)))

        -- the world after an accepted rollback
        abbrev cons' : RingConsumer
        cons' = record { layout = w.consumer.end.layout; avail = cp.avail; used = w.consumer.end.used; inflight = cp.inflight; shadow = w.consumer.end.shadow }

        abbrev roll_world : World
        roll_world = after_consumer w (record { end = cons'; counts = cleared_of w.consumer.counts js }) w.ring

        -- the queue after it
        abbrev q' : Queue Checkpoint
        q' =
            record { waiting = items back ++ q.waiting; old = q.old; fresh = up; done = q.done; out = q.out; promised = q.promised; polls = q.polls; comps = q.comps; since = q.since; marks = q.marks }

        queue_is : next q (said.rolled cp js) ≡ q'
        unfolding next
        queue_is =
            λ i.
            record {
              waiting = items (drop_after b q.fresh js u.names i) ++ q.waiting;
              old = q.old;
              fresh = but_last_upto b q.fresh js u.names i;
              done = q.done;
              out = q.out;
              promised = q.promised;
              polls = q.polls;
              comps = q.comps;
              since = q.since;
              marks = q.marks;
            }

        roll_like : Current w.consumer.end cp (total_of w.consumer.counts js) → Like l ret roll_world q'
        roll_like cur =
            let c = check in
            let v = u.value in
            let inf : tot (O q) + tot (F q) ≡ cp.inflight + tot (of_items (items back)) = omega (arith, k.inflight, cur.inflight, total) in
            let again : items up ++ (items back ++ q.waiting) ≡ items q.fresh ++ q.waiting =
            sym (append_assoc (items up) (items back) q.waiting) ∙ ap (λ (xs : List Item). xs ++ q.waiting) (sym (items_append up back) ∙ ap items parts) in
            record {
              pu = k.pu;
              cu = k.cu;
              fa = k.fa;
              ca = k.cu + cp.inflight;
              pa = k.pa;
              cu_is = k.cu_is;
              fa_is = k.fa_is;
              ca_is = omega (arith, k.fa_is, inf, tots);
              pa_is = omega (arith, k.pa_is, k.ca_is, k.fa_is, inf, tots, items_tot (items back) q.waiting);
              room = k.room;
              begun = k.begun;
              p_layout = k.p_layout;
              c_layout = k.c_layout;
              p_used = k.p_used;
              c_used = k.c_used;
              c_avail = sym (ap (λ (x : Checkpoint). x.avail) v) ∙ c.1.1 ∙ ap (λ (x : Checkpoint). pos size (k.cu + x.inflight)) v;
              p_avail = k.p_avail;
              inflight = omega (arith, inf, tots);
              whole = k.whole;
              ids_whole = k.ids_whole;
              counts_whole = k.counts_whole;
              held_whole = omega (arith, k.held_whole, cleared_length w.consumer.counts js);
              spelled = subst (Spells size (view size l.table w.ring) k.fa) (sym again) k.spelled;
              returned = k.returned;
              rounds = k.rounds;
              unused = k.unused;
              dones_are = k.dones_are;
              fine = subst (All FineItem) (sym again) k.fine;
              o_pos = k.o_pos;
              r_pos = k.r_pos;
              once = λ y. omega (arith, k.once y, occs y, items_occ y (items back) q.waiting);
              p_nums = λ y h. omega (arith, k.p_nums y h, slotss y, items_slots y (items back) q.waiting);
              c_nums = λ y h. left_at y h;
              heights = k.heights;
              out_pos = k.out_pos;
              out_occ = λ y. omega (arith, k.out_occ y, occs y, items_occ y (items back) q.waiting);
              out_slots = λ y. omega (arith, k.out_slots y, slotss y, items_slots y (items back) q.waiting);
              out_tot = omega (arith, k.out_tot, tots, items_tot (items back) q.waiting);
              promise = k.promise;
              checks = k.checks;
            }
          where
            left_at : (y : ℕ) → y < size → get_or (cleared_of w.consumer.counts js) y 0 ≡ slots y (O q) + slots y (of_items (items up))
            left_at y h =
                let c = cleared_at w.consumer.counts js y (omega (arith, h, k.held_whole)) in
                by_lt 0 (times y js)
                (λ z.
                let o : 0 < occ y (of_items (items back)) = omega (arith, z, back_times y) in
                let a : slots y (O q) ≡ 0 = slots_none y (O q) (omega (arith, back_once y, o, both_occ y q.old up)) in
                let d : slots y (of_items (items up)) ≡ 0 = slots_none y (of_items (items up)) (omega (arith, back_once y, o, both_occ y q.old up)) in
                omega (arith, c.0 (λ e. omega (arith, e, z)), a, d))
                (λ z.
                let e : times y js ≡ 0 = omega arith in
                let s : slots y (of_items (items back)) ≡ 0 = slots_none y (of_items (items back)) (omega (arith, e, back_times y)) in
                omega (arith, c.1 e, k.c_nums y h, slotss y, s))

      -- ROLLBACK: any checkpoint and any list; of an accepted one the premise is granted, and what is due by the history is due by the queue
      pub roll_good :
          (h : History Checkpoint) → (UndoesIntact h cp js → UndoIntact q cp js) → (said.rolled cp js ≡ says_rolled size cp js rolls.answer → Undo q cp js)
          → GoodAfter l h q (says_rolled size cp js rolls.answer) (after_rolled w rolls)
      roll_good h due grant =
          let s = c_size l laid_out ret w q k in
          let r = c_sound l laid_out ret w q k in
          split on_ring
          (λ t.
          let a = both_low t in
          let z = handed_goes w.consumer.end cp (length w.consumer.counts) r a.0 a.1 (omega (arith, s, k.held_whole)) 0 in
          split (bad_ids w.consumer.end.layout.size w.consumer.counts js || stale_of w.consumer.end cp (total_of w.consumer.counts js))
          (λ bad. roll_no h 9 true (omega arith) (rollback_refused w.consumer.end w.consumer.counts cp js z bad) t (
            (
              λ d.
                  let ua = due d in
                  let u = ua.undo in
                  true_false (sym bad ∙ simp (ap (λ (m : ℕ). bad_ids m w.consumer.counts js) s ∙ none_bad_now u, stands_current u ua.stand)),
              inr (refl, refl),
            ),
            (ret, like_unchanged l laid_out ret w q k (said.refused (said.rollback cp js) true 9) k.promise),
          ))
          (λ fine.
          let after_it : RingConsumer = record { layout = w.consumer.end.layout; avail = cp.avail; used = w.consumer.end.used; inflight = cp.inflight; shadow = w.consumer.end.shadow } in
          let e : rolls ≡ rolled (done []) after_it (cleared_of w.consumer.counts js) = rollback_done w.consumer.end w.consumer.counts cp js z fine ∙ ap (λ (x : RingConsumer). rolled (done []) x (cleared_of w.consumer.counts js)) (back_is w.consumer.end cp) in
          let says : says_rolled size cp js rolls.answer ≡ said.rolled cp js = ap (λ (o : Rolled). says_rolled size cp js o.answer) e in
          let u = grant (sym says) in
          good_after_by l h q _ (said.rolled cp js) _ (roll_world u) says (ap (after_rolled w) e)
          (u, (ret, subst (Like l ret (roll_world u)) (sym (queue_is u)) (roll_like u (current w.consumer.end cp (total_of w.consumer.counts js) (or_right fine)))))))
          (λ f. roll_no h 7 false (omega arith)
          (rollback_stopped w.consumer.end w.consumer.counts cp js (λ y. omega (arith, handed_bad w.consumer.end cp (length w.consumer.counts) (off f) 0, y))
          ∙ ap (λ (m : ℕ). rolled (refused m) w.consumer.end w.consumer.counts) (handed_bad w.consumer.end cp (length w.consumer.counts) (off f) 0))
          f
          ((λ d. true_false (sym (taken_on_ring (due d).undo) ∙ f), inl (tt, (refl, refl))), (ret, like_unchanged l laid_out ret w q k (said.refused (said.rollback cp js) false 7) k.promise)))
        where
          true_false : true ≡ false → ⊥
          true_false e = let y : ◌≡◌ {A = ℕ} 0 1 = cc in omega arith

          or_right : bad_ids w.consumer.end.layout.size w.consumer.counts js || stale_of w.consumer.end cp (total_of w.consumer.counts js) ≡ false → stale_of w.consumer.end cp (total_of w.consumer.counts js) ≡ false
          or_right e = (neither (bad_ids w.consumer.end.layout.size w.consumer.counts js) (stale_of w.consumer.end cp (total_of w.consumer.counts js)) e).1

          both_low : on_ring ≡ true → (cp.avail.head < w.consumer.end.layout.size) × (cp.used.head < w.consumer.end.layout.size)
          both_low t =
              let p = both_of (ltb cp.avail.head w.consumer.end.layout.size) (ltb cp.used.head w.consumer.end.layout.size) t in
              (ltb-true cp.avail.head w.consumer.end.layout.size p.0, ltb-true cp.used.head w.consumer.end.layout.size p.1)
            where
              both_of : (x y : Bool) → x && y ≡ true → (x ≡ true) × (y ≡ true)
              both_of true y e = (refl, e)
              both_of false y e = let z : ◌≡◌ {A = ℕ} 0 1 = cc in absurd (omega arith)

          off : on_ring ≡ false → leb w.consumer.end.layout.size cp.avail.head || leb w.consumer.end.layout.size cp.used.head ≡ true
          off f =
              by_lt cp.avail.head w.consumer.end.layout.size
              (λ a.
              by_lt cp.used.head w.consumer.end.layout.size
              (λ d. absurd (true_false (sym (and_true (ltb cp.avail.head w.consumer.end.layout.size) (ltb cp.used.head w.consumer.end.layout.size) (lt-ltb cp.avail.head w.consumer.end.layout.size a) (lt-ltb cp.used.head w.consumer.end.layout.size d)) ∙ f)))
              (λ d. simp (lt-leb w.consumer.end.layout.size cp.avail.head a, le-leb w.consumer.end.layout.size cp.used.head d)))
              (λ a. simp (le-leb w.consumer.end.layout.size cp.avail.head a))
