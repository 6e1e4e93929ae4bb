-- submit_available, submit_one and both with notify: a chain is published after those that wait, or refused with 1, 3 or 8.
-- Assumes nothing.
use Prim.Native.Nat.{ℕ, ◌+◌, ◌-◌, ◌≤◌, ◌<◌}
use mathlib.Core.Path.{◌≡◌, refl, sym, ap, ap₂, ◌∙◌, subst}
use mathlib.Core.Logic.{inl, inr}
use mathlib.Core.Bool.{Bool, true, false, not, cond}
use mathlib.Core.List.{List, [], ◌∷◌, ◌++◌, append_assoc}
use native.Mathlib.Omega.{arith}
use lib.Dec.{eqb}
use lib.ListN.{length, set, length-set, length-append}
use Rattle.base.specs.Answer.{done, refused}
use Rattle.base.proofs.Tests.{split, by_lt}
use Rattle.cursor.specs.declared.RingCursor.{RingCursor}
use Rattle.cursor.specs.Cursor.{steps}
use Rattle.desc.specs.declared.Descriptor.{Descriptor}
use Rattle.desc.specs.Flags.{AVAIL, USED, has}
use Rattle.desc.specs.Desc.{mark_avail}
use Rattle.layout.specs.declared.Layout.{Layout}
use Rattle.layout.specs.Layout.{bad_layout, outside}
use Rattle.chain.specs.Chain.{bad_slices}
use Rattle.chain.proofs.Laws.{good}
use Rattle.ring.specs.Slots.{slot_of}
use Rattle.producer.specs.declared.RingProducer.{RingProducer}
use Rattle.producer.specs.Outcome.{Outcome, outcome}
use Rattle.producer.specs.Submit.{top_of, submit_refusal, element_of, Written, put_chain, taken_of}
use Rattle.producer.proofs.Submit.{submit_refused, submit_done}
use Rattle.producer.proofs.Frame.{chain_past}
use Rattle.producer.proofs.Touch.{submit_length, submit_keep}
use Rattle.producer.proofs.Goes.{submit_bad_chain, submit_empty, submit_blocks, submit_goes, submitted_is, taken_is, tell_number, tell_value}
use Rattle.producer.proofs.Goes.{tell_leaves}
use Rattle.consumer.specs.declared.Checkpoint.{Checkpoint}
use Rattle.back.proofs.Back.{Stands, written}
use Rattle.queue.specs.History.{Chain, Item, items}
use Rattle.queue.specs.History as said
use Rattle.queue.specs.Sentences.{All}
use Rattle.queue.proofs.Listing.{all_append}
use Rattle.queue.proofs.Model.{Queue, next}
use Rattle.packed.specs.Calls.{asks, valid_chain, TypedChain}
use Rattle.packed.specs.Machine.{World, submits_of, tells_of, after_producer}
use Rattle.packed.proofs.Answers.{says_submitted, after_made, read_refused, valid_is}
use Rattle.packed.proofs.Position.{pos, round, view, pos_add, apart}
use Rattle.packed.proofs.Counts.{Used, of_items, tot, pos_len, pos_snoc, at_set, tot_item, occ_item, slots_item, items_tot}
use Rattle.packed.proofs.Spells.{Spell, Spells, spells_cong, spells_append, returns_cong, spell_flags}
use Rattle.packed.proofs.Invariant.{FineItem, Like, Good, good_by, big, free_slots, free_in, p_size, p_sound, p_lent, like_unchanged}
use Rattle.packed.proofs.Stack.{popped, top_low, top_count, top_unlike}

module _ (l : Layout) (laid_out : bad_layout l ≡ false) where
  abbrev size : ℕ
  size = l.size

  module _ (ret : List Used) (w : World) (q : Queue Checkpoint) (k : Like l ret w q) (c : Chain) where
    abbrev n : ℕ
    n = length c.addrs

    -- a refused submission leaves the world as it was
    submit_no :
        (m : ℕ) (g : Bool) → 0 < m → submit_refusal w.producer.end (length w.ring) w.producer.ids w.producer.counts n (length c.lens) c.readable ≡ m → valid_chain c ≡ g
        → Good l q (said.unchanged (said.refused (said.submit c) g m)) w → Good l q (says_submitted c (submits_of w.producer w.ring c).answer) (after_made w (submits_of w.producer w.ring c))
    submit_no m g z e b good =
        let t : submits_of w.producer w.ring c ≡ outcome (refused m) w.producer.end w.ring w.producer.ids w.producer.counts =
        submit_refused w.producer.end w.ring w.producer.ids w.producer.counts c.addrs c.lens c.readable (λ y. omega (arith, e, y))
        ∙ ap (λ (x : ℕ). outcome (refused x) w.producer.end w.ring w.producer.ids w.producer.counts) e in
        good_by l q _ (said.unchanged (said.refused (said.submit c) g m)) _ w
        (read_refused (submits_of w.producer w.ring c).answer m (asks (said.submit c) (valid_chain c)) (ap (λ (o : Outcome). o.answer) t) z
        ∙ ap (λ (y : Bool). said.unchanged (said.refused (said.submit c) y m)) b)
        (ap (after_made w) t)
        good

    -- ---- accepted
    module _ (typed : TypedChain c) (fits_chain : bad_slices (length c.addrs) (length c.lens) c.readable ≡ false) (some_elements : 0 < n) (enough : n ≤ w.producer.end.free) where
      abbrev top : ℕ
      top = top_of w.producer.end w.producer.ids

      abbrev it : Item
      it = record { id = top; chain = c }

      some_left : 0 < w.producer.end.height
      some_left = omega (arith, k.heights, free_slots l laid_out ret w q k, pos_len q.out k.out_pos)

      accepted : submit_refusal w.producer.end (length w.ring) w.producer.ids w.producer.counts n (length c.lens) c.readable ≡ 0
      accepted =
          let s = p_size l laid_out ret w q k in
          submit_goes w.producer.end (length w.ring) w.producer.ids w.producer.counts n (length c.lens) c.readable (p_sound l laid_out ret w q k) (p_lent l laid_out ret w q k) fits_chain
          some_elements enough some_left (omega (arith, s, top_low l laid_out ret w q k some_left)) (top_count l laid_out ret w q k some_left)

      abbrev put : Written
      put = put_chain w.producer.end.layout (element_of top c.addrs c.lens c.readable) n w.producer.end.avail w.ring

      abbrev ring' : List ℕ
      ring' = (submits_of w.producer w.ring c).ring

      is_submitted : submits_of w.producer w.ring c ≡ outcome (done (top ∷ [])) (taken_of w.producer.end put.past n) put.bytes w.producer.ids (set w.producer.counts top n)
      is_submitted =
          submit_done w.producer.end w.ring w.producer.ids w.producer.counts c.addrs c.lens c.readable accepted
          ∙ submitted_is w.producer.end w.producer.ids w.producer.counts n top put

      abbrev prod' : RingProducer
      prod' =
          record {
            layout = w.producer.end.layout;
            avail = steps w.producer.end.layout.size n w.producer.end.avail;
            used = w.producer.end.used;
            free = w.producer.end.free - n;
            height = w.producer.end.height - 1;
            shadow = w.producer.end.shadow;
          }

      prod_is : (submits_of w.producer w.ring c).end ≡ prod'
      prod_is =
          ap (λ (o : Outcome). o.end) is_submitted
          ∙ ap (λ (x : RingCursor). taken_of w.producer.end x n) (chain_past w.producer.end.layout (element_of top c.addrs c.lens c.readable) n w.producer.end.avail w.ring some_elements)
          ∙ taken_is w.producer.end (steps w.producer.end.layout.size n w.producer.end.avail) n

      abbrev submit_world : World
      submit_world = after_producer w (record { end = prod'; ids = w.producer.ids; counts = set w.producer.counts top n }) ring'

      world_is : after_made w (submits_of w.producer w.ring c) ≡ submit_world
      world_is =
          λ i.
          after_producer w (record { end = prod_is i; ids = (is_submitted i).ids; counts = (is_submitted i).counts }) ring'

      -- slots written long enough before stay as they were
      old : (p : ℕ) → p < k.pa → k.pa + n ≤ p + size → view size l.table w.ring p ≡ view size l.table ring' p
      old p b h =
          sym (subst (λ (m : Layout). slot_of m.table (pos size p) ring' ≡ slot_of m.table (pos size p) w.ring) k.p_layout
          (submit_keep w.producer.end w.ring w.producer.ids w.producer.counts c.addrs c.lens c.readable accepted (pos size p)
          (λ j r e. apart size (big l laid_out) p (k.pa + j) (omega arith) (omega arith)
          (sym (ap (λ (x : RingCursor). x.head) (place j) ∙ e)))))
        where
          place : (j : ℕ) → pos size (k.pa + j) ≡ steps w.producer.end.layout.size j w.producer.end.avail
          place j = pos_add size k.pa j ∙ ap₂ (λ (m : ℕ) (x : RingCursor). steps m j x) (sym (p_size l laid_out ret w q k)) (sym k.p_avail)

      -- the chain stands in its own
      new : Spell size (view size l.table ring') k.pa it
      new j h =
          let s : Stands w.producer.end.layout ring' w.producer.end.avail top c.addrs c.lens c.readable =
          written w.producer.end w.ring w.producer.ids w.producer.counts c.addrs c.lens c.readable accepted typed.0 typed.1 in
          subst (λ (x : RingCursor). slot_of l.table x ring' ≡ mark_avail (element_of top c.addrs c.lens c.readable j) x.wrap) (sym (pos_add size k.pa j))
          (subst (λ (x : RingCursor). slot_of l.table (steps size j x) ring' ≡ mark_avail (element_of top c.addrs c.lens c.readable j) (steps size j x).wrap) k.p_avail
          (subst (λ (m : Layout). slot_of m.table (steps m.size j w.producer.end.avail) ring' ≡ mark_avail (element_of top c.addrs c.lens c.readable j) (steps m.size j w.producer.end.avail).wrap) k.p_layout
          (s.slots j h)))

      flags_at :
          (b : ℕ) (f : ℕ → Bool) → ((p : ℕ) → k.pa ≤ p → p < k.pa + n → has (view size l.table ring' p).flags b ≡ f p)
          → (p : ℕ) → k.pa + n ≤ p + size → p < k.pa + n → (p < k.pa → has (view size l.table w.ring p).flags b ≡ f p)
          → has (view size l.table ring' p).flags b ≡ f p
      flags_at b f fresh p a d before =
          by_lt p k.pa
          (λ h. ap (λ (x : Descriptor). has x.flags b) (sym (old p h a)) ∙ before h)
          (λ h. fresh p h d)

      submit_like : Like l ret submit_world (next q (said.submitted it))
      unfolding next
      submit_like =
          let f = view size l.table w.ring in
          let g = view size l.table ring' in
          let s = p_size l laid_out ret w q k in
          let here : k.fa + tot (of_items (items q.fresh ++ q.waiting)) ≡ k.pa = omega (arith, items_tot (items q.fresh) q.waiting, k.ca_is, k.pa_is) in
          let gd = good (length c.addrs) (length c.lens) c.readable fits_chain in
          record {
            pu = k.pu;
            cu = k.cu;
            fa = k.fa;
            ca = k.ca;
            pa = k.pa + n;
            cu_is = k.cu_is;
            fa_is = k.fa_is;
            ca_is = k.ca_is;
            pa_is = omega (arith, k.pa_is, tot_item q.waiting it);
            room = omega (arith, k.room, enough);
            begun = k.begun;
            p_layout = k.p_layout;
            c_layout = k.c_layout;
            p_used = k.p_used;
            c_used = k.c_used;
            c_avail = k.c_avail;
            p_avail = ap₂ (λ (m : ℕ) (x : RingCursor). steps m n x) s k.p_avail ∙ sym (pos_add size k.pa n);
            inflight = k.inflight;
            whole = ap (outside l) (submit_length w.producer.end w.ring w.producer.ids w.producer.counts c.addrs c.lens c.readable accepted) ∙ k.whole;
            ids_whole = k.ids_whole;
            counts_whole = omega (arith, k.counts_whole, length-set w.producer.counts top n);
            held_whole = k.held_whole;
            spelled =
                subst (Spells size g k.fa) (append_assoc (items q.fresh) q.waiting (it ∷ []))
                (spells_append size g k.fa (items q.fresh ++ q.waiting) (it ∷ [])
                (spells_cong size f g k.fa (items q.fresh ++ q.waiting)
                (λ p a b. old p (omega (arith, here)) (omega (arith, k.room, k.fa_is, k.cu_is, enough))) k.spelled)
                (subst (λ (x : ℕ). Spells size g x (it ∷ [])) (sym here) (new, tt)));
            returned =
                returns_cong size f g k.pu ret
                (λ p a b. old p (omega (arith, k.cu_is, k.fa_is, k.ca_is, k.pa_is)) (omega (arith, k.room, enough))) k.r_pos k.returned;
            rounds = λ p a b. flags_at AVAIL (round size) (λ r d e. (spell_flags size g k.pa it new r d e).0) p a b (λ h. k.rounds p (omega arith) h);
            unused = λ p a b.
                flags_at USED (λ (r : ℕ). not (round size r)) (λ r d e. (spell_flags size g k.pa it new r d e).1) p (omega (arith, k.room, k.cu_is, enough)) b (λ h. k.unused p a h);
            dones_are = k.dones_are;
            fine = subst (All FineItem) (append_assoc (items q.fresh) q.waiting (it ∷ [])) (all_append FineItem (items q.fresh ++ q.waiting) (it ∷ []) k.fine ((some_elements, (gd.equal, gd.within)), tt));
            o_pos = k.o_pos;
            r_pos = k.r_pos;
            once = λ y. omega (arith, k.once y, popped l laid_out ret w q k some_left y, occ_item y q.waiting it);
            p_nums = λ y b.
                omega (arith, k.p_nums y b, slots_item y q.waiting it, at_set w.producer.counts top n y (omega (arith, top_low l laid_out ret w q k some_left, k.counts_whole)) (top_count l laid_out ret w q k some_left));
            c_nums = k.c_nums;
            heights = omega (arith, k.heights, some_left, length-append q.out (it ∷ []));
            out_pos = pos_snoc q.out it k.out_pos some_elements;
            out_occ = λ y. omega (arith, k.out_occ y, occ_item y q.waiting it, occ_item y q.out it);
            out_slots = λ y. omega (arith, k.out_slots y, slots_item y q.waiting it, slots_item y q.out it);
            out_tot = omega (arith, k.out_tot, tot_item q.waiting it, tot_item q.out it);
            promise = λ i e. absurd (no_promise i e);
            checks = k.checks;
          }
        where
          no_promise : (i : ℕ) → ◌≡◌ {A = List ℕ} [] (i ∷ []) → ⊥
          no_promise i e = let z : ◌≡◌ {A = ℕ} 0 1 = ap length e in omega arith

      submit_gives : Good l q (says_submitted c (submits_of w.producer w.ring c).answer) (after_made w (submits_of w.producer w.ring c))
      submit_gives =
          let gd = good (length c.addrs) (length c.lens) c.readable fits_chain in
          good_by l q _ (said.submitted it) _ submit_world (ap (λ (o : Outcome). says_submitted c o.answer) is_submitted) world_is (
            λ h. (
              top_low l laid_out ret w q k some_left,
              (
                top_unlike l laid_out ret w q k some_left,
                ((some_elements, (gd.equal, gd.within)), (omega (arith, free_in l laid_out ret w q k, enough), λ i e. (k.promise i e).1)),
              ),
            ),
            (ret, submit_like),
          )

    -- SUBMIT: any slices
    pub submit_good : TypedChain c → Good l q (says_submitted c (submits_of w.producer w.ring c).answer) (after_made w (submits_of w.producer w.ring c))
    submit_good typed =
        let r = p_sound l laid_out ret w q k in
        let t = p_lent l laid_out ret w q k in
        split (bad_slices (length c.addrs) (length c.lens) c.readable)
        (λ b. submit_no 8 false (omega arith) (submit_bad_chain w.producer.end (length w.ring) w.producer.ids w.producer.counts n (length c.lens) c.readable r t b) (valid_is c ∙ ap not b)
        (λ h. (λ z. z, inl (tt, (refl, refl))), (ret, like_unchanged l laid_out ret w q k (said.refused (said.submit c) false 8) k.promise)))
        (λ g.
        by_lt 0 n
        (λ z.
        by_lt w.producer.end.free n
        (λ f. submit_no 3 true (omega arith) (submit_blocks w.producer.end (length w.ring) w.producer.ids w.producer.counts n (length c.lens) c.readable r t g z f) (valid_is c ∙ ap not g)
        (λ h. (λ y. y, inr (refl, inr (refl, (z, omega (arith, free_in l laid_out ret w q k, f))))), (ret, like_unchanged l laid_out ret w q k (said.refused (said.submit c) true 3) k.promise)))
        (λ f. submit_gives typed g z f))
        (λ z. submit_no 1 true (omega arith) (submit_empty w.producer.end (length w.ring) w.producer.ids w.producer.counts n (length c.lens) c.readable r t g (omega arith)) (valid_is c ∙ ap not g)
        (λ h. (λ y. y, inr (refl, inl (refl, omega arith))), (ret, like_unchanged l laid_out ret w q k (said.refused (said.submit c) true 1) k.promise))))

    -- WITH NOTIFY: the same, said and left
    pub told_good : TypedChain c → Good l q (says_submitted c (tells_of w.producer w.ring c).answer) (after_made w (tells_of w.producer w.ring c))
    told_good typed =
        let o = submits_of w.producer w.ring c in
        let old_c = w.producer.end.avail in
        good_by l q _ (says_submitted c o.answer) _ (after_made w o)
        (ap₂ (λ (m : ℕ) (v : ℕ). cond (eqb m 0) (said.submitted (record { id = v; chain = c })) (said.unchanged (said.refused (said.submit c) (valid_chain c) m)))
        (tell_number old_c o) (tell_value old_c o))
        (ap (after_made w) (tell_leaves old_c o))
        (submit_good typed)
