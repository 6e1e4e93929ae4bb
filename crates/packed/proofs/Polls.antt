-- poll_available and peek_available: a poll gives the chain that waits first, or blocks because none does.
-- Assumes nothing.
use Prim.Native.Nat.{ℕ, suc, ◌+◌, ◌≤◌, ◌<◌}
use mathlib.Core.Path.{◌≡◌, refl, sym, ap, ap₂, ◌∙◌, subst}
use mathlib.Core.Logic.{inl, inr}
use mathlib.Core.Bool.{Bool, true, false, not, ◌&&◌, ◌||◌}
use mathlib.Core.List.{List, [], ◌∷◌, ◌++◌, append_assoc}
use native.Mathlib.Omega.{arith}
use lib.Dec.{ltb, leb}
use lib.ListN.{length, get_or, set, length-set}
use lib.Seq.{sets, length-sets}
use borrow.Author.Tests.{ltb-true, ltb-false, le-leb, lt-leb}
use Rattle.base.specs.Answer.{done, refused, bit}
use Rattle.base.proofs.Tests.{split, neither}
use Rattle.base.proofs.Runs.{part_same}
use Rattle.cursor.specs.declared.RingCursor.{RingCursor}
use Rattle.cursor.specs.Cursor.{steps}
use Rattle.desc.specs.declared.Descriptor.{Descriptor}
use Rattle.desc.specs.Flags.{AVAIL, has, is_avail}
use Rattle.desc.specs.Desc.{mark_avail}
use Rattle.desc.proofs.Flags.{not_avail}
use Rattle.layout.specs.declared.Layout.{Layout}
use Rattle.layout.specs.Layout.{bad_layout}
use Rattle.ring.specs.Slots.{slot_of}
use Rattle.consumer.specs.declared.RingConsumer.{RingConsumer}
use Rattle.consumer.specs.declared.Checkpoint.{Checkpoint}
use Rattle.consumer.specs.Poll.{Taken, taken, head_refusal, head_of, past_of, poll_of, peek_of}
use Rattle.consumer.proofs.Poll.{poll_stopped, peek_done}
use Rattle.consumer.proofs.Goes.{head_short, head_blocks, past_is, bytes_goes}
use Rattle.back.proofs.Back.{Stands, legible, poll_accepted, poll_back}
use Rattle.queue.specs.History.{Item, Poll, slots_of, items}
use Rattle.queue.specs.History as said
use Rattle.queue.specs.Sentences.{All}
use Rattle.queue.proofs.Listing.{all_right, items_append}
use Rattle.queue.proofs.Model.{Queue, next, tail}
use Rattle.queue.specs.Says.{first_of}
use Rattle.queue.proofs.Says.{says_refused, first_of_lem}
use Rattle.packed.specs.Calls.{asks, valid_outputs}
use Rattle.packed.specs.Machine.{World, checkpoint_in, after_consumer}
use Rattle.packed.proofs.Answers.{says_polled, says_peeked, after_taken, and_true, and_false}
use Rattle.packed.proofs.Position.{round, view, pos_add}
use Rattle.packed.proofs.Counts.{Used, of_items, hit, occ, slots, tot, hit_same, slots_none, one_le, one_low, tot_poll, occ_poll, slots_poll}
use Rattle.packed.proofs.Counts.{at_set}
use Rattle.packed.proofs.Spells.{Spells, element_at, spells_split}
use Rattle.packed.proofs.Invariant.{FineItem, O, F, W, Like, Good, good_by, free_slots, c_size, c_sound, c_lent, c_whole, edge, like_unchanged}

module _ (l : Layout) (laid_out : bad_layout l ≡ false) where
  abbrev size : ℕ
  size = l.size

  module _ (ret : List Used) (w : World) (q : Queue Checkpoint) (k : Like l ret w q) where
    -- the head that a poll looks at
    pub head_view : head_of w.consumer.end w.ring ≡ view size l.table w.ring k.ca
    head_view = ap₂ (λ (m : Layout) (c : RingCursor). slot_of m.table c w.ring) k.c_layout k.c_avail

    pub wrap_is : w.consumer.end.avail.wrap ≡ round size k.ca
    wrap_is = ap (λ (c : RingCursor). c.wrap) k.c_avail

    -- where none waits the head is not available
    pub none_available : q.waiting ≡ [] → is_avail (head_of w.consumer.end w.ring).flags w.consumer.end.avail.wrap ≡ false
    none_available e =
        let z : tot (W q) ≡ 0 = ap (λ (ws : List Item). tot (of_items ws)) e in
        let p : k.pa ≡ k.ca = omega (arith, k.pa_is, z) in
        not_avail (head_of w.consumer.end w.ring).flags w.consumer.end.avail.wrap
        (ap (λ (d : Descriptor). has d.flags AVAIL) head_view
        ∙ ap (λ (n : ℕ). has (view size l.table w.ring n).flags AVAIL) (sym p)
        ∙ edge l laid_out ret w q k
        ∙ ap (λ (n : ℕ). not (round size n)) p ∙ ap not (sym wrap_is))

    -- a chain that waits first stands at the avail cursor
    pub stands : (x : Item) (xs : List Item) → q.waiting ≡ x ∷ xs → Stands w.consumer.end.layout w.ring w.consumer.end.avail x.id x.chain.addrs x.chain.lens x.chain.readable
    stands x xs e =
        let f = view size l.table w.ring in
        let sp : Spells size f k.ca (x ∷ xs) =
        subst (λ (n : ℕ). Spells size f n (x ∷ xs)) (sym k.ca_is)
        (spells_split size f k.fa (items q.fresh) (x ∷ xs) (subst (λ (ws : List Item). Spells size f k.fa (items q.fresh ++ ws)) e k.spelled)).1 in
        let fi : FineItem x = (all_right FineItem (items q.fresh) (x ∷ xs) (subst (λ (ws : List Item). All FineItem (items q.fresh ++ ws)) e k.fine)).0 in
        let t : tot (W q) ≡ tot (of_items (x ∷ xs)) = ap (λ (ws : List Item). tot (of_items ws)) e in
        record {
          some_elements = fi.0;
          few = omega (arith, c_size l laid_out ret w q k, free_slots l laid_out ret w q k, k.out_tot, t);
          equal = fi.1.0;
          within = fi.1.1;
          slots = λ j h.
              subst (λ (m : Layout). slot_of m.table (steps m.size j w.consumer.end.avail) w.ring ≡ mark_avail (element_at x j) (steps m.size j w.consumer.end.avail).wrap) (sym k.c_layout)
              (subst (λ (c : RingCursor). slot_of l.table (steps size j c) w.ring ≡ mark_avail (element_at x j) (steps size j c).wrap) (sym k.c_avail)
              (subst (λ (c : RingCursor). slot_of l.table c w.ring ≡ mark_avail (element_at x j) c.wrap) (pos_add size k.ca j) (sp.0 j h)));
        }

    -- a refused poll leaves the world as it was
    poll_no :
        (outs louts : List ℕ) (n : ℕ) (g : Bool) → 0 < n → head_refusal w.consumer.end (length w.ring) (head_of w.consumer.end w.ring) (length w.consumer.counts) (length outs) (length louts) 0 ≡ n
        → valid_outputs size outs louts ≡ g
        → (Good l q (said.unchanged (said.refused said.poll g n)) w)
        → Good l q (says_polled size outs louts (poll_of w.consumer.end w.ring w.consumer.counts outs louts)) (after_taken w (poll_of w.consumer.end w.ring w.consumer.counts outs louts))
    poll_no outs louts n g z e b good =
        let t : poll_of w.consumer.end w.ring w.consumer.counts outs louts ≡ taken (refused n) w.consumer.end w.consumer.counts outs louts =
        poll_stopped w.consumer.end w.ring w.consumer.counts outs louts (λ y. omega (arith, e, y))
        ∙ ap (λ (m : ℕ). taken (refused m) w.consumer.end w.consumer.counts outs louts) e in
        good_by l q _ (said.unchanged (said.refused said.poll g n)) _ w
        (says_refused checkpoint_in (asks said.poll (valid_outputs size outs louts)) (poll_of w.consumer.end w.ring w.consumer.counts outs louts).answer n _ _ (ap (λ (o : Taken). o.answer) t) z
        ∙ ap (λ (y : Bool). said.unchanged (said.refused said.poll y n)) b)
        (ap (after_taken w) t)
        good

    poll_short :
        (outs louts : List ℕ) → ltb (length outs) w.consumer.end.layout.size || ltb (length louts) w.consumer.end.layout.size ≡ true
        → Good l q (says_polled size outs louts (poll_of w.consumer.end w.ring w.consumer.counts outs louts)) (after_taken w (poll_of w.consumer.end w.ring w.consumer.counts outs louts))
    poll_short outs louts s =
        poll_no outs louts 8 false (omega arith)
        (head_short w.consumer.end (length w.ring) (head_of w.consumer.end w.ring) (length w.consumer.counts) (length outs) (length louts) (c_sound l laid_out ret w q k) (c_lent l laid_out ret w q k) s 0)
        (short (length outs) (length louts) size (subst (λ (m : ℕ). ltb (length outs) m || ltb (length louts) m ≡ true) (c_size l laid_out ret w q k) s))
        (λ h. (λ z. z, inl (tt, (refl, refl))), (ret, like_unchanged l laid_out ret w q k (said.refused said.poll false 8) k.promise))
      where
        not_le : (a b : ℕ) → not (leb b a) ≡ ltb a b
        not_le a b = split (ltb a b)
            (λ t. ap not (lt-leb b a (ltb-true a b t)) ∙ sym t)
            (λ f. ap not (le-leb b a (ltb-false a b f)) ∙ sym f)

        short : (a b m : ℕ) → ltb a m || ltb b m ≡ true → leb m a && leb m b ≡ false
        short a b m h = and_false (leb m a) (leb m b) (ap₂ (λ (x : Bool) (y : Bool). x || y) (not_le a m) (not_le b m) ∙ h)

    module _ (outs louts : List ℕ) (a : size ≤ length outs) (b : size ≤ length louts) where
      long : valid_outputs size outs louts ≡ true
      long = and_true (leb size (length outs)) (leb size (length louts)) (le-leb size (length outs) a) (le-leb size (length louts) b)

      poll_blocked :
          q.waiting ≡ []
          → Good l q (says_polled size outs louts (poll_of w.consumer.end w.ring w.consumer.counts outs louts)) (after_taken w (poll_of w.consumer.end w.ring w.consumer.counts outs louts))
      poll_blocked e =
          let c = c_size l laid_out ret w q k in
          poll_no outs louts 3 true (omega arith)
          (head_blocks w.consumer.end (length w.ring) (head_of w.consumer.end w.ring) (length w.consumer.counts) (length outs) (length louts) (c_sound l laid_out ret w q k) (c_lent l laid_out ret w q k)
          (omega (arith, c)) (omega (arith, c)) (none_available e) 0)
          long
          (λ h. (λ z. z, inr (refl, (refl, e))), (ret, like_unchanged l laid_out ret w q k (said.refused said.poll true 3) k.promise))

      module _ (x : Item) (xs : List Item) (e : q.waiting ≡ x ∷ xs) where
        abbrev n : ℕ
        n = slots_of x.chain

        tot_w : tot (W q) ≡ n + tot (of_items xs)
        tot_w = ap (λ (ws : List Item). tot (of_items ws)) e

        occ_w : (y : ℕ) → occ y (W q) ≡ hit x.id y 1 + occ y (of_items xs)
        occ_w y = ap (λ (ws : List Item). occ y (of_items ws)) e

        slots_w : (y : ℕ) → slots y (W q) ≡ hit x.id y n + slots y (of_items xs)
        slots_w y = ap (λ (ws : List Item). slots y (of_items ws)) e

        rest_is : tail q.waiting ≡ xs
        rest_is = ap tail e

        low : x.id < size
        low = one_low size x.id (omega (arith, k.once x.id, occ_w x.id, hit_same x.id 1))

        unheld : get_or w.consumer.counts x.id 0 ≡ 0
        unheld =
            let h = hit_same x.id 1 in
            let o : slots x.id (O q) ≡ 0 = slots_none x.id (O q) (omega (arith, k.once x.id, occ_w x.id, h, one_le size x.id)) in
            let f : slots x.id (F q) ≡ 0 = slots_none x.id (F q) (omega (arith, k.once x.id, occ_w x.id, h, one_le size x.id)) in
            omega (arith, k.c_nums x.id low, o, f)

        fits : w.consumer.end.inflight + n ≤ size
        fits = omega (arith, k.inflight, tot_w, free_slots l laid_out ret w q k, k.out_tot)

        -- the world after the poll
        abbrev polled_world : World
        polled_world =
            after_consumer w
            (record {
              end = past_of w.consumer.end (steps w.consumer.end.layout.size n w.consumer.end.avail) n;
              counts = set w.consumer.counts x.id n;
            })
            w.ring

        is_taken :
            poll_of w.consumer.end w.ring w.consumer.counts outs louts
            ≡ taken (done (x.id ∷ n ∷ x.chain.readable ∷ [])) (past_of w.consumer.end (steps w.consumer.end.layout.size n w.consumer.end.avail) n) (set w.consumer.counts x.id n)
            (sets outs 0 x.chain.addrs) (sets louts 0 x.chain.lens)
        is_taken =
            let c = c_size l laid_out ret w q k in
            let s = legible w.consumer.end.layout w.ring w.consumer.end.avail x.id x.chain.addrs x.chain.lens x.chain.readable (stands x xs e) in
            poll_back w.consumer.end w.ring x.id x.chain.addrs x.chain.lens x.chain.readable s w.consumer.counts outs louts
            (poll_accepted w.consumer.end w.ring x.id x.chain.addrs x.chain.lens x.chain.readable s w.consumer.counts outs louts
            (c_sound l laid_out ret w q k) (c_lent l laid_out ret w q k) (omega (arith, c)) (omega (arith, c)) (omega (arith, c, low)) unheld (omega (arith, c, fits)))

        -- what is read off the outputs is the chain
        taken_first : (vs outs' : List ℕ) → length vs ≤ length outs' → first_of (length vs) (sets outs' 0 vs) ≡ vs
        taken_first vs outs' h = first_of_lem (length vs) (sets outs' 0 vs) (omega (arith, length-sets outs' 0 vs, h)) ∙ part_same vs outs' 0 (omega arith)

        says_x : says_polled size outs louts (poll_of w.consumer.end w.ring w.consumer.counts outs louts) ≡ said.polled x
        says_x =
            let s = stands x xs e in
            let c = c_size l laid_out ret w q k in
            let da = taken_first x.chain.addrs outs (omega (arith, s.few, c)) in
            let dl : first_of n (sets louts 0 x.chain.lens) ≡ x.chain.lens =
            ap (λ (m : ℕ). first_of m (sets louts 0 x.chain.lens)) s.equal ∙ taken_first x.chain.lens louts (omega (arith, s.few, s.equal, c)) in
            ap (says_polled size outs louts) is_taken
            ∙ (λ i. said.polled (record { id = x.id; chain = record { addrs = da i; lens = dl i; readable = x.chain.readable } }))

        poll_like : Like l ret polled_world (next q (said.polled x))
        unfolding next
        poll_like =
            let pl : Poll = record { no = suc q.polls; item = x } in
            let g = past_is w.consumer.end (steps w.consumer.end.layout.size n w.consumer.end.avail) n in
            let rest_tot : tot (of_items (tail q.waiting)) ≡ tot (of_items xs) = ap (λ (ws : List Item). tot (of_items ws)) rest_is in
            let rest_occ : (y : ℕ) → occ y (of_items (tail q.waiting)) ≡ occ y (of_items xs) = λ y. ap (λ (ws : List Item). occ y (of_items ws)) rest_is in
            let rest_slots : (y : ℕ) → slots y (of_items (tail q.waiting)) ≡ slots y (of_items xs) = λ y. ap (λ (ws : List Item). slots y (of_items ws)) rest_is in
            let moved : items (q.fresh ++ (pl ∷ [])) ++ tail q.waiting ≡ items q.fresh ++ q.waiting =
            ap₂ (λ (a' : List Item) (b' : List Item). a' ++ b') (items_append q.fresh (pl ∷ [])) rest_is
            ∙ append_assoc (items q.fresh) (x ∷ []) xs ∙ ap (λ (ws : List Item). items q.fresh ++ ws) (sym e) in
            record {
              pu = k.pu;
              cu = k.cu;
              fa = k.fa;
              ca = k.ca + n;
              pa = k.pa;
              cu_is = k.cu_is;
              fa_is = k.fa_is;
              ca_is = omega (arith, k.ca_is, tot_poll q.fresh pl);
              pa_is = omega (arith, k.pa_is, tot_w, rest_tot);
              room = k.room;
              begun = k.begun;
              p_layout = k.p_layout;
              c_layout = ap (λ (c : RingConsumer). c.layout) g ∙ k.c_layout;
              p_used = k.p_used;
              c_used = ap (λ (c : RingConsumer). c.used) g ∙ k.c_used;
              c_avail =
                  ap (λ (c : RingConsumer). c.avail) g
                  ∙ ap₂ (λ (m : ℕ) (c : RingCursor). steps m n c) (c_size l laid_out ret w q k) k.c_avail ∙ sym (pos_add size k.ca n);
              p_avail = k.p_avail;
              inflight = ap (λ (c : RingConsumer). c.inflight) g ∙ omega (arith, k.inflight, tot_poll q.fresh pl);
              whole = k.whole;
              ids_whole = k.ids_whole;
              counts_whole = k.counts_whole;
              held_whole = omega (arith, k.held_whole, length-set w.consumer.counts x.id n);
              spelled = subst (Spells size (view size l.table w.ring) k.fa) (sym moved) k.spelled;
              returned = k.returned;
              rounds = k.rounds;
              unused = k.unused;
              dones_are = k.dones_are;
              fine = subst (All FineItem) (sym moved) k.fine;
              o_pos = k.o_pos;
              r_pos = k.r_pos;
              once = λ y. omega (arith, k.once y, occ_w y, rest_occ y, occ_poll y q.fresh pl);
              p_nums = λ y h. omega (arith, k.p_nums y h, slots_w y, rest_slots y, slots_poll y q.fresh pl);
              c_nums = λ y h. omega (arith, k.c_nums y h, slots_poll y q.fresh pl, at_set w.consumer.counts x.id n y (omega (arith, low, k.held_whole)) unheld);
              heights = k.heights;
              out_pos = k.out_pos;
              out_occ = λ y. omega (arith, k.out_occ y, occ_w y, rest_occ y, occ_poll y q.fresh pl);
              out_slots = λ y. omega (arith, k.out_slots y, slots_w y, rest_slots y, slots_poll y q.fresh pl);
              out_tot = omega (arith, k.out_tot, tot_w, rest_tot, tot_poll q.fresh pl);
              promise = k.promise;
              checks = k.checks;
            }

        poll_gives :
            Good l q (says_polled size outs louts (poll_of w.consumer.end w.ring w.consumer.counts outs louts)) (after_taken w (poll_of w.consumer.end w.ring w.consumer.counts outs louts))
        poll_gives = good_by l q _ (said.polled x) _ polled_world says_x (ap (after_taken w) is_taken) (λ h. (xs, e), (ret, poll_like))

    -- POLL: any outputs
    pub poll_good :
        (outs louts : List ℕ)
        → Good l q (says_polled size outs louts (poll_of w.consumer.end w.ring w.consumer.counts outs louts)) (after_taken w (poll_of w.consumer.end w.ring w.consumer.counts outs louts))
    poll_good outs louts =
        let c = c_size l laid_out ret w q k in
        split (ltb (length outs) w.consumer.end.layout.size || ltb (length louts) w.consumer.end.layout.size)
        (λ s. poll_short outs louts s)
        (λ f.
        let g = neither (ltb (length outs) w.consumer.end.layout.size) _ f in
        let a : size ≤ length outs = omega (arith, c, ltb-false (length outs) w.consumer.end.layout.size g.0) in
        let b : size ≤ length louts = omega (arith, c, ltb-false (length louts) w.consumer.end.layout.size g.1) in
        go outs louts a b q.waiting refl)
      where
        go :
            (outs louts : List ℕ) → size ≤ length outs → size ≤ length louts → (ws : List Item) → q.waiting ≡ ws
            → Good l q (says_polled size outs louts (poll_of w.consumer.end w.ring w.consumer.counts outs louts)) (after_taken w (poll_of w.consumer.end w.ring w.consumer.counts outs louts))
        go outs louts a b [] e = poll_blocked outs louts a b e
        go outs louts a b (x ∷ xs) e = poll_gives outs louts a b x xs e

    -- PEEK: yes exactly if a chain waits
    pub peek_good : Good l q (says_peeked (peek_of w.consumer.end w.ring)) w
    peek_good = go q.waiting refl
      where
        r : peek_of w.consumer.end w.ring ≡ done (bit (is_avail (head_of w.consumer.end w.ring).flags w.consumer.end.avail.wrap) ∷ [])
        r = peek_done w.consumer.end w.ring (bytes_goes w.consumer.end (length w.ring) (c_sound l laid_out ret w q k) (c_whole l laid_out ret w q k))

        says_it : (b : Bool) → is_avail (head_of w.consumer.end w.ring).flags w.consumer.end.avail.wrap ≡ b → says_peeked (peek_of w.consumer.end w.ring) ≡ said.unchanged (said.peeked b)
        says_it b e = ap says_peeked (r ∙ ap (λ (x : Bool). done (bit x ∷ [])) e) ∙ bit_back b
          where
            bit_back : (x : Bool) → says_peeked (done (bit x ∷ [])) ≡ said.unchanged (said.peeked x)
            bit_back true = refl
            bit_back false = refl

        go : (ws : List Item) → q.waiting ≡ ws → Good l q (says_peeked (peek_of w.consumer.end w.ring)) w
        go [] e =
            good_by l q _ (said.unchanged (said.peeked false)) w w (says_it false (none_available e)) refl
            (λ h. inr (refl, e), (ret, like_unchanged l laid_out ret w q k (said.peeked false) k.promise))
        go (x ∷ xs) e =
            good_by l q _ (said.unchanged (said.peeked true)) w w
            (says_it true (legible w.consumer.end.layout w.ring w.consumer.end.avail x.id x.chain.addrs x.chain.lens x.chain.readable (stands x xs e)).head_avail) refl
            (λ h. inl (refl, subst (λ (ws : List Item). 0 < length ws) (sym e) (omega arith)), (ret, like_unchanged l laid_out ret w q k (said.peeked true) k.promise))
