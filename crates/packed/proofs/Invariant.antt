-- The invariant: how a world of both ends is like a queue, over unwrapped positions.
-- Assumes nothing.
use Prim.Native.Nat.{ℕ, ◌+◌, ◌-◌, ◌≤◌, ◌<◌}
use mathlib.Core.Path.{◌≡◌, refl, sym, ap, ◌∙◌, subst}
use mathlib.Core.Bool.{Bool, true, false, not}
use mathlib.Core.List.{List, [], ◌∷◌, ◌++◌}
use native.Mathlib.Omega.{arith}
use lib.ListN.{length, get_or, take}
use Rattle.cursor.specs.declared.RingCursor.{RingCursor}
use Rattle.desc.specs.declared.Descriptor.{Descriptor}
use Rattle.desc.specs.Flags.{AVAIL, USED, has}
use Rattle.layout.specs.declared.Layout.{Layout}
use Rattle.layout.specs.Layout.{bad_layout, outside}
use Rattle.layout.proofs.Laws.{laid}
use Rattle.producer.specs.Record as made
use Rattle.producer.specs.Submit.{top_of}
use Rattle.producer.proofs.Goes as makes
use Rattle.consumer.specs.Record as takes
use Rattle.consumer.specs.declared.Checkpoint.{Checkpoint}
use Rattle.consumer.proofs.Goes as polls
use Rattle.queue.specs.History.{Item, Event, History, Unchanged, slots_in, items}
use Rattle.queue.specs.History as said
use Rattle.queue.specs.Promise.{Fine, plain}
use Rattle.queue.specs.Sentences.{All}
use Rattle.queue.proofs.Model.{Queue, Mark, next, promised_by, Ok}
use Rattle.packed.specs.Machine.{World}
use Rattle.packed.proofs.Position.{pos, round, view, pos_low, view_around, round_around}
use Rattle.packed.proofs.Counts.{Held, Used, of_items, of_used, dones, occ_s, occ, slots, tot, Pos, one, slots_tot}
use Rattle.packed.proofs.Spells.{Spells, Returns, spells_cong, returns_cong}

-- an item of such a chain
abbrev pub FineItem : Item → Type 0
FineItem x = Fine x.chain

pub fine_pos : (xs : List Item) → All FineItem xs → Pos (of_items xs)
fine_pos [] h = tt
fine_pos (x ∷ xs) h = (h.0.0, fine_pos xs h.1)

-- polled and not completed, before the last completion and since; and what waits
abbrev pub O : Queue Checkpoint → List Held
O q = of_items (items q.old)

abbrev pub F : Queue Checkpoint → List Held
F q = of_items (items q.fresh)

abbrev pub W : Queue Checkpoint → List Held
W q = of_items q.waiting

-- a checkpoint that was taken, at the consumer's used position cu and with o slots polled before the last completion: while no completion
-- came since, it holds the used cursor, the slots in flight then, and the avail cursor that many slots on
abbrev pub CheckOk : ℕ → ℕ → ℕ → ℕ → Mark Checkpoint → Type 0
CheckOk size comps cu o m =
    (m.comps ≤ comps)
    × (m.comps ≡ comps
    → (m.value.used ≡ pos size cu)
    × ((m.value.inflight ≡ o + tot (of_items (items m.stood)))
    × (m.value.avail ≡ pos size (cu + m.value.inflight))))

module _ (l : Layout) where
  abbrev pub size : ℕ
  size = l.size

  -- `ret`: what is completed and not yet returned, with the slots of each
  pub record Like (ret : List Used) (w : World) (q : Queue Checkpoint) : Type 0 where
    -- five positions: the producer's used cursor, the consumer's, the first poll that a rollback may undo, the consumer's avail cursor, the
    -- producer's
    pub pu : ℕ
    pub cu : ℕ
    pub fa : ℕ
    pub ca : ℕ
    pub pa : ℕ
    pub cu_is : cu ≡ pu + tot (of_used ret)
    pub fa_is : fa ≡ cu + tot (O q)
    pub ca_is : ca ≡ fa + tot (F q)
    pub pa_is : pa ≡ ca + tot (W q)
    pub room : pa + w.producer.end.free ≡ pu + size
    pub begun : size ≤ pu
    -- the records
    pub p_layout : w.producer.end.layout ≡ l
    pub c_layout : w.consumer.end.layout ≡ l
    pub p_used : w.producer.end.used ≡ pos size pu
    pub c_used : w.consumer.end.used ≡ pos size cu
    pub c_avail : w.consumer.end.avail ≡ pos size ca
    pub p_avail : w.producer.end.avail ≡ pos size pa
    pub inflight : w.consumer.end.inflight ≡ tot (O q) + tot (F q)
    -- what is lent is whole
    pub whole : outside l (length w.ring) ≡ false
    pub ids_whole : size ≤ length w.producer.ids
    pub counts_whole : size ≤ length w.producer.counts
    pub held_whole : size ≤ length w.consumer.counts
    -- the slots
    pub spelled : Spells size (view size l.table w.ring) fa (items q.fresh ++ q.waiting)
    pub returned : Returns size (view size l.table w.ring) pu ret
    -- each slot has AVAIL of the round in which it was last published or used; USED of the other round where it is not used yet
    pub rounds : (p : ℕ) → pa ≤ p + size → p < pa → has (view size l.table w.ring p).flags AVAIL ≡ round size p
    pub unused : (p : ℕ) → cu ≤ p → p < pa → has (view size l.table w.ring p).flags USED ≡ not (round size p)
    -- the IDs and the tables
    pub dones_are : q.done ≡ dones ret
    pub fine : All FineItem (items q.fresh ++ q.waiting)
    pub o_pos : Pos (O q)
    pub r_pos : Pos (of_used ret)
    pub once :
        (y : ℕ) → occ_s y (take w.producer.end.height w.producer.ids) + (occ y (W q) + (occ y (O q) + occ y (F q)) + occ y (of_used ret)) ≡ one size y
    pub p_nums : (y : ℕ) → y < size → get_or w.producer.counts y 0 ≡ slots y (W q) + (slots y (O q) + slots y (F q)) + slots y (of_used ret)
    pub c_nums : (y : ℕ) → y < size → get_or w.consumer.counts y 0 ≡ slots y (O q) + slots y (F q)
    -- the chains that are out are those that wait, are held, or are completed and not returned
    pub heights : w.producer.end.height + length q.out ≡ size
    pub out_pos : Pos (of_items q.out)
    pub out_occ : (y : ℕ) → occ y (of_items q.out) ≡ occ y (W q) + (occ y (O q) + occ y (F q)) + occ y (of_used ret)
    pub out_slots : (y : ℕ) → slots y (of_items q.out) ≡ slots y (W q) + (slots y (O q) + slots y (F q)) + slots y (of_used ret)
    pub out_tot : tot (of_items q.out) ≡ tot (W q) + (tot (O q) + tot (F q)) + tot (of_used ret)
    pub promise : (i : ℕ) → q.promised ≡ i ∷ [] → (0 < w.producer.end.height) × (top_of w.producer.end w.producer.ids ≡ i)
    pub checks : All (CheckOk size q.comps cu (tot (O q))) q.marks

  abbrev pub Match : World → Queue Checkpoint → Type 0
  Match w q = (ret : List Used) × Like ret w q

  -- what is owed of a call after a history: its answer is allowed, and the world after it is like the queue after it
  abbrev pub GoodAfter : History Checkpoint → Queue Checkpoint → Event Checkpoint → World → Type 0
  GoodAfter h q e w = Ok (plain size) h q e × Match w (next q e)

  -- the same after any history: of all calls but rollbacks, the queue alone says what is allowed
  abbrev pub Good : Queue Checkpoint → Event Checkpoint → World → Type 0
  Good q e w = ((h : History Checkpoint) → Ok (plain size) h q e) × Match w (next q e)

  pub good_by : (q : Queue Checkpoint) (e f : Event Checkpoint) (v w : World) → e ≡ f → v ≡ w → Good q f w → Good q e v
  good_by q e f v w a b g = subst (λ (x : Event Checkpoint). Good q x v) (sym a) (subst (λ (x : World). Good q f x) (sym b) g)

  pub good_after_by :
      (h : History Checkpoint) (q : Queue Checkpoint) (e f : Event Checkpoint) (v w : World) → e ≡ f → v ≡ w → GoodAfter h q f w → GoodAfter h q e v
  good_after_by h q e f v w a b g =
      subst (λ (x : Event Checkpoint). GoodAfter h q x v) (sym a) (subst (λ (x : World). GoodAfter h q f x) (sym b) g)

  module _ (laid_out : bad_layout l ≡ false) where
    pub big : 0 < size
    big = (laid l laid_out).low

    module _ (ret : List Used) (w : World) (q : Queue Checkpoint) (k : Like ret w q) where
      -- the positions' order
      pub free_slots : w.producer.end.free + tot (of_items q.out) ≡ size
      free_slots = omega (arith, k.out_tot, k.room, k.pa_is, k.ca_is, k.fa_is, k.cu_is)

      pub free_in : w.producer.end.free + slots_in q.out ≡ size
      free_in = omega (arith, free_slots, slots_tot q.out)

      -- neither record is bad, and nothing that is lent
      pub p_size : w.producer.end.layout.size ≡ size
      p_size = ap (λ (m : Layout). m.size) k.p_layout

      pub c_size : w.consumer.end.layout.size ≡ size
      c_size = ap (λ (m : Layout). m.size) k.c_layout

      head_low : (c : RingCursor) (p : ℕ) → c ≡ pos size p → c.head < size
      head_low c p e = rw e (pos_low size big p)

      pub p_sound : made.bad_record w.producer.end ≡ false
      p_sound =
          makes.not_bad w.producer.end
          (ap bad_layout k.p_layout ∙ laid_out)
          (omega (arith, p_size, head_low w.producer.end.avail k.pa k.p_avail))
          (omega (arith, p_size, head_low w.producer.end.used k.pu k.p_used))
          (omega (arith, p_size, free_slots))
          (omega (arith, p_size, k.heights))

      pub p_whole : outside w.producer.end.layout (length w.ring) ≡ false
      p_whole = ap (λ (m : Layout). outside m (length w.ring)) k.p_layout ∙ k.whole

      pub p_lent : made.bad_lent w.producer.end (length w.ring) (length w.producer.ids) (length w.producer.counts) ≡ false
      p_lent =
          makes.not_bad_lent w.producer.end (length w.ring) (length w.producer.ids) (length w.producer.counts) p_whole
          (omega (arith, p_size, k.ids_whole)) (omega (arith, p_size, k.counts_whole))

      pub c_sound : takes.bad_record w.consumer.end ≡ false
      c_sound =
          polls.not_bad w.consumer.end
          (ap bad_layout k.c_layout ∙ laid_out)
          (omega (arith, c_size, head_low w.consumer.end.avail k.ca k.c_avail))
          (omega (arith, c_size, head_low w.consumer.end.used k.cu k.c_used))
          (omega (arith, c_size, k.inflight, free_slots, k.out_tot))

      pub c_whole : outside w.consumer.end.layout (length w.ring) ≡ false
      c_whole = ap (λ (m : Layout). outside m (length w.ring)) k.c_layout ∙ k.whole

      pub c_lent : takes.bad_lent w.consumer.end (length w.ring) (length w.consumer.counts) ≡ false
      c_lent = polls.not_bad_lent w.consumer.end (length w.ring) (length w.consumer.counts) c_whole (omega (arith, c_size, k.held_whole))

      -- the producer's next slot holds the round before
      pub edge : has (view size l.table w.ring k.pa).flags AVAIL ≡ not (round size k.pa)
      edge =
          let p : ℕ = k.pa - size in
          let e : k.pa ≡ p + size = omega (arith, k.begun, k.cu_is, k.fa_is, k.ca_is, k.pa_is) in
          ap (λ (n : ℕ). has (view size l.table w.ring n).flags AVAIL) e
          ∙ ap (λ (d : Descriptor). has d.flags AVAIL) (view_around size l.table w.ring big p)
          ∙ k.rounds p (omega arith) (omega (arith, big))
          ∙ sym (ap (λ (n : ℕ). not (round size n)) e ∙ ap not (round_around size big p) ∙ not_not (round size p))
        where
          not_not : (b : Bool) → not (not b) ≡ b
          not_not true = refl
          not_not false = refl

      -- the queue with another promise of next_id and other checkpoints
      abbrev with_marks : List ℕ → List (Mark Checkpoint) → Queue Checkpoint
      with_marks ps ms =
          record { waiting = q.waiting; old = q.old; fresh = q.fresh; done = q.done; out = q.out; promised = ps; polls = q.polls; comps = q.comps; since = q.since; marks = ms }

      -- the world with other shadows and other bytes
      abbrev pub with_shadows : ℕ → ℕ → List ℕ → World
      with_shadows s t r =
          let p = w.producer.end in
          let c = w.consumer.end in
          record {
            producer = record {
              end = record { layout = p.layout; avail = p.avail; used = p.used; free = p.free; height = p.height; shadow = s };
              ids = w.producer.ids;
              counts = w.producer.counts;
            };
            consumer = record {
              end = record { layout = c.layout; avail = c.avail; used = c.used; inflight = c.inflight; shadow = t };
              counts = w.consumer.counts;
            };
            ring = r;
          }

      -- the invariant speaks neither of the shadows nor of bytes in no slot
      like_with :
          (s t : ℕ) (r : List ℕ) → length r ≡ length w.ring → ((p : ℕ) → view size l.table w.ring p ≡ view size l.table r p)
          → (ps : List ℕ) (ms : List (Mark Checkpoint)) → ((i : ℕ) → ps ≡ i ∷ [] → (0 < w.producer.end.height) × (top_of w.producer.end w.producer.ids ≡ i))
          → All (CheckOk size q.comps k.cu (tot (O q))) ms → Like ret (with_shadows s t r) (with_marks ps ms)
      like_with s t r n vs ps ms x c =
          let f = view size l.table w.ring in
          let g = view size l.table r in
          record {
            pu = k.pu;
            cu = k.cu;
            fa = k.fa;
            ca = k.ca;
            pa = k.pa;
            cu_is = k.cu_is;
            fa_is = k.fa_is;
            ca_is = k.ca_is;
            pa_is = k.pa_is;
            room = k.room;
            begun = k.begun;
            p_layout = k.p_layout;
            c_layout = k.c_layout;
            p_used = k.p_used;
            c_used = k.c_used;
            c_avail = k.c_avail;
            p_avail = k.p_avail;
            inflight = k.inflight;
            whole = ap (outside l) n ∙ k.whole;
            ids_whole = k.ids_whole;
            counts_whole = k.counts_whole;
            held_whole = k.held_whole;
            spelled = spells_cong size f g k.fa (items q.fresh ++ q.waiting) (λ p a b. vs p) k.spelled;
            returned = returns_cong size f g k.pu ret (λ p a b. vs p) k.r_pos k.returned;
            rounds = λ p a b. ap (λ (d : Descriptor). has d.flags AVAIL) (sym (vs p)) ∙ k.rounds p a b;
            unused = λ p a b. ap (λ (d : Descriptor). has d.flags USED) (sym (vs p)) ∙ k.unused p a b;
            dones_are = k.dones_are;
            fine = k.fine;
            o_pos = k.o_pos;
            r_pos = k.r_pos;
            once = k.once;
            p_nums = k.p_nums;
            c_nums = k.c_nums;
            heights = k.heights;
            out_pos = k.out_pos;
            out_occ = k.out_occ;
            out_slots = k.out_slots;
            out_tot = k.out_tot;
            promise = x;
            checks = c;
          }

      pub like_same :
          (s t : ℕ) (r : List ℕ) → length r ≡ length w.ring → ((p : ℕ) → view size l.table w.ring p ≡ view size l.table r p)
          → Like ret (with_shadows s t r) q
      like_same s t r n vs = like_with s t r n vs q.promised q.marks k.promise k.checks

      pub like_marks :
          (ps : List ℕ) (ms : List (Mark Checkpoint)) → ((i : ℕ) → ps ≡ i ∷ [] → (0 < w.producer.end.height) × (top_of w.producer.end w.producer.ids ≡ i))
          → All (CheckOk size q.comps k.cu (tot (O q))) ms → Like ret w (with_marks ps ms)
      like_marks ps ms x c = like_with w.producer.end.shadow w.consumer.end.shadow w.ring refl (λ p. refl) ps ms x c

      -- an answer that changes nothing: the queue after it is the same, but for what next_id promised
      pub like_unchanged : (a : Unchanged Checkpoint) → ((i : ℕ) → promised_by q a ≡ i ∷ [] → (0 < w.producer.end.height) × (top_of w.producer.end w.producer.ids ≡ i)) → Like ret w (next q (said.unchanged a))
      unfolding next
      like_unchanged a f = like_marks (promised_by q a) q.marks f k.checks
