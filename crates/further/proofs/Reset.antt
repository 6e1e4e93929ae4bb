-- At any point of a run both ends may be reset, the one and then the other: what is left is what two fresh openings over a zeroed table leave,
-- so demand 3 holds again from there.
-- Assumes nothing.
use Prim.Native.Nat.{ℕ, ◌+◌, ◌*◌, ◌≤◌, ◌<◌}
use mathlib.Core.Path.{◌≡◌, refl, sym, ap, ◌∙◌, subst}
use mathlib.Core.Logic.{⊎_elim}
use mathlib.Core.Bool.{false, ◌||◌}
use mathlib.Core.List.{List, []}
use native.Mathlib.Omega.{arith}
use lib.ListN.{length, get_or, replicate, length-replicate, get_or-replicate}
use lib.Seq.{sets}
use borrow.Author.Tests.{le-ltb}
use Rattle.base.specs.Answer as answers
use Rattle.base.specs.Answer.{done}
use Rattle.base.specs.Bytes.{put_of}
use Rattle.base.proofs.Runs.{put_fits}
use Rattle.event.specs.Event.{ENABLE, event, encode_of}
use Rattle.event.proofs.Trips.{encode_length}
use Rattle.layout.specs.declared.Layout.{Layout}
use Rattle.layout.specs.Layout.{bad_layout, outside, table_bytes}
use Rattle.layout.proofs.Laws.{Apart, laid, within}
use Rattle.ring.specs.Tables.{up_to}
use Rattle.ring.proofs.Frames.{put_length, sets_at, sets_before, sets_behind}
use Rattle.producer.specs.Outcome as made
use Rattle.producer.specs.Record as made_record
use Rattle.producer.specs.Fresh as made_fresh
use Rattle.producer.proofs.Reset as made_laws
use Rattle.consumer.specs.Outcome as taken
use Rattle.consumer.specs.Record as taken_record
use Rattle.consumer.specs.Fresh as taken_fresh
use Rattle.consumer.specs.declared.Checkpoint.{Checkpoint}
use Rattle.consumer.proofs.Reset as taken_laws
use Rattle.queue.specs.Promise.{plain}
use Rattle.queue.specs.Demand.{Premise, Demand3}
use Rattle.queue.proofs.Model.{Queue, model}
use Rattle.packed.specs.Calls.{Given}
use Rattle.packed.specs.Machine.{World, machine_of, packed, leaves, producer_does, consumer_does, consumer_opens_of}
use Rattle.packed.specs.Opening.{Opening, opened_world, machine, rules, Run, history_in, world_in}
use Rattle.further.specs.Reset.{reset_by_producer, reset_by_consumer, with_producer_reset, with_consumer_reset, Reopened, ResetsOpen}
use Rattle.packed.proofs.Answers.{after_made, after_completed}
use Rattle.packed.proofs.Counts.{Used}
use Rattle.packed.proofs.Invariant.{Like, p_sound, p_lent, c_sound, c_lent}
use Rattle.packed.proofs.First.{laid_out}
use Rattle.packed.proofs.Packed.{demand_3, like_queue}

-- ---- the bytes

-- the descriptor table is zero
abbrev Zeroed : Layout → List ℕ → Type 0
Zeroed l ring = (k : ℕ) → k < l.size * 16 → get_or ring (l.table + k) 0 ≡ 0

-- an event area zeroed
abbrev event_zeroed : ℕ → List ℕ → List ℕ
event_zeroed at ring = (put_of ring at (encode_of (event 0 ENABLE))).bytes

abbrev table_zeroed : Layout → List ℕ → List ℕ
table_zeroed l ring = (put_of ring l.table (replicate (16 * l.size) 0)).bytes

module _ (l : Layout) (ring : List ℕ) where
  table_zeroed_lem : l.table + table_bytes l ≤ length ring → Zeroed l (table_zeroed l ring)
  table_zeroed_lem h k b =
      let n = length-replicate {A = ℕ} (16 * l.size) 0 in
      ap (λ (o : answers.Outcome). get_or o.bytes (l.table + k) 0) (put_fits ring l.table (replicate (16 * l.size) 0) (omega (arith, n, h)))
      ∙ sets_at (replicate (16 * l.size) 0) ring l.table k (omega (arith, n, b)) (omega (arith, n, h))
      ∙ get_or-replicate {A = ℕ} (16 * l.size) k 0 0 (omega (arith, b))

  -- an event area is no part of the table
  event_keeps : (at : ℕ) → Apart l.table (table_bytes l) at 4 → at + 4 ≤ length ring → Zeroed l ring → Zeroed l (event_zeroed at ring)
  event_keeps at apart h z k b =
      let n = encode_length (event 0 ENABLE) in
      let es = encode_of (event 0 ENABLE) in
      ap (λ (o : answers.Outcome). get_or o.bytes (l.table + k) 0) (put_fits ring at es (omega (arith, n, h)))
      ∙ ⊎_elim
      (λ x. sets_before es ring at (l.table + k) (omega (arith, x, b)))
      (λ x. sets_behind es ring at (l.table + k) (omega (arith, x, n)))
      apart
      ∙ z k b

-- ---- each end's reset

module _ (o : Opening packed) where
  abbrev l : Layout
  l = o.geometry

  -- the producer's tables as a reset leaves them, and the consumer's
  abbrev stacked : List ℕ → List ℕ
  stacked ids = sets ids 0 (up_to l.size)

  abbrev cleared : List ℕ → List ℕ
  cleared counts = sets counts 0 (replicate l.size 0)

  -- the world of two fresh ends over these bytes and tables
  abbrev fresh_world : List ℕ → List ℕ → List ℕ → List ℕ → World
  fresh_world ring ids counts held =
      record {
        producer = record { end = made_fresh.fresh_of l; ids = ids; counts = counts };
        consumer = record { end = taken_fresh.fresh_of l; counts = held };
        ring = ring;
      }

  module _ (ret : List Used) (w : World) (q : Queue Checkpoint) (k : Like l ret w q) where
    -- the tables
    abbrev ids : List ℕ
    ids = w.producer.ids

    abbrev counts : List ℕ
    counts = w.producer.counts

    abbrev held : List ℕ
    held = w.consumer.counts

    -- what each reset leaves
    abbrev made_freshly : List ℕ → made.Outcome
    made_freshly ring = made.outcome (done []) (made_fresh.fresh_of l) (made_fresh.zeroed_of l ring) (stacked ids) (cleared counts)

    abbrev taken_freshly : List ℕ → taken.Outcome
    taken_freshly ring = taken.outcome (done []) (taken_fresh.fresh_of l) (taken_fresh.zeroed_of l ring) (cleared held)

    producer_resets : (ring : List ℕ) → length ring ≡ length w.ring → made_fresh.reset_of w.producer.end ring ids counts ≡ made_freshly ring
    unfolding made_record.lent_refusal
    producer_resets ring n =
        made_laws.reset_done w.producer.end ring ids counts (rw n (simp (p_sound l (laid_out o) ret w q k, p_lent l (laid_out o) ret w q k)))
        ∙ ap (λ (m : Layout). made.outcome (done []) (made_fresh.fresh_of m) (made_fresh.zeroed_of m ring) (sets ids 0 (up_to m.size)) (sets counts 0 (replicate m.size 0)))
        k.p_layout

    consumer_resets : (ring : List ℕ) → length ring ≡ length w.ring → taken_fresh.reset_of w.consumer.end ring held ≡ taken_freshly ring
    unfolding taken_record.lent_refusal
    consumer_resets ring n =
        taken_laws.reset_done w.consumer.end ring held (rw n (simp (c_sound l (laid_out o) ret w q k, c_lent l (laid_out o) ret w q k)))
        ∙ ap (λ (m : Layout). taken.outcome (done []) (taken_fresh.fresh_of m) (taken_fresh.zeroed_of m ring) (sets held 0 (replicate m.size 0)))
        k.c_layout

    -- two openings over bytes whose table is zero
    reopens : (ring : List ℕ) → length ring ≡ length w.ring → Zeroed l ring → Reopened o (fresh_world ring (stacked ids) (cleared counts) (cleared held))
    reopens ring n z =
        let fits : bad_layout l || outside l (length ring) ≡ false = simp (laid_out o, ap (outside l) n ∙ k.whole) in
        let ps =
        made_laws.opening_done l.size l.table l.driver l.device ring ids counts fits
        (simp (le-ltb (length ids) l.size k.ids_whole, le-ltb (length counts) l.size k.counts_whole)) in
        let cs = taken_laws.opening_done l.size l.table l.driver l.device ring held fits k.held_whole in
        record {
          again =
              record {
                geometry = l;
                ring = ring;
                zeroed = z;
                ids = ids;
                counts = counts;
                held_counts = held;
                producer_finds = ring;
                consumer_finds = ring;
                producer_length = refl;
                consumer_length = refl;
                producer = ap (λ (x : made_fresh.Open). x.answer.number) ps;
                consumer = ap (λ (x : taken_fresh.Open). x.answer.number) cs;
              };
          same_layout = refl;
          opened =
              ap (λ (x : made_fresh.Open). fresh_world ring x.ids x.counts (consumer_opens_of l ring held).counts) ps
              ∙ ap (λ (x : taken_fresh.Open). fresh_world ring (stacked ids) (cleared counts) x.counts) cs;
        }

    -- the bytes after the producer's reset
    long : (ring : List ℕ) → length (made_fresh.zeroed_of l ring) ≡ length ring
    long ring =
        put_length (table_zeroed l ring) l.driver (encode_of (event 0 ENABLE)) ∙ put_length ring l.table (replicate (16 * l.size) 0)

    made_zeroed : (ring : List ℕ) → length ring ≡ length w.ring → Zeroed l (made_fresh.zeroed_of l ring)
    made_zeroed ring n =
        let i = within l (length ring) (ap (outside l) n ∙ k.whole) in
        event_keeps l (table_zeroed l ring) l.driver (laid l (laid_out o)).table_driver
        (omega (arith, i.driver, put_length ring l.table (replicate (16 * l.size) 0))) (table_zeroed_lem l ring i.table)

    -- and after the consumer's
    taken_long : (ring : List ℕ) → length (taken_fresh.zeroed_of l ring) ≡ length ring
    taken_long ring = put_length ring l.device (encode_of (event 0 ENABLE))

    -- the one, then the other
    abbrev made_world : World
    made_world = after_made w (made_freshly w.ring)

    abbrev taken_world : World
    taken_world = after_completed w (taken_freshly w.ring)

    made_is : with_producer_reset w ≡ made_world
    unfolding leaves producer_does
    made_is = ap (after_made w) (producer_resets w.ring refl)

    taken_is : with_consumer_reset w ≡ taken_world
    unfolding leaves consumer_does
    taken_is = ap (after_completed w) (consumer_resets w.ring refl)

    both_zeroed : Zeroed l (taken_fresh.zeroed_of l made_world.ring)
    both_zeroed =
        let i = within l (length w.ring) k.whole in
        event_keeps l made_world.ring l.device (laid l (laid_out o)).table_device (omega (arith, i.device, long w.ring)) (made_zeroed w.ring refl)

    resets_open : ResetsOpen o w
    unfolding leaves producer_does consumer_does
    resets_open =
        let second = consumer_resets made_world.ring (long w.ring) in
        let second_too = producer_resets taken_world.ring (taken_long w.ring) in
        record {
          producer_first = ap (λ (x : made.Outcome). x.answer) (producer_resets w.ring refl);
          consumer_second = ap reset_by_consumer made_is ∙ ap (λ (x : taken.Outcome). x.answer) second;
          reopened =
              subst (Reopened o) (sym (ap with_consumer_reset made_is ∙ ap (after_completed made_world) second))
              (reopens (taken_fresh.zeroed_of l made_world.ring) (taken_long made_world.ring ∙ long w.ring) both_zeroed);
          consumer_first = ap (λ (x : taken.Outcome). x.answer) (consumer_resets w.ring refl);
          producer_second = ap reset_by_producer taken_is ∙ ap (λ (x : made.Outcome). x.answer) second_too;
          reopened_too =
              subst (Reopened o) (sym (ap with_producer_reset taken_is ∙ ap (after_made taken_world) second_too))
              (reopens (made_fresh.zeroed_of l taken_world.ring) (long taken_world.ring ∙ taken_long w.ring) (made_zeroed taken_world.ring (taken_long w.ring)));
        }

-- ---- after any run

pub reset_opens : (r : Run packed) → ResetsOpen r.opening (world_in packed r)
reset_opens r = let m = like_queue r in resets_open r.opening m.0 (world_in packed r) (model (history_in packed r)) m.1

-- so demand 3 holds again, of all that is called after both: "two fresh ends over one zeroed ring"
pub demand_3_again :
    (o : Opening packed) (v : World) → Reopened o v → (cs : List Given) → Premise (machine packed o) (rules packed o) v cs
    → Demand3 (machine packed o) (rules packed o) v cs
demand_3_again o v k cs a =
    let v_is = k.opened in
    subst (λ (x : World). Demand3 (machine packed o) (rules packed o) x cs) v_is
    (subst (λ (g : Layout). Demand3 (machine_of packed g.size) (plain g.size) (opened_world packed k.again) cs) k.same_layout
    (demand_3 (record {
      opening = k.again;
      calls = cs;
      premise =
          subst (λ (g : Layout). Premise (machine_of packed g.size) (plain g.size) (opened_world packed k.again) cs) (sym k.same_layout)
          (subst (λ (x : World). Premise (machine packed o) (rules packed o) x cs) (sym v_is) a);
    })))
