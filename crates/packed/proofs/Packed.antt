-- DEMAND 3 for the packed ring: every call of both ends matches the queue, so every history of them is first in, first out, with each
-- completion meeting its own submission.
-- Assumes nothing.
use Prim.Native.Nat.{ℕ}
use mathlib.Core.Path.{◌≡◌, refl, sym, ap, subst}
use mathlib.Core.Bool.{false}
use mathlib.Core.List.{List, []}
use lib.Dec.{T}
use lib.ListN.{drop}
use Rattle.layout.specs.declared.Layout.{Layout}
use Rattle.layout.specs.Layout.{bad_layout}
use Rattle.consumer.specs.declared.Checkpoint.{Checkpoint}
use Rattle.queue.specs.History.{Event, History}
use Rattle.queue.specs.History as said
use Rattle.queue.specs.Promise.{plain, for_handed, MayFollow}
use Rattle.queue.specs.Machine.{number_of, OfKind}
use Rattle.queue.specs.Demand.{Premise, Demand3}
use Rattle.queue.proofs.Model.{Queue, start, model, next, AllOk}
use Rattle.queue.proofs.Trace.{undo_of, undo_intact_of}
use Rattle.queue.proofs.Machine.{Matches, matched, demanded, premise_drop}
use Rattle.queue.proofs.Says.{says_number, says_kind}
use Rattle.packed.specs.Calls.{ProducerCall, ConsumerCall, Call, Given, TypedProducer, TypedConsumer, TypedCall, one_of, request_of}
use Rattle.packed.specs.Calls.{submit_available, submit_available_with_notify, submit_one, submit_one_with_notify, poll_used, next_id}
use Rattle.packed.specs.Calls.{producer_asked, should_notify_since, turn_used, enable_used_desc, enable_used_for_next, producer_reset}
use Rattle.packed.specs.Calls.{poll_available, submit_used, submit_used_with_notify, peek_available, poll_checkpoint, rollback_polls}
use Rattle.packed.specs.Calls.{consumer_asked, turn_avail, enable_avail_desc, enable_avail_for_next, consumer_reset}
use Rattle.packed.specs.Calls.{by_producer, by_consumer, own, foreign}
use Rattle.packed.specs.Machine.{World, checkpoint_in, producer_values, consumer_values, packed, machine_of, FairCall, call_says, leaves, given_in}
use Rattle.packed.specs.Machine.{place_of}
use Rattle.packed.specs.Machine.{own_answer, own_exit, call_answer, call_entry, call_exit, producer_does, consumer_does}
use Rattle.packed.specs.Opening.{opened_world, machine, rules, Run, history_in, world_in, Demand}
use Rattle.packed.proofs.Invariant.{Match, Good, GoodAfter, like_unchanged}
use Rattle.packed.proofs.Polls.{poll_good, peek_good}
use Rattle.packed.proofs.Stack.{next_good}
use Rattle.packed.proofs.Reclaims.{reclaim_good}
use Rattle.packed.proofs.Submits as submits
use Rattle.packed.proofs.Completes as completes
use Rattle.packed.proofs.Rollbacks.{mark_good, roll_good}
use Rattle.packed.proofs.Asides.{producer_asked_lem, consumer_asked_lem, since_good, turn_used_good, arm_used_good, turn_avail_good, arm_avail_good}
use Rattle.packed.proofs.Asides.{producer_reset_goes, consumer_reset_goes}
use Rattle.packed.proofs.First.{laid_out, first_like}
use Rattle.packed.proofs.Refused.{own_kept, foreign_kept, foreign_leaves, not_zero, not_success}
use Rattle.packed.proofs.Valid.{own_valid, never_foreign}

module _ (l : Layout) (good : bad_layout l ≡ false) where
  abbrev size : ℕ
  size = l.size

  -- what is owed of a call that is fair, in a world that is like the queue
  producer_good :
      (w : World) (q : Queue Checkpoint) (c : ProducerCall) → TypedProducer c → Match l w q → FairCall (own (by_producer c)) (own_answer packed w (by_producer c)).number
      → Good l q (call_says packed size w (own (by_producer c))) (leaves packed w (own (by_producer c)))
  unfolding call_says leaves producer_does
  producer_good w q (submit_available c) t m f = submits.submit_good l good m.0 w q m.1 c t
  producer_good w q (submit_available_with_notify c) t m f = submits.told_good l good m.0 w q m.1 c t
  producer_good w q (submit_one a n b) t m f = submits.submit_good l good m.0 w q m.1 (one_of a n b) t
  producer_good w q (submit_one_with_notify a n b) t m f = submits.told_good l good m.0 w q m.1 (one_of a n b) t
  producer_good w q poll_used t m f = reclaim_good l good m.0 w q m.1
  producer_good w q next_id t m f = next_good l good m.0 w q m.1
  producer_good w q (producer_asked x) t m f = producer_asked_lem l good m.0 w q m.1 (producer_values x w.producer.end)
  producer_good w q (should_notify_since c) t m f = since_good l good m.0 w q m.1 c
  producer_good w q (turn_used x) t m f = turn_used_good l good m.0 w q m.1 x
  producer_good w q (enable_used_desc o b) t m f = arm_used_good l good m.0 w q m.1 o b
  producer_good w q enable_used_for_next t m f = arm_used_good l good m.0 w q m.1 w.producer.end.used.head w.producer.end.used.wrap
  producer_good w q producer_reset t m f = absurd (f (producer_reset_goes l good m.0 w q m.1))

  module _ (h : History Checkpoint) (ok : AllOk (plain size) h) where
    -- after any history that the queue allows
    after_any : (e : Event Checkpoint) (w : World) → Good l (model h) e w → GoodAfter l h (model h) e w
    after_any e w g = (g.0 h, g.1)

    consumer_good :
        (w : World) (c : ConsumerCall) → TypedConsumer c → Match l w (model h) → FairCall (own (by_consumer c)) (own_answer packed w (by_consumer c)).number
        → MayFollow (plain size) h (call_says packed size w (own (by_consumer c)))
        → GoodAfter l h (model h) (call_says packed size w (own (by_consumer c))) (leaves packed w (own (by_consumer c)))
    unfolding call_says leaves consumer_does
    consumer_good w (poll_available a b) t m f p = after_any _ _ (poll_good l good m.0 w (model h) m.1 a b)
    consumer_good w (submit_used i n) t m f p = after_any _ _ (completes.complete_good l good m.0 w (model h) m.1 i n t.0 t.1)
    consumer_good w (submit_used_with_notify i n) t m f p = after_any _ _ (completes.told_good l good m.0 w (model h) m.1 i n t.0 t.1)
    consumer_good w peek_available t m f p = after_any _ _ (peek_good l good m.0 w (model h) m.1)
    consumer_good w poll_checkpoint t m f p = after_any _ _ (mark_good l good m.0 w (model h) m.1)
    consumer_good w (rollback_polls c js) t m f p =
        roll_good l good m.0 w (model h) m.1 c js h (undo_intact_of (plain size) h ok c js)
        (λ e. undo_of (plain size) h ok c js (subst (MayFollow (plain size) h) (sym e) p))
    consumer_good w (consumer_asked x) t m f p = after_any _ _ (consumer_asked_lem l good m.0 w (model h) m.1 (consumer_values x w.consumer.end))
    consumer_good w (turn_avail x) t m f p = after_any _ _ (turn_avail_good l good m.0 w (model h) m.1 x)
    consumer_good w (enable_avail_desc o b) t m f p = after_any _ _ (arm_avail_good l good m.0 w (model h) m.1 o b)
    consumer_good w enable_avail_for_next t m f p =
        after_any _ _ (arm_avail_good l good m.0 w (model h) m.1 w.consumer.end.avail.head w.consumer.end.avail.wrap)
    consumer_good w consumer_reset t m f p = absurd (f (consumer_reset_goes l good m.0 w (model h) m.1))

    pub call_good :
        (w : World) (c : Call) → TypedCall c → Match l w (model h) → FairCall c (call_answer packed (place_of w c) c).number → MayFollow (plain size) h (call_says packed size w c)
        → GoodAfter l h (model h) (call_says packed size w c) (leaves packed w c)
    unfolding call_says
    call_good w (own (by_producer c)) t m f p = after_any _ _ (producer_good w (model h) c t m f)
    call_good w (own (by_consumer c)) t m f p = consumer_good w c t m f p
    call_good w (foreign x) t m f p =
        let n = (call_answer packed (given_in w x) (foreign x)).number in
        let e : Event Checkpoint = said.unchanged (said.foreign_answered n) in (
          tt,
          subst (λ (v : World). Match l v (next (model h) e)) (sym (foreign_leaves w x (not_zero _ f)))
              (m.0, like_unchanged l good m.0 w (model h) m.1 (said.foreign_answered n) m.1.promise),
        )

  -- every call is answered in its own kind
  pub call_kind : (w : World) (q : Queue Checkpoint) (c : Call) → Match l w q → OfKind (request_of size c) (call_says packed size w c)
  unfolding call_says
  call_kind w q (own c) m =
      says_kind checkpoint_in (request_of size (own c)) (own_answer packed w c) (own_exit packed w c).addrs (own_exit packed w c).lens (own_valid l good m.0 w q m.1 c)
  call_kind w q (foreign x) m = refl

-- a call that is refused for what it was handed leaves all that it was lent
pub call_kept : (size : ℕ) (w : World) (c : Call) → T (for_handed (number_of (call_says packed size w c))) → call_exit packed (place_of w c) c ≡ call_entry (place_of w c) c
unfolding call_says
call_kept size w (own c) t =
    own_kept w c (not_success _ (subst (λ (n : ℕ). T (for_handed n))
    (says_number checkpoint_in (request_of size (own c)) (own_answer packed w c) (own_exit packed w c).addrs (own_exit packed w c).lens) t))
call_kept size w (foreign x) t = foreign_kept (given_in w x) x (not_success _ t)

-- a foreign call that is fair leaves both ends' own and the bytes
pub call_unharmed :
    (size : ℕ) (w : World) (c : Call) → FairCall c (call_answer packed (place_of w c) c).number → (request_of size c).kind ≡ said.foreign → leaves packed w c ≡ w
call_unharmed size w (own c) f k = absurd (never_foreign size c k)
call_unharmed size w (foreign x) f k = foreign_leaves w x (not_zero _ f)

-- ---- the promise

-- two ends that are like an empty queue (Invariant.antt `Match`), in a geometry that is taken. Fresh ones are; of the bytes outside the table, and of the
-- tables' first contents, `Match` says nothing
module _ (l : Layout) (good : bad_layout l ≡ false) (w : World) (empty : Match l w start) where
  matches : Matches (machine_of packed l.size) (plain l.size) w
  matches =
      record {
        Like = Match l;
        first = empty;
        step = λ h ok v c m f p. call_good l good h ok v c.call c.typed m f p;
        kind = λ v q c m f. call_kind l good v q c.call m;
        unharmed = λ v c f k n. call_unharmed l.size v c.call f k;
        keeps = λ v c f t. call_kept l.size v c.call t;
      }

  pub demand_3_from : (cs : List Given) → Premise (machine_of packed l.size) (plain l.size) w cs → Demand3 (machine_of packed l.size) (plain l.size) w cs
  demand_3_from cs p = demanded (machine_of packed l.size) (plain l.size) w matches cs p

-- "Take two fresh ends over one zeroed ring, any mix of their calls, no reset, no other writer, each end given back its own last record and
-- tables, and each rollback using a checkpoint that its end took and undoing every poll since, with no completion between. Then ..": what
-- `Demand3` says (queue/specs/Demand.antt), of every run
pub demand_3 : Demand packed
demand_3 r = demand_3_from r.opening.geometry (laid_out r.opening) (opened_world packed r.opening) ([], first_like r.opening) r.calls r.premise

-- the invariant, at any point of a run
pub like_queue : (r : Run packed) → Match r.opening.geometry (world_in packed r) (model (history_in packed r))
unfolding matches
like_queue r =
    let o = r.opening in
    (matched (machine packed o) (rules packed o) (opened_world packed o) (matches o.geometry (laid_out o) (opened_world packed o) ([], first_like o)) r.calls r.premise).1

-- both records keep the size that was opened
pub size_stays :
    (r : Run packed)
    → ((world_in packed r).producer.end.layout.size ≡ r.opening.geometry.size) × ((world_in packed r).consumer.end.layout.size ≡ r.opening.geometry.size)
size_stays r =
    let m = (like_queue r).1 in
    (ap (λ (x : Layout). x.size) m.p_layout, ap (λ (x : Layout). x.size) m.c_layout)

-- a run without its last n calls is a run
abbrev pub begun : ℕ → Run packed → Run packed
begun n r =
    record {
      opening = r.opening;
      calls = drop n r.calls;
      premise = premise_drop (machine packed r.opening) (rules packed r.opening) (opened_world packed r.opening) n r.calls r.premise;
    }
