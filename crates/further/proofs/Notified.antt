-- An end that armed at its next slot while nothing was there for it is told of the next batch, whatever was called since: notifications in a run.
-- Assumes nothing.
use Prim.Native.Nat.{ℕ, ◌<◌}
use mathlib.Core.Path.{◌≡◌, refl, sym, ap, ◌∙◌, subst}
use mathlib.Core.Logic.{inl, inr}
use mathlib.Core.Bool.{true, false}
use mathlib.Core.List.{List, [], ◌∷◌, ◌++◌}
use native.Mathlib.Omega.{arith}
use lib.Dec.{eqb}
use lib.ListN.{length, length-append}
use Rattle.base.specs.Answer.{Answer, done, refused}
use Rattle.base.specs.Bytes.{get_of}
use Rattle.base.proofs.Tests.{by_eq, chosen}
use Rattle.cursor.specs.declared.RingCursor.{RingCursor}
use Rattle.layout.specs.declared.Layout.{Layout}
use Rattle.layout.specs.Layout.{bad_layout}
use Rattle.layout.proofs.Laws.{Apart, laid, within}
use Rattle.event.specs.Event.{DESC}
use Rattle.undo.specs.Undo.{cleared_of}
use Rattle.ring.specs.Slots.{slot_of}
use Rattle.ring.specs.Events.{armed}
use Rattle.ring.proofs.Frames.{EventAlone, turned_alone, armed_alone}
use Rattle.producer.specs.declared.RingProducer.{RingProducer}
use Rattle.producer.specs.Record as made_record
use Rattle.producer.specs.Outcome as made
use Rattle.producer.specs.Submit.{submit_refusal}
use Rattle.producer.specs.Poll as used_poll
use Rattle.producer.specs.Notices as used_notices
use Rattle.producer.proofs.Notices as used_laws
use Rattle.producer.proofs.Poll as poll_laws
use Rattle.producer.proofs.Frame.{slot_in_table}
use Rattle.producer.proofs.Submit.{submit_refused}
use Rattle.producer.proofs.Ready as made_ready
use Rattle.producer.proofs.Touch as makes
use Rattle.producer.proofs.Goes as made_goes
use Rattle.consumer.specs.declared.RingConsumer.{RingConsumer}
use Rattle.consumer.specs.declared.Checkpoint.{Checkpoint}
use Rattle.consumer.specs.Record as taken_record
use Rattle.consumer.specs.Outcome as taken
use Rattle.consumer.specs.Poll as avail_poll
use Rattle.consumer.specs.Complete.{complete_refusal}
use Rattle.consumer.specs.Rollback.{back_of, rollback_refusal, rollback_of}
use Rattle.consumer.specs.Notices as avail_notices
use Rattle.consumer.proofs.Notices as avail_laws
use Rattle.consumer.proofs.Complete.{complete_ready, complete_refused}
use Rattle.consumer.proofs.Ready as taken_ready
use Rattle.consumer.proofs.Touch as takes
use Rattle.consumer.proofs.Goes as taken_goes
use Rattle.queue.specs.History.{Chain, Item, Event, History, comps, reclaims, waiting}
use Rattle.queue.specs.History as said
use Rattle.queue.specs.Machine.{world_of, history_of}
use Rattle.queue.specs.Demand.{Premise}
use Rattle.queue.specs.Says.{value}
use Rattle.queue.proofs.Model.{Queue, next, model, AllOk}
use Rattle.queue.proofs.Trace.{Link, link, allowed, waiting_is}
use Rattle.queue.proofs.Machine.{premise_before}
use Rattle.queue.proofs.Says.{says_accepted}
use Rattle.packed.specs.Calls.{ProducerCall, ConsumerCall, Own, Call, Given, TypedChain, one_of, asks, valid_chain}
use Rattle.packed.specs.Calls.{submit_available, submit_available_with_notify, submit_one, submit_one_with_notify, poll_used, next_id}
use Rattle.packed.specs.Calls.{producer_asked, should_notify_since, turn_used, enable_used_desc, enable_used_for_next, producer_reset}
use Rattle.packed.specs.Calls.{poll_available, submit_used, submit_used_with_notify, peek_available, poll_checkpoint, rollback_polls}
use Rattle.packed.specs.Calls.{consumer_asked, turn_avail, enable_avail_desc, enable_avail_for_next, consumer_reset}
use Rattle.packed.specs.Calls.{by_producer, by_consumer, own, foreign}
use Rattle.packed.specs.Machine.{World, Lendings, packed, checkpoint_in, own_answer, call_answer, place_of, FairCall, call_says, leaves, producer_does}
use Rattle.packed.specs.Machine.{consumer_does}
use Rattle.packed.specs.Machine.{submits_of, tells_of, reclaims_of, polls_of, completes_of, completes_told, rolls_of}
use Rattle.packed.specs.Opening.{Opening, opened_world, machine, rules, Run, history_in, world_in}
use Rattle.packed.proofs.Answers.{says_submitted, says_completed, after_made, after_used_turn, after_avail_turn, after_taken, after_completed, after_rolled}
use Rattle.packed.proofs.Position.{pos}
use Rattle.packed.proofs.Counts.{Used, of_items, of_used, dones, tot}
use Rattle.packed.proofs.Invariant.{Like, Match, c_sound, c_whole, p_sound, p_whole}
use Rattle.packed.proofs.First.{laid_out}
use Rattle.packed.proofs.Packed.{demand_3, like_queue}
use Rattle.packed.proofs.Submits.{submit_good}
use Rattle.packed.proofs.Refused.{own_kept, foreign_leaves, not_zero}
use Rattle.further.specs.Since.{NotSubmitted, NotCompleted, OwnKeepsAvail, OwnKeepsUsed, QuietAvail, QuietUsed, Since, arm_avail, arm_used}
use Rattle.further.proofs.Told.{Awaits, awaits_same, armed_awaits, submit_told, submit_since, complete_told}

-- a call that is fair to make in this world
abbrev Fair : World → Call → Type 0
Fair w c = FairCall c (call_answer packed (place_of w c) c).number

-- ---- a stretch of calls keeps what each of them keeps

module _ (o : Opening packed) (P : World → Type 0) (Calm : Call → Event Checkpoint → Type 0)
    (step : (w : World) (q : Queue Checkpoint) → Match o.geometry w q → (c : Call) → Fair w c → Calm c (call_says packed o.geometry.size w c)
    → P w → P (leaves packed w c)) where
  stretch :
      (before cs : List Given) → Premise (machine packed o) (rules packed o) (opened_world packed o) (cs ++ before) → Since o Calm before cs
      → P (world_of (machine packed o) (opened_world packed o) before) → P (world_of (machine packed o) (opened_world packed o) (cs ++ before))
  unfolding world_of history_of
  stretch before [] a s p = p
  stretch before (c ∷ cs) a s p =
      let b : Premise (machine packed o) (rules packed o) (opened_world packed o) (cs ++ before) = record { fair = a.fair.0; rollbacks = a.rollbacks.0 } in
      let r : Run packed = record { opening = o; calls = cs ++ before; premise = b } in
      step (world_in packed r) (model (history_in packed r)) (like_queue r) c.call a.fair.1 s.1 (stretch before cs b s.0 p)

-- ---- refused where nothing was submitted, or completed

not_submitted : (c : Chain) (a : Answer) → NotSubmitted (says_submitted c a) → a.number ≡ 0 → ⊥
not_submitted c a n z = subst NotSubmitted (says_accepted checkpoint_in (asks (said.submit c) (valid_chain c)) a [] [] z) n

not_completed : (i l : ℕ) (a : Answer) → NotCompleted (says_completed i l a) → a.number ≡ 0 → ⊥
not_completed i l a n z =
    subst NotCompleted (says_accepted checkpoint_in (asks (said.complete (record { id = i; len = l })) true) a [] [] z) n

-- ---- what each call keeps: the cursor that the other end's arming is about, and the bytes of that event area

module _ (cursor : World → RingCursor) (place : ℕ) (w v : World) where
  abbrev Keeps : Type 0
  Keeps = (cursor v ≡ cursor w) × (get_of v.ring place 4 ≡ get_of w.ring place 4)

  keeps_same : v ≡ w → Keeps
  keeps_same e = (ap cursor e, ap (λ (x : World). get_of x.ring place 4) e)

  keeps_awaits : Keeps → Awaits place (cursor w) w.ring → Awaits place (cursor v) v.ring
  keeps_awaits k a =
      subst (λ (x : RingCursor). Awaits place x v.ring) (sym k.0) (awaits_same place (cursor w) w.ring v.ring k.1 a)

abbrev avail_of : World → RingCursor
avail_of w = w.producer.end.avail

abbrev used_of : World → RingCursor
used_of w = w.consumer.end.used

module _ (l : Layout) (good : bad_layout l ≡ false) (w : World) (p_layout : w.producer.end.layout ≡ l) (c_layout : w.consumer.end.layout ≡ l) where
  -- the two ends, and their tables
  abbrev prod : RingProducer
  prod = w.producer.end

  abbrev cons : RingConsumer
  cons = w.consumer.end

  abbrev ids : List ℕ
  ids = w.producer.ids

  abbrev counts : List ℕ
  counts = w.producer.counts

  abbrev held : List ℕ
  held = w.consumer.counts

  abbrev KeepsAvail : World → Type 0
  KeepsAvail v = Keeps avail_of l.device w v

  abbrev KeepsUsed : World → Type 0
  KeepsUsed v = Keeps used_of l.driver w v

  avail_same : (v : World) → v ≡ w → KeepsAvail v
  avail_same = keeps_same avail_of l.device w

  used_same : (v : World) → v ≡ w → KeepsUsed v
  used_same = keeps_same used_of l.driver w

  -- the producer's notifications, and the consumer's
  notice_used :
      (f : ℕ) (r : List ℕ) → EventAlone prod.layout.driver w.ring r → KeepsAvail (after_used_turn w (used_notices.notice_of prod w.ring f r))
  unfolding used_notices.notice_of used_notices.shadow_of
  notice_used f r a =
      let no = made_record.bytes_refusal prod (length w.ring) in
      chosen (λ (x : made.Changed). KeepsAvail (after_used_turn w x)) (eqb no 0)
      (made.changed (done []) (used_notices.shadow_of prod f) r) (made.changed (refused no) prod w.ring)
      (refl, a.clear l.device 4 (rw p_layout (laid l good).driver_device)) (refl, refl)

  notice_avail :
      (f : ℕ) (r : List ℕ) → EventAlone cons.layout.device w.ring r → KeepsUsed (after_avail_turn w (avail_notices.notice_of cons w.ring f r))
  unfolding avail_notices.notice_of avail_notices.shadow_of
  notice_avail f r a =
      let no = taken_record.bytes_refusal cons (length w.ring) in
      chosen (λ (x : taken.Changed). KeepsUsed (after_avail_turn w x)) (eqb no 0)
      (taken.changed (done []) (avail_notices.shadow_of cons f) r) (taken.changed (refused no) cons w.ring)
      (refl, a.clear l.driver 4 (rw c_layout (apart_other (laid l good).driver_device))) (refl, refl)
    where
      apart_other : Apart l.driver 4 l.device 4 → Apart l.device 4 l.driver 4
      apart_other (inl h) = inr h
      apart_other (inr h) = inl h

  -- poll_used changes no byte and not the avail cursor
  abbrev reclaim_no : ℕ
  reclaim_no = used_poll.poll_refusal prod (length w.ring) (slot_of prod.layout.table prod.used w.ring) (length ids) counts

  reclaim_avail : KeepsAvail (after_made w (reclaims_of w.producer w.ring))
  unfolding used_poll.polled_of used_poll.freed_of
  reclaim_avail =
      by_eq reclaim_no 0
      (λ z.
      let e = poll_laws.poll_done prod w.ring ids counts z in
      (ap (λ (x : made.Outcome). x.end.avail) e, ap (λ (x : made.Outcome). get_of x.ring l.device 4) e))
      (λ z. avail_same _ (ap (after_made w) (poll_laws.poll_refused prod w.ring ids counts z)))

  reclaim_used : KeepsUsed (after_made w (reclaims_of w.producer w.ring))
  unfolding used_poll.polled_of used_poll.freed_of
  reclaim_used =
      by_eq reclaim_no 0
      (λ z. (refl, ap (λ (x : made.Outcome). get_of x.ring l.driver 4) (poll_laws.poll_done prod w.ring ids counts z)))
      (λ z. used_same _ (ap (after_made w) (poll_laws.poll_refused prod w.ring ids counts z)))

  -- a poll and a rollback, not the used cursor
  poll_used_lem : (outs louts : List ℕ) → KeepsUsed (after_taken w (polls_of w.consumer w.ring outs louts))
  unfolding avail_poll.poll_of avail_poll.polled_of avail_poll.past_of
  poll_used_lem outs louts =
      let no = avail_poll.poll_refusal cons w.ring held (length outs) (length louts) in
      chosen (λ (x : avail_poll.Taken). KeepsUsed (after_taken w x)) (eqb no 0)
      (avail_poll.polled_of cons w.ring (avail_poll.head_of cons w.ring).id (avail_poll.walked_of cons w.ring) held outs louts)
      (avail_poll.taken (refused no) cons held outs louts) (refl, refl) (refl, refl)

  roll_used : (c : Checkpoint) (js : List ℕ) → KeepsUsed (after_rolled w (rolls_of w.consumer c js))
  unfolding rollback_of back_of
  roll_used c js =
      let no = rollback_refusal cons held c js in
      chosen (λ (x : taken.Rolled). KeepsUsed (after_rolled w x)) (eqb no 0)
      (taken.rolled (done []) (back_of cons c) (cleared_of held js)) (taken.rolled (refused no) cons held) (refl, refl) (refl, refl)

  -- a completion writes a slot, and so does a submission
  complete_avail : (i n : ℕ) → KeepsAvail (after_completed w (completes_of w.consumer w.ring i n))
  complete_avail i n =
      by_eq (complete_refusal cons (length w.ring) i held) 0
      (λ z.
      let r = complete_ready cons (length w.ring) i held z in (
        refl,
        takes.complete_clear cons w.ring held i n z l.device 4
            (slot_in_table cons.layout cons.used l.device 4 r.sound.used (rw c_layout (laid l good).table_device)),
      ))
      (λ z. avail_same _ (ap (after_completed w) (complete_refused cons w.ring held i n z)))

  submit_used_lem : (c : Chain) → KeepsUsed (after_made w (submits_of w.producer w.ring c))
  submit_used_lem c =
      by_eq (submit_refusal prod (length w.ring) ids counts (length c.addrs) (length c.lens) c.readable) 0
      (λ z. (refl, makes.submit_clear prod w.ring ids counts c.addrs c.lens c.readable z l.driver 4 (rw p_layout (laid l good).table_driver)))
      (λ z. used_same _ (ap (after_made w) (submit_refused prod w.ring ids counts c.addrs c.lens c.readable z)))

  -- ---- every call that is quiet

  -- a call of an end given its own that is refused leaves the world
  refused_leaves : (c : Own) → ((own_answer packed w c).number ≡ 0 → ⊥) → leaves packed w (own c) ≡ w
  unfolding leaves
  refused_leaves (by_producer c) h = ap (λ (x : Lendings). x.world) (own_kept w (by_producer c) h)
  refused_leaves (by_consumer c) h = ap (λ (x : Lendings). x.world) (own_kept w (by_consumer c) h)

  module _ (size : ℕ) where
    producer_avail :
        (c : ProducerCall) → Fair w (own (by_producer c)) → NotSubmitted (call_says packed size w (own (by_producer c)))
        → KeepsAvail (leaves packed w (own (by_producer c)))
    unfolding call_says leaves producer_does
    producer_avail (submit_available c) f n = avail_same _ (refused_leaves (by_producer (submit_available c)) (not_submitted c (submits_of w.producer w.ring c).answer n))
    producer_avail (submit_available_with_notify c) f n =
        avail_same _ (refused_leaves (by_producer (submit_available_with_notify c)) (not_submitted c (tells_of w.producer w.ring c).answer n))
    producer_avail (submit_one a m b) f n =
        let c = one_of a m b in
        avail_same _ (refused_leaves (by_producer (submit_one a m b)) (not_submitted c (submits_of w.producer w.ring c).answer n))
    producer_avail (submit_one_with_notify a m b) f n =
        let c = one_of a m b in
        avail_same _ (refused_leaves (by_producer (submit_one_with_notify a m b)) (not_submitted c (tells_of w.producer w.ring c).answer n))
    producer_avail poll_used f n = reclaim_avail
    producer_avail next_id f n = (refl, refl)
    producer_avail (producer_asked q) f n = (refl, refl)
    producer_avail (should_notify_since c) f n = (refl, refl)
    producer_avail (turn_used x) f n = notice_used x _ (turned_alone prod.layout.driver w.ring prod.shadow x)
    producer_avail (enable_used_desc o b) f n = notice_used DESC _ (armed_alone prod.layout.driver w.ring o b)
    producer_avail enable_used_for_next f n =
        notice_used DESC _ (armed_alone prod.layout.driver w.ring prod.used.head prod.used.wrap)
    producer_avail producer_reset f n = avail_same _ (refused_leaves (by_producer producer_reset) f)

    consumer_used :
        (c : ConsumerCall) → Fair w (own (by_consumer c)) → NotCompleted (call_says packed size w (own (by_consumer c)))
        → KeepsUsed (leaves packed w (own (by_consumer c)))
    unfolding call_says leaves consumer_does
    consumer_used (poll_available a b) f n = poll_used_lem a b
    consumer_used (submit_used i m) f n =
        used_same _ (refused_leaves (by_consumer (submit_used i m)) (not_completed i m (completes_of w.consumer w.ring i m).answer n))
    consumer_used (submit_used_with_notify i m) f n =
        used_same _ (refused_leaves (by_consumer (submit_used_with_notify i m)) (not_completed i m (completes_told w.consumer w.ring i m).answer n))
    consumer_used peek_available f n = (refl, refl)
    consumer_used poll_checkpoint f n = (refl, refl)
    consumer_used (rollback_polls c js) f n = roll_used c js
    consumer_used (consumer_asked q) f n = (refl, refl)
    consumer_used (turn_avail x) f n = notice_avail x _ (turned_alone cons.layout.device w.ring cons.shadow x)
    consumer_used (enable_avail_desc o b) f n = notice_avail DESC _ (armed_alone cons.layout.device w.ring o b)
    consumer_used enable_avail_for_next f n =
        notice_avail DESC _ (armed_alone cons.layout.device w.ring cons.avail.head cons.avail.wrap)
    consumer_used consumer_reset f n = used_same _ (refused_leaves (by_consumer consumer_reset) f)

  consumer_avail : (c : ConsumerCall) → Fair w (own (by_consumer c)) → OwnKeepsAvail c → KeepsAvail (leaves packed w (own (by_consumer c)))
  unfolding leaves consumer_does
  consumer_avail (poll_available a b) f s = (refl, refl)
  consumer_avail (submit_used i m) f s = complete_avail i m
  consumer_avail (submit_used_with_notify i m) f s =
      subst KeepsAvail (sym (ap (after_completed w) (taken_goes.tell_leaves cons.used (completes_of w.consumer w.ring i m)))) (complete_avail i m)
  consumer_avail peek_available f s = (refl, refl)
  consumer_avail poll_checkpoint f s = (refl, refl)
  consumer_avail (rollback_polls c js) f s = (refl, refl)
  consumer_avail (consumer_asked q) f s = (refl, refl)
  consumer_avail (turn_avail x) f s = absurd s
  consumer_avail (enable_avail_desc o b) f s = absurd s
  consumer_avail enable_avail_for_next f s = absurd s
  consumer_avail consumer_reset f s = avail_same _ (refused_leaves (by_consumer consumer_reset) f)

  producer_used : (c : ProducerCall) → Fair w (own (by_producer c)) → OwnKeepsUsed c → KeepsUsed (leaves packed w (own (by_producer c)))
  unfolding leaves producer_does
  producer_used (submit_available c) f s = submit_used_lem c
  producer_used (submit_available_with_notify c) f s =
      subst KeepsUsed (sym (ap (after_made w) (made_goes.tell_leaves prod.avail (submits_of w.producer w.ring c)))) (submit_used_lem c)
  producer_used (submit_one a m b) f s = submit_used_lem (one_of a m b)
  producer_used (submit_one_with_notify a m b) f s =
      let c = one_of a m b in
      subst KeepsUsed (sym (ap (after_made w) (made_goes.tell_leaves prod.avail (submits_of w.producer w.ring c)))) (submit_used_lem c)
  producer_used poll_used f s = reclaim_used
  producer_used next_id f s = (refl, refl)
  producer_used (producer_asked q) f s = (refl, refl)
  producer_used (should_notify_since c) f s = (refl, refl)
  producer_used (turn_used x) f s = absurd s
  producer_used (enable_used_desc o b) f s = absurd s
  producer_used enable_used_for_next f s = absurd s
  producer_used producer_reset f s = used_same _ (refused_leaves (by_producer producer_reset) f)

-- ---- in a run

none_owed : (ret : List Used) → length (dones ret) ≡ 0 → tot (of_used ret) ≡ 0
none_owed [] e = refl
none_owed (u ∷ us) e = absurd (omega (arith, e))

module _ (o : Opening packed) where
  abbrev l : Layout
  l = o.geometry

  abbrev size : ℕ
  size = l.size

  abbrev history_after : List Given → History Checkpoint
  history_after cs = history_of (machine packed o) (opened_world packed o) cs

  abbrev world_after : List Given → World
  world_after cs = world_of (machine packed o) (opened_world packed o) cs

  -- what is asked of these calls
  abbrev Fairly : List Given → Type 0
  Fairly cs = Premise (machine packed o) (rules packed o) (opened_world packed o) cs

  fairly_before : (cs before : List Given) (c : Given) → Fairly (cs ++ (c ∷ before)) → Fairly before
  fairly_before cs before c a =
      premise_before (machine packed o) (rules packed o) (opened_world packed o) (c ∷ []) before
      (premise_before (machine packed o) (rules packed o) (opened_world packed o) cs (c ∷ before) a)

  avail_step :
      (w : World) (q : Queue Checkpoint) → Match l w q → (c : Call) → Fair w c → QuietAvail c (call_says packed size w c)
      → Awaits l.device w.producer.end.avail w.ring → Awaits l.device (leaves packed w c).producer.end.avail (leaves packed w c).ring
  avail_step w q m (own (by_producer c)) f s a =
      keeps_awaits avail_of l.device w (leaves packed w (own (by_producer c)))
      (producer_avail l (laid_out o) w m.1.p_layout m.1.c_layout size c f s) a
  avail_step w q m (own (by_consumer c)) f s a =
      keeps_awaits avail_of l.device w (leaves packed w (own (by_consumer c)))
      (consumer_avail l (laid_out o) w m.1.p_layout m.1.c_layout c f s) a
  avail_step w q m (foreign x) f s a =
      subst (λ (v : World). Awaits l.device v.producer.end.avail v.ring) (sym (foreign_leaves w x (not_zero _ f))) a

  used_step :
      (w : World) (q : Queue Checkpoint) → Match l w q → (c : Call) → Fair w c → QuietUsed c (call_says packed size w c)
      → Awaits l.driver w.consumer.end.used w.ring → Awaits l.driver (leaves packed w c).consumer.end.used (leaves packed w c).ring
  used_step w q m (own (by_producer c)) f s a =
      keeps_awaits used_of l.driver w (leaves packed w (own (by_producer c)))
      (producer_used l (laid_out o) w m.1.p_layout m.1.c_layout c f s) a
  used_step w q m (own (by_consumer c)) f s a =
      keeps_awaits used_of l.driver w (leaves packed w (own (by_consumer c)))
      (consumer_used l (laid_out o) w m.1.p_layout m.1.c_layout size c f s) a
  used_step w q m (foreign x) f s a =
      subst (λ (v : World). Awaits l.driver v.consumer.end.used v.ring) (sym (foreign_leaves w x (not_zero _ f))) a

  -- armed while nothing waits, at the slot that the other end fills next
  module _ (before : List Given) (a : Fairly before) where
    abbrev r : Run packed
    r = record { opening = o; calls = before; premise = a }

    abbrev w : World
    w = world_in packed r

    k : Like l (like_queue r).0 w (model (history_in packed r))
    k = (like_queue r).1

    ok : AllOk (rules packed o) (history_in packed r)
    ok = allowed (rules packed o) (history_in packed r) (demand_3 r).answers

    linked : Link (history_in packed r) (model (history_in packed r))
    linked = link (rules packed o) (history_in packed r) ok

    meet_avail : waiting (history_after before) ≡ [] → w.consumer.end.avail ≡ w.producer.end.avail
    meet_avail e =
        let n : (model (history_in packed r)).waiting ≡ [] = sym (waiting_is (rules packed o) (history_in packed r) ok) ∙ e in
        k.c_avail ∙ ap (pos size) (omega (arith, k.pa_is, ap (λ (x : List Item). tot (of_items x)) n)) ∙ sym k.p_avail

    meet_used : comps (history_after before) ≡ reclaims (history_after before) → w.producer.end.used ≡ w.consumer.end.used
    meet_used e =
        let n : length (model (history_in packed r)).done ≡ 0 =
        omega (arith, ap length (sym e ∙ linked.given), length-append (reclaims (history_in packed r)) (model (history_in packed r)).done) in
        k.p_used ∙ ap (pos size) (omega (arith, k.cu_is, none_owed (like_queue r).0 (ap length (sym k.dones_are) ∙ n))) ∙ sym k.c_used

    abbrev with_avail : World
    with_avail = leaves packed w (own (by_consumer enable_avail_for_next))

    abbrev with_used : World
    with_used = leaves packed w (own (by_producer enable_used_for_next))

    arm_avail_lem : waiting (history_after before) ≡ [] → Awaits l.device with_avail.producer.end.avail with_avail.ring
    unfolding leaves consumer_does
    arm_avail_lem e =
        let sound = c_sound l (laid_out o) (like_queue r).0 w (model (history_in packed r)) k in
        let whole = c_whole l (laid_out o) (like_queue r).0 w (model (history_in packed r)) k in
        let s = taken_ready.sound w.consumer.end sound in
        let c = w.consumer.end.avail in
        let bytes = armed w.consumer.end.layout.device c.head c.wrap w.ring in
        let z = taken_goes.bytes_goes w.consumer.end (length w.ring) sound whole in
        let there : (avail_notices.arm_of w.consumer.end w.ring c.head c.wrap).ring ≡ bytes =
        ap (λ (x : taken.Changed). x.ring) (avail_laws.notice_done w.consumer.end w.ring DESC bytes z) in
        subst (λ (x : List ℕ). Awaits l.device w.producer.end.avail x) (sym there)
        (subst (λ (x : RingCursor). Awaits l.device x bytes) (meet_avail e)
        (subst (λ (m : Layout). Awaits m.device c bytes) k.c_layout
        (armed_awaits w.consumer.end.layout.device c w.ring (within w.consumer.end.layout (length w.ring) whole).device
        (omega (arith, s.avail, s.laid.high)))))

    arm_used_lem : comps (history_after before) ≡ reclaims (history_after before) → Awaits l.driver with_used.consumer.end.used with_used.ring
    unfolding leaves producer_does
    arm_used_lem e =
        let sound = p_sound l (laid_out o) (like_queue r).0 w (model (history_in packed r)) k in
        let whole = p_whole l (laid_out o) (like_queue r).0 w (model (history_in packed r)) k in
        let s = made_ready.sound w.producer.end sound in
        let c = w.producer.end.used in
        let bytes = armed w.producer.end.layout.driver c.head c.wrap w.ring in
        let z = made_goes.bytes_goes w.producer.end (length w.ring) sound whole in
        let there : (used_notices.arm_of w.producer.end w.ring c.head c.wrap).ring ≡ bytes =
        ap (λ (x : made.Changed). x.ring) (used_laws.notice_done w.producer.end w.ring DESC bytes z) in
        subst (λ (x : List ℕ). Awaits l.driver w.consumer.end.used x) (sym there)
        (subst (λ (x : RingCursor). Awaits l.driver x bytes) (meet_used e)
        (subst (λ (m : Layout). Awaits m.driver c bytes) k.p_layout
        (armed_awaits w.producer.end.layout.driver c w.ring (within w.producer.end.layout (length w.ring) whole).driver
        (omega (arith, s.used, s.laid.high)))))

  -- ---- the law, for both ends

  -- after the consumer's arming at its next slot while no chain waits, with nothing published since
  module _ (before cs : List Given) (a : Fairly (cs ++ (arm_avail ∷ before))) (none : waiting (history_after before) ≡ [])
      (since : Since o QuietAvail (arm_avail ∷ before) cs) where
    abbrev v : World
    v = world_after (cs ++ (arm_avail ∷ before))

    avail_like : Match l v (model (history_after (cs ++ (arm_avail ∷ before))))
    avail_like = like_queue (record { opening = o; calls = cs ++ (arm_avail ∷ before); premise = a })

    avail_awaits : Awaits v.producer.end.layout.device v.producer.end.avail v.ring
    unfolding world_of
    avail_awaits =
        subst (λ (x : Layout). Awaits x.device v.producer.end.avail v.ring) (sym avail_like.1.p_layout)
        (stretch o (λ (x : World). Awaits l.device x.producer.end.avail x.ring) QuietAvail avail_step (arm_avail ∷ before) cs a since
        (arm_avail_lem before (fairly_before cs before arm_avail a) none))

    -- a submission in that world, and one with the question whether to notify
    abbrev submits : Chain → made.Outcome
    submits c = submits_of v.producer v.ring c

    abbrev tells : Chain → made.Outcome
    tells c = tells_of v.producer v.ring c

    -- a submission with the question whether to notify that is accepted and does not wrap (its avail cursor's head rises) answers yes, after
    -- its ID
    pub told_of_submission :
        (c : Chain) → (tells c).answer.number ≡ 0 → v.producer.end.avail.head < (tells c).end.avail.head → value 1 (tells c).answer ≡ 1
    told_of_submission c e up =
        let t = made_goes.tell_leaves v.producer.end.avail (submits c) in
        submit_told v.producer.end v.ring v.producer.ids v.producer.counts c.addrs c.lens c.readable avail_awaits
        (sym (made_goes.tell_number v.producer.end.avail (submits c)) ∙ e)
        (omega (arith, up, ap (λ (x : made.Outcome). x.end.avail.head) t))

    -- where it was made without that question, should_notify_since says yes after it, asked with the avail cursor before it
    pub told_since :
        (c : Chain) → TypedChain c → (submits c).answer.number ≡ 0 → v.producer.end.avail.head < (submits c).end.avail.head
        → used_notices.since_of (submits c).end (submits c).ring v.producer.end.avail ≡ done (1 ∷ [])
    told_since c typed e up =
        let q : Queue Checkpoint = model (history_after (cs ++ (arm_avail ∷ before))) in
        let b = (submit_good l (laid_out o) avail_like.0 v q avail_like.1 c typed).1 in
        let x : World = after_made v (submits c) in
        let y : Queue Checkpoint = next q (says_submitted c (submits c).answer) in
        submit_since v.producer.end v.ring v.producer.ids v.producer.counts c.addrs c.lens c.readable avail_awaits e up
        (p_sound l (laid_out o) b.0 x y b.1) (p_whole l (laid_out o) b.0 x y b.1)

  -- after the producer's arming at its next slot while no completion is owed to it, with nothing completed since
  module _ (before cs : List Given) (a : Fairly (cs ++ (arm_used ∷ before)))
      (none : comps (history_after before) ≡ reclaims (history_after before)) (since : Since o QuietUsed (arm_used ∷ before) cs) where
    abbrev u : World
    u = world_after (cs ++ (arm_used ∷ before))

    used_like : Match l u (model (history_after (cs ++ (arm_used ∷ before))))
    used_like = like_queue (record { opening = o; calls = cs ++ (arm_used ∷ before); premise = a })

    used_awaits : Awaits u.consumer.end.layout.driver u.consumer.end.used u.ring
    unfolding world_of
    used_awaits =
        subst (λ (x : Layout). Awaits x.driver u.consumer.end.used u.ring) (sym used_like.1.c_layout)
        (stretch o (λ (x : World). Awaits l.driver x.consumer.end.used x.ring) QuietUsed used_step (arm_used ∷ before) cs a since
        (arm_used_lem before (fairly_before cs before arm_used a) none))

    -- a completion in that world with the question whether to notify
    abbrev told : ℕ → ℕ → taken.Outcome
    told id len = completes_told u.consumer u.ring id len

    -- a completion with the question whether to notify that is accepted and does not wrap answers yes
    pub told_of_completion :
        (id len : ℕ) → (told id len).answer.number ≡ 0 → u.consumer.end.used.head < (told id len).end.used.head
        → value 0 (told id len).answer ≡ 1
    told_of_completion id len e up =
        let x = completes_of u.consumer u.ring id len in
        let t = taken_goes.tell_leaves u.consumer.end.used x in
        complete_told u.consumer.end u.ring u.consumer.counts id len used_awaits
        (sym (taken_goes.tell_number u.consumer.end.used x) ∙ e)
        (omega (arith, up, ap (λ (y : taken.Outcome). y.end.used.head) t))
