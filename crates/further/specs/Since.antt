-- (document 01, Notify; VIRTIO 1.1, 2.7.10) The calls after an arming, of which a notification's law speaks: nothing was published (or
-- completed) since, and the end that armed has not turned or armed its notifications again.
use Rattle.std.specs.Prelude.{List, [], ◌∷◌, ◌++◌}
use Rattle.consumer.specs.declared.Checkpoint.{Checkpoint}
use Rattle.queue.specs.History.{Event, submitted, polled, completed, reclaimed, marked, rolled, unchanged}
use Rattle.queue.specs.Machine.{world_of}
use Rattle.packed.specs.Calls.{ProducerCall, ConsumerCall, Call, Given}
use Rattle.packed.specs.Calls.{submit_available, submit_available_with_notify, submit_one, submit_one_with_notify, poll_used, next_id}
use Rattle.packed.specs.Calls.{producer_asked, should_notify_since, turn_used, enable_used_desc, enable_used_for_next, producer_reset}
use Rattle.packed.specs.Calls.{poll_available, submit_used, submit_used_with_notify, peek_available, poll_checkpoint, rollback_polls}
use Rattle.packed.specs.Calls.{consumer_asked, turn_avail, enable_avail_desc, enable_avail_for_next, consumer_reset}
use Rattle.packed.specs.Calls.{by_producer, by_consumer, own, foreign}
use Rattle.packed.specs.Machine.{packed, call_says}
use Rattle.packed.specs.Opening.{Opening, opened_world, machine}

-- no submission was accepted; no completion was
abbrev pub NotSubmitted : Event Checkpoint → Type 0
NotSubmitted (submitted x) = ⊥
NotSubmitted (polled x) = Unit
NotSubmitted (completed d) = Unit
NotSubmitted (reclaimed d) = Unit
NotSubmitted (marked c) = Unit
NotSubmitted (rolled c js) = Unit
NotSubmitted (unchanged u) = Unit

abbrev pub NotCompleted : Event Checkpoint → Type 0
NotCompleted (submitted x) = Unit
NotCompleted (polled x) = Unit
NotCompleted (completed d) = ⊥
NotCompleted (reclaimed d) = Unit
NotCompleted (marked c) = Unit
NotCompleted (rolled c js) = Unit
NotCompleted (unchanged u) = Unit

-- the consumer's notifications are not turned or armed by this call of it; the producer's are not by this call of the producer. An accepted
-- reset would enable them, and is in no run
abbrev pub OwnKeepsAvail : ConsumerCall → Type 0
OwnKeepsAvail (poll_available outs louts) = Unit
OwnKeepsAvail (submit_used i l) = Unit
OwnKeepsAvail (submit_used_with_notify i l) = Unit
OwnKeepsAvail peek_available = Unit
OwnKeepsAvail poll_checkpoint = Unit
OwnKeepsAvail (rollback_polls c js) = Unit
OwnKeepsAvail (consumer_asked q) = Unit
OwnKeepsAvail (turn_avail f) = ⊥
OwnKeepsAvail (enable_avail_desc o b) = ⊥
OwnKeepsAvail enable_avail_for_next = ⊥
OwnKeepsAvail consumer_reset = Unit

abbrev pub OwnKeepsUsed : ProducerCall → Type 0
OwnKeepsUsed (submit_available c) = Unit
OwnKeepsUsed (submit_available_with_notify c) = Unit
OwnKeepsUsed (submit_one a l b) = Unit
OwnKeepsUsed (submit_one_with_notify a l b) = Unit
OwnKeepsUsed poll_used = Unit
OwnKeepsUsed next_id = Unit
OwnKeepsUsed (producer_asked q) = Unit
OwnKeepsUsed (should_notify_since c) = Unit
OwnKeepsUsed (turn_used f) = ⊥
OwnKeepsUsed (enable_used_desc o b) = ⊥
OwnKeepsUsed enable_used_for_next = ⊥
OwnKeepsUsed producer_reset = Unit

-- a call with its answer: the producer's calls never turn or arm the consumer's notifications, nor the consumer's calls the producer's; the
-- consumer submits nothing, and the producer completes nothing; a foreign call turns and arms nothing of either end's own
abbrev pub QuietAvail : Call → Event Checkpoint → Type 0
QuietAvail (own (by_producer c)) e = NotSubmitted e
QuietAvail (own (by_consumer c)) e = OwnKeepsAvail c
QuietAvail (foreign f) e = Unit

abbrev pub QuietUsed : Call → Event Checkpoint → Type 0
QuietUsed (own (by_producer c)) e = OwnKeepsUsed c
QuietUsed (own (by_consumer c)) e = NotCompleted e
QuietUsed (foreign f) e = Unit

-- of each of the calls cs after others, THE LATEST FIRST, with what it said
abbrev pub Since : Opening packed → (Call → Event Checkpoint → Type 0) → List Given → List Given → Type 0
Since o P before [] = Unit
Since o P before (c ∷ cs) =
    Since o P before cs
    × P c.call (call_says packed o.geometry.size (world_of (machine packed o) (opened_world packed o) (cs ++ before)) c.call)

-- ---- the calls that the law speaks of

-- the consumer arms at the slot that it polls next, the producer at the one that it looks at next; a submission with the question whether to
-- notify is `tells_of`, and a completion with it `completes_told` (packed/specs/Machine.antt)
abbrev pub arm_avail : Given
arm_avail = record { call = own (by_consumer enable_avail_for_next); typed = tt }

abbrev pub arm_used : Given
arm_used = record { call = own (by_producer enable_used_for_next); typed = tt }
