-- A history of seventy-nine calls on a ring of three slots, computed over bytes, in which every call of both ends stands. It meets every
-- premise of demand 3, which is applied to it (its sentences, each at a point of it: Applied.antt and Shown.antt; what the calls left: Left.antt).
-- Assumes nothing.
use mathlib.Core.Path.{◌≡◌, refl, sym, subst}
use mathlib.Core.List.{List, [], ◌∷◌}
use mathlib.Core.Bool.{true, false}
use native.Mathlib.Omega.{arith}
use Rattle.cursor.specs.Cursor.{at}
use Rattle.layout.specs.Layout.{layout}
use Rattle.producer.specs.declared.RingProducer.{RingProducer}
use Rattle.consumer.specs.declared.RingConsumer.{RingConsumer}
use Rattle.consumer.specs.declared.Checkpoint.{Checkpoint}
use Rattle.queue.specs.History.{Item, History, polls, comps, standing}
use Rattle.queue.specs.History as said
use Rattle.queue.specs.Promise.{Undoes, UndoesIntact, Rules, Each, MayFollow}
use Rattle.queue.specs.Machine.{Machine, history_of, FairCalls}
use Rattle.queue.specs.Demand.{Premise, Demand3}
use Rattle.packed.specs.Calls.{Foreign, Given, one_of, submit_available_with_notify, submit_one_with_notify, poll_used, next_id}
use Rattle.packed.specs.Calls.{producer_asked, producer_num_free, should_notify_since, turn_used, enable_used_desc, enable_used_for_next, producer_reset}
use Rattle.packed.specs.Calls.{poll_available, submit_used_with_notify, peek_available, poll_checkpoint, rollback_polls, consumer_asked, consumer_is_full}
use Rattle.packed.specs.Calls.{turn_avail, enable_avail_desc, enable_avail_for_next, consumer_reset}
use Rattle.packed.specs.Calls.{its, another, to_producer, to_consumer, new_producer, new_consumer}
use Rattle.packed.specs.Machine.{packed}
use Rattle.packed.specs.Opening.{machine, rules, Run}
use Rattle.packed.proofs.Packed.{demand_3}
use Rattle.history.proofs.Computing.{computing}
use Rattle.history.proofs.Ends.{zeros, geometry_of, three, world_three, typed, nothing_asked}
use Rattle.history.proofs.Ends.{makes, takes, strays, item, done, chain, checkpoint, submits, submits_one, completes, ids_fit, polls_for}

-- the ring of three slots as a machine, and what is asked of its callers
abbrev pub machine_three : Machine Checkpoint
machine_three = machine packed three

abbrev pub rules_three : Rules Checkpoint
rules_three = rules packed three

-- ---- the chains, their IDs, and their completions

-- two elements, the first readable; one writable; three of one element each; three elements, two readable; three of one element each
abbrev pub a : Item
a = item 2 (chain (4096 ∷ 8192 ∷ []) (16 ∷ 32 ∷ []) 1)

abbrev pub b : Item
b = item 1 (one_of 12288 64 true)

abbrev pub c : Item
c = item 2 (one_of 16384 1 false)

abbrev pub d : Item
d = item 1 (one_of 20480 2 false)

abbrev pub e : Item
e = item 0 (one_of 24576 3 true)

abbrev pub f : Item
f = item 1 (chain (28672 ∷ 32768 ∷ 36864 ∷ []) (50 ∷ 60 ∷ 70 ∷ []) 2)

abbrev pub g : Item
g = item 1 (one_of 40960 4 true)

abbrev pub h : Item
h = item 2 (one_of 45056 5 false)

abbrev pub i : Item
i = item 0 (one_of 49152 6 true)

-- the three checkpoints that are taken
abbrev pub c0 : Checkpoint
c0 = checkpoint (at 0 true) (at 0 true) 0

abbrev pub c1 : Checkpoint
c1 = checkpoint (at 0 false) (at 0 true) 3

abbrev pub c2 : Checkpoint
c2 = checkpoint (at 0 false) (at 0 false) 0

-- ---- the calls, numbered, and what they answer: THE LATEST FIRST, so each list is read from below

-- 1 to 6: next_id; peek_available; poll_available; a is submitted; a submission with one address and no length; peek_available
abbrev pub calls_1 : List Given
calls_1 =
    takes peek_available tt
    ∷ submits (chain (4096 ∷ []) [] 0) refl refl
    ∷ submits a.chain refl refl
    ∷ polls_for 3
    ∷ takes peek_available tt
    ∷ makes next_id tt
    ∷ []

-- the next ID is 2; nothing waits, so the poll blocks; a gets ID 2; unequal slices are 8; a chain waits
abbrev pub history_1 : History Checkpoint
history_1 =
    said.unchanged (said.peeked true)
    ∷ said.unchanged (said.refused (said.submit (chain (4096 ∷ []) [] 0)) false 8)
    ∷ said.submitted a
    ∷ said.unchanged (said.refused said.poll true 3)
    ∷ said.unchanged (said.peeked false)
    ∷ said.unchanged (said.nexted 2)
    ∷ []

-- 7 to 11: a checkpoint, a poll, and the poll undone; a poll with outputs of two entries; a poll
abbrev pub calls_2 : List Given
calls_2 =
    polls_for 3
    ∷ polls_for 2
    ∷ takes (rollback_polls c0 (2 ∷ [])) tt
    ∷ polls_for 3
    ∷ takes poll_checkpoint tt
    ∷ calls_1

-- a is polled, and after the rollback polled again; the outputs are too short for three slots: 8
abbrev pub polled_once : History Checkpoint
polled_once = said.polled a ∷ said.marked c0 ∷ history_1

abbrev pub history_2 : History Checkpoint
history_2 =
    said.polled a
    ∷ said.unchanged (said.refused said.poll false 8)
    ∷ said.rolled c0 (2 ∷ [])
    ∷ polled_once

-- 12 to 18: b is submitted with the question whether to notify, and one more chain; a poll; a checkpoint and a rollback of nothing; a rollback to a
-- checkpoint off the ring; a completion of ID 0
abbrev pub calls_3 : List Given
calls_3 =
    completes 0 5 refl refl
    ∷ takes (rollback_polls (checkpoint (at 3 true) (at 0 true) 0) []) tt
    ∷ takes (rollback_polls c1 []) tt
    ∷ takes poll_checkpoint tt
    ∷ polls_for 3
    ∷ submits_one 4096 8 false refl refl
    ∷ makes (submit_one_with_notify 12288 64 true) (typed b.chain refl refl)
    ∷ calls_2

-- b takes the last slot, and the producer's avail cursor wraps; the ring is full: 3; b is polled, and the consumer's avail cursor wraps; the
-- rollback of nothing is accepted, the one off the ring is 7; ID 0 is not held: 5
abbrev pub polled_twice : History Checkpoint
polled_twice =
    said.marked c1
    ∷ said.polled b
    ∷ said.unchanged (said.refused (said.submit (one_of 4096 8 false)) true 3)
    ∷ said.submitted b
    ∷ history_2

abbrev pub history_3 : History Checkpoint
history_3 =
    said.unchanged (said.refused (said.complete (done 0 5)) true 5)
    ∷ said.unchanged (said.refused (said.rollback (checkpoint (at 3 true) (at 0 true) 0) []) false 7)
    ∷ said.rolled c1 []
    ∷ polled_twice

-- 19 to 25: the producer's notifications are turned off; b is completed before a, with the question whether to notify; a rollback after it; a is
-- completed; three polls for completions
abbrev pub calls_4 : List Given
calls_4 =
    makes poll_used tt
    ∷ makes poll_used tt
    ∷ makes poll_used tt
    ∷ completes 2 32 refl refl
    ∷ takes (rollback_polls c1 []) tt
    ∷ takes (submit_used_with_notify 1 64) (ids_fit 1 64 refl refl)
    ∷ makes (turn_used 1) tt
    ∷ calls_3

-- the rollback after a completion is refused with 9; the completions come back in the order in which they were made, and both ends' used
-- cursors wrap; then poll_used blocks
abbrev pub history_4 : History Checkpoint
history_4 =
    said.unchanged (said.refused said.reclaim true 3)
    ∷ said.reclaimed (done 2 32)
    ∷ said.reclaimed (done 1 64)
    ∷ said.completed (done 2 32)
    ∷ said.unchanged (said.refused (said.rollback c1 []) true 9)
    ∷ said.completed (done 1 64)
    ∷ said.unchanged said.quiet
    ∷ history_3

-- a producer's record that is not this end's: its avail cursor is off the ring
abbrev pub stranger : RingProducer
stranger = record { layout = layout 3 0 48 52; avail = at 3 true; used = at 0 true; free = 3; height = 3; shadow = 0 }

-- 26 to 30: three chains of one element each; next_id; a call with that other record, and other tables and bytes
abbrev pub calls_5 : List Given
calls_5 =
    strays (to_producer (record { end = another stranger; ids = another (zeros 3); counts = another (zeros 3) }) (another (zeros 56)) poll_used)
    ∷ makes next_id tt
    ∷ submits_one 24576 3 true refl refl
    ∷ submits_one 20480 2 false refl refl
    ∷ submits_one 16384 1 false refl refl
    ∷ calls_4

-- the IDs are those that came back last, and the third; none is free: 4; the foreign call is 7
abbrev pub history_5 : History Checkpoint
history_5 =
    said.unchanged (said.foreign_answered 7)
    ∷ said.unchanged (said.refused said.next_id true 4)
    ∷ said.submitted e
    ∷ said.submitted d
    ∷ said.submitted c
    ∷ history_4

-- 31 to 34: four polls
abbrev pub calls_6 : List Given
calls_6 = polls_for 3 ∷ polls_for 3 ∷ polls_for 3 ∷ polls_for 3 ∷ calls_5

-- c, d and e are held; none waits: 3
abbrev pub history_6 : History Checkpoint
history_6 = said.unchanged (said.refused said.poll true 3) ∷ said.polled e ∷ said.polled d ∷ said.polled c ∷ history_5

-- a consumer's record that is not this end's: more slots are in flight than there are
abbrev pub intruder : RingConsumer
intruder = record { layout = layout 3 0 48 52; avail = at 0 true; used = at 0 true; inflight = 4; shadow = 0 }

-- six foreign calls, in each of which some things are the end's own. Another record, with the producer's own tables and the ring's bytes
abbrev pub poll_used_of_another : Foreign
poll_used_of_another = to_producer (record { end = another stranger; ids = its; counts = its }) its poll_used

-- the consumer's own record and table, with other bytes, which are too short
abbrev pub poll_over_others : Foreign
poll_over_others = to_consumer (record { end = its; counts = its }) (another (zeros 40)) (poll_available (zeros 3) (zeros 3))

-- an opening of four slots over the producer's own tables and the ring's bytes, and one over the consumer's own table and more bytes
abbrev pub open_producer : Foreign
open_producer = new_producer (geometry_of 4) its its its

abbrev pub open_consumer : Foreign
open_consumer = new_consumer (geometry_of 4) its (another (zeros 72))

-- a reset of each end, with another record, its own tables and the ring's bytes
abbrev pub reset_producer : Foreign
reset_producer = to_producer (record { end = another stranger; ids = its; counts = its }) its producer_reset

abbrev pub reset_consumer : Foreign
reset_consumer = to_consumer (record { end = another intruder; counts = its }) its consumer_reset

-- 35 to 40: these six, while c, d and e are held
abbrev pub calls_7 : List Given
calls_7 =
    strays reset_consumer
    ∷ strays reset_producer
    ∷ strays open_consumer
    ∷ strays open_producer
    ∷ strays poll_over_others
    ∷ strays poll_used_of_another
    ∷ calls_6

-- another record is 7, and so are the resets; bytes too short are 8; four slots do not fit the ring's bytes: 6; the table has three entries: 8
abbrev pub history_7 : History Checkpoint
history_7 =
    said.unchanged (said.foreign_answered 7)
    ∷ said.unchanged (said.foreign_answered 7)
    ∷ said.unchanged (said.foreign_answered 8)
    ∷ said.unchanged (said.foreign_answered 6)
    ∷ said.unchanged (said.foreign_answered 8)
    ∷ said.unchanged (said.foreign_answered 7)
    ∷ history_6

-- 41 to 46: the last of the three is completed first; all come back
abbrev pub calls_8 : List Given
calls_8 =
    makes poll_used tt
    ∷ makes poll_used tt
    ∷ makes poll_used tt
    ∷ completes 1 0 refl refl
    ∷ completes 2 0 refl refl
    ∷ completes 0 3 refl refl
    ∷ calls_7

abbrev pub history_8 : History Checkpoint
history_8 =
    said.reclaimed (done 1 0)
    ∷ said.reclaimed (done 2 0)
    ∷ said.reclaimed (done 0 3)
    ∷ said.completed (done 1 0)
    ∷ said.completed (done 2 0)
    ∷ said.completed (done 0 3)
    ∷ history_7

-- 47 to 50: a chain of three elements, over the whole ring
abbrev pub calls_9 : List Given
calls_9 = makes poll_used tt ∷ completes 1 70 refl refl ∷ polls_for 3 ∷ submits f.chain refl refl ∷ calls_8

abbrev pub history_9 : History Checkpoint
history_9 = said.reclaimed (done 1 70) ∷ said.completed (done 1 70) ∷ said.polled f ∷ said.submitted f ∷ history_8

-- 51 to 57: the consumer arms at the slot that it polls next; g and h are submitted with the question whether to notify; a checkpoint, two polls, and
-- both undone, the list in the other order
abbrev pub calls_10 : List Given
calls_10 =
    takes (rollback_polls c2 (2 ∷ 1 ∷ [])) tt
    ∷ polls_for 3
    ∷ polls_for 3
    ∷ takes poll_checkpoint tt
    ∷ makes (submit_one_with_notify 45056 5 false) (typed h.chain refl refl)
    ∷ makes (submit_available_with_notify g.chain) (typed g.chain refl refl)
    ∷ takes enable_avail_for_next tt
    ∷ calls_9

abbrev pub polled_two : History Checkpoint
polled_two =
    said.polled h
    ∷ said.polled g
    ∷ said.marked c2
    ∷ said.submitted h
    ∷ said.submitted g
    ∷ said.unchanged said.quiet
    ∷ history_9

abbrev pub history_10 : History Checkpoint
history_10 = said.rolled c2 (2 ∷ 1 ∷ []) ∷ polled_two

-- 58 to 67: g is polled again; should_notify_since, with a cursor on the ring and one off it; the producer arms at slot 0, and g is completed with
-- the question whether to notify; the producer arms at its next slot; h is polled again; next_id; a chain of no elements; i is submitted
abbrev pub calls_11 : List Given
calls_11 =
    submits_one 49152 6 true refl refl
    ∷ submits (chain [] [] 0) refl refl
    ∷ makes next_id tt
    ∷ polls_for 3
    ∷ makes enable_used_for_next tt
    ∷ takes (submit_used_with_notify 1 4) (ids_fit 1 4 refl refl)
    ∷ makes (enable_used_desc 0 false) tt
    ∷ makes (should_notify_since (at 3 false)) tt
    ∷ makes (should_notify_since (at 0 false)) tt
    ∷ polls_for 3
    ∷ calls_10

-- a cursor off the ring is 7; the chain of no elements is 1; i gets the one ID that is free, while g is completed and not returned and h is
-- held
abbrev pub before_i : History Checkpoint
before_i =
    said.unchanged (said.refused (said.submit (chain [] [] 0)) true 1)
    ∷ said.unchanged (said.nexted 0)
    ∷ said.polled h
    ∷ said.unchanged said.quiet
    ∷ said.completed (done 1 4)
    ∷ said.unchanged said.quiet
    ∷ said.unchanged (said.refused said.other false 7)
    ∷ said.unchanged said.quiet
    ∷ said.polled g
    ∷ history_10

abbrev pub history_11 : History Checkpoint
history_11 = said.submitted i ∷ before_i

-- a consumer's fresh record of the same geometry, which is no more this end's
abbrev pub outsider : RingConsumer
outsider = record { layout = layout 3 0 48 52; avail = at 0 true; used = at 0 true; inflight = 0; shadow = 0 }

-- a poll with it, and with another table and other bytes, which are too short
abbrev pub short_poll : Foreign
short_poll = to_consumer (record { end = another outsider; counts = another (zeros 3) }) (another (zeros 40)) (poll_available (zeros 3) (zeros 3))

-- 68 to 79: h is completed with the question whether to notify; the consumer arms at slot 2 and turns off, the producer turns on; i is polled; that
-- poll; i is completed; two questions; all come back
abbrev pub calls : List Given
calls =
    makes poll_used tt
    ∷ makes poll_used tt
    ∷ makes poll_used tt
    ∷ takes (consumer_asked consumer_is_full) tt
    ∷ makes (producer_asked producer_num_free) tt
    ∷ completes 0 6 refl refl
    ∷ strays short_poll
    ∷ polls_for 3
    ∷ makes (turn_used 0) tt
    ∷ takes (turn_avail 1) tt
    ∷ takes (enable_avail_desc 2 true) tt
    ∷ takes (submit_used_with_notify 2 0) (ids_fit 2 0 refl refl)
    ∷ calls_11

abbrev pub history : History Checkpoint
history =
    said.reclaimed (done 0 6)
    ∷ said.reclaimed (done 2 0)
    ∷ said.reclaimed (done 1 4)
    ∷ said.unchanged said.quiet
    ∷ said.unchanged said.quiet
    ∷ said.completed (done 0 6)
    ∷ said.unchanged (said.foreign_answered 8)
    ∷ said.polled i
    ∷ said.unchanged said.quiet
    ∷ said.unchanged said.quiet
    ∷ said.unchanged said.quiet
    ∷ said.completed (done 2 0)
    ∷ history_11

-- ---- computed over the ring's bytes

-- the calls said this
pub answers : history_of machine_three world_three calls ≡ history
unfolding computing
answers = refl

-- ---- the premise on rollbacks

-- the first undoes the one poll since its checkpoint
undoes_one : Undoes polled_once c0 (2 ∷ [])
unfolding comps polls standing
undoes_one = record { since = said.polled a ∷ []; before = history_1; took = refl; none_completed = refl; names = λ y. refl }

-- the second undoes nothing: no poll came since
abbrev before_second : History Checkpoint
before_second =
    said.polled b ∷ said.unchanged (said.refused (said.submit (one_of 4096 8 false)) true 3) ∷ said.submitted b ∷ history_2

undoes_none : Undoes polled_twice c1 []
unfolding comps polls standing
undoes_none = record { since = []; before = before_second; took = refl; none_completed = refl; names = λ y. refl }

-- the third undoes two, named in the other order; every poll that stood at its checkpoint stands still
unfoldable pub undoes_two : UndoesIntact polled_two c2 (2 ∷ 1 ∷ [])
unfolding comps polls standing
undoes_two =
    record {
      undoes =
          record {
            since = said.polled h ∷ said.polled g ∷ [];
            before = said.submitted h ∷ said.submitted g ∷ said.unchanged said.quiet ∷ history_9;
            took = refl;
            none_completed = refl;
            names = λ y. omega arith;
          };
      stand = refl;
    }

-- of every other answer nothing is asked
asked_1 : Each (MayFollow rules_three) history_1
asked_1 = nothing_asked rules_three history_1 tt

asked_2 : Each (MayFollow rules_three) history_2
asked_2 = (((((asked_1, tt), tt), undoes_one), tt), tt)

asked_3 : Each (MayFollow rules_three) history_3
asked_3 = (((((((asked_2, tt), tt), tt), tt), undoes_none), tt), tt)

asked_4 : Each (MayFollow rules_three) history_4
asked_4 = (((((((asked_3, tt), tt), tt), tt), tt), tt), tt)

asked_5 : Each (MayFollow rules_three) history_5
asked_5 = (((((asked_4, tt), tt), tt), tt), tt)

asked_6 : Each (MayFollow rules_three) history_6
asked_6 = ((((asked_5, tt), tt), tt), tt)

asked_7 : Each (MayFollow rules_three) history_7
asked_7 = ((((((asked_6, tt), tt), tt), tt), tt), tt)

asked_8 : Each (MayFollow rules_three) history_8
asked_8 = ((((((asked_7, tt), tt), tt), tt), tt), tt)

pub asked_9 : Each (MayFollow rules_three) history_9
asked_9 = ((((asked_8, tt), tt), tt), tt)

asked_10 : Each (MayFollow rules_three) history_10
asked_10 = (((((((asked_9, tt), tt), tt), tt), tt), tt), undoes_two.undoes)

asked_11 : Each (MayFollow rules_three) history_11
asked_11 = ((((((((((asked_10, tt), tt), tt), tt), tt), tt), tt), tt), tt), tt)

asked : Each (MayFollow rules_three) history
asked = ((((((((((((asked_11, tt), tt), tt), tt), tt), tt), tt), tt), tt), tt), tt), tt)

-- ---- each call was fair to make: none is a reset of an end given its own, and each foreign one is refused

fair_1 : FairCalls machine_three world_three calls_1
fair_1 = ((((((tt, tt), tt), tt), tt), tt), tt)

fair_2 : FairCalls machine_three world_three calls_2
fair_2 = (((((fair_1, tt), tt), tt), tt), tt)

fair_3 : FairCalls machine_three world_three calls_3
fair_3 = (((((((fair_2, tt), tt), tt), tt), tt), tt), tt)

fair_4 : FairCalls machine_three world_three calls_4
fair_4 = (((((((fair_3, tt), tt), tt), tt), tt), tt), tt)

fair_5 : FairCalls machine_three world_three calls_5
unfolding computing
fair_5 = (((((fair_4, tt), tt), tt), tt), tt)

fair_6 : FairCalls machine_three world_three calls_6
fair_6 = ((((fair_5, tt), tt), tt), tt)

fair_7 : FairCalls machine_three world_three calls_7
unfolding computing
fair_7 = ((((((fair_6, tt), tt), tt), tt), tt), tt)

fair_8 : FairCalls machine_three world_three calls_8
fair_8 = ((((((fair_7, tt), tt), tt), tt), tt), tt)

pub fair_9 : FairCalls machine_three world_three calls_9
fair_9 = ((((fair_8, tt), tt), tt), tt)

fair_10 : FairCalls machine_three world_three calls_10
fair_10 = (((((((fair_9, tt), tt), tt), tt), tt), tt), tt)

fair_11 : FairCalls machine_three world_three calls_11
fair_11 = ((((((((((fair_10, tt), tt), tt), tt), tt), tt), tt), tt), tt), tt)

fair : FairCalls machine_three world_three calls
unfolding computing
fair = ((((((((((((fair_11, tt), tt), tt), tt), tt), tt), tt), tt), tt), tt), tt), tt)

-- ---- so demand 3 applies

-- the premise, of the history that the machine computes
pub meets : Premise machine_three rules_three world_three calls
meets = record { fair = fair; rollbacks = subst (Each (MayFollow rules_three)) (sym answers) asked }

abbrev pub whole : Run packed
whole = record { opening = three; calls = calls; premise = meets }

-- what is promised of it
pub promised : Demand3 machine_three rules_three world_three calls
promised = demand_3 whole
