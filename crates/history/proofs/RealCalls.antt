-- A run of real calls that meets the premise of `real_demand_3`: both `new`, a submission, a poll, a foreign call refused with 7, a completion and
-- poll_used, each with values that its GENERATED contract allows; and demand 3 applied to it.
-- Assumes nothing.
use Prim.Native.Nat.{ℕ, ◌+◌}
use mathlib.Core.Path.{◌≡◌, refl, sym, subst}
use mathlib.Core.List.{List, [], ◌∷◌}
use mathlib.Core.Bool.{false}
use native.Mathlib.Omega.{arith}
use lib.ListN.{replicate, get_or-replicate}
use denote.Ref.{Bor, MutBor}
use Rattle.std.specs.Prelude.{Ok, Err}
use Rattle.base.specs.Answer as answer
use Rattle.cursor.specs.Cursor.{fresh}
use Rattle.layout.specs.Layout.{layout}
use Rattle.base.specs.declared.RingError.TheVariants.{BadRecord}
use Rattle.producer.specs.declared.RingProducer.{RingProducer}
use Rattle.producer.specs.Fresh as made
use Rattle.producer.specs.Outcome as made_outcome
use Rattle.consumer.specs.declared.Checkpoint.{Checkpoint}
use Rattle.consumer.specs.Fresh as taken
use Rattle.consumer.specs.Poll as polling
use Rattle.consumer.specs.Poll.{Taken}
use Rattle.consumer.specs.Outcome as taken_outcome
use Rattle.queue.specs.History.{Item, History}
use Rattle.queue.specs.History as said
use Rattle.queue.specs.Promise.{plain, Each, MayFollow}
use Rattle.queue.specs.Machine.{history_of, FairCalls}
use Rattle.queue.specs.Sentences.{ItsOwnBefore}
use Rattle.queue.specs.Demand.{Demand3}
use Rattle.packed.specs.Calls.{one_of, its, another}
use Rattle.packed.specs.Machine.{World, submits_of, reclaims_of, polls_of, completes_of}
use Rattle.packed.specs.RealProducer as producer
use Rattle.packed.specs.RealConsumer as consumer
use Rattle.packed.specs.Real.{ProducerNew, ConsumerNew, RealCall, RealOpening, real_opened, real_machine, RealRun, IsRun}
use Rattle.packed.specs.Real.{producers, consumers, to_another_producer}
use Rattle.packed.proofs.Real.{real_demand_3, real_is_run}
use Rattle.history.proofs.Computing.{computing}
use Rattle.history.proofs.Ends.{zeros, geometry_of, typed, ids_fit, nothing_asked, item, done}

-- a lent list, wherever it lies
abbrev lent : List ℕ → Bor (List ℕ)
lent l = record { ref_ptr = (0, 0); now = l }

-- and one that is lent to be changed
abbrev lent_mut : List ℕ → MutBor (List ℕ)
lent_mut l = record { ref_ptr = (0, 0); ghost_name = 0; now = l }

-- ---- the two openings: two slots over zero bytes

abbrev opens_producer : made.Open
opens_producer = made.open_of 2 0 32 36 (zeros 40) (zeros 2) (zeros 2)

producer_meets :
    made.opened (made.opened_answer (Ok (made.fresh_of (geometry_of 2)))) opens_producer.ids opens_producer.counts ≡ opens_producer
unfolding computing
producer_meets = refl

abbrev producer_new_lem : ProducerNew
producer_new_lem =
    record {
      lifetimes = ([], ([], ([], tt)));
      entry = (geometry_of 2, (lent (zeros 40), (lent_mut (zeros 2), (lent_mut (zeros 2), tt))));
      result = Ok (made.fresh_of (geometry_of 2));
      exit = (geometry_of 2, (lent (zeros 40), (lent_mut opens_producer.ids, (lent_mut opens_producer.counts, tt))));
      meets = producer_meets;
    }

-- what the consumer's `new` finds in the ring is of no matter: here the bytes are not zero
abbrev found : List ℕ
found = replicate 40 1

abbrev opens_consumer : taken.Open
opens_consumer = taken.open_of 2 0 32 36 found (zeros 2)

consumer_meets : taken.opened (taken.opened_answer (Ok (taken.fresh_of (geometry_of 2)))) opens_consumer.counts ≡ opens_consumer
unfolding computing
consumer_meets = refl

abbrev consumer_new_lem : ConsumerNew
consumer_new_lem =
    record {
      lifetimes = ([], ([], tt));
      entry = (geometry_of 2, (lent found, (lent_mut (zeros 2), tt)));
      result = Ok (taken.fresh_of (geometry_of 2));
      exit = (geometry_of 2, (lent found, (lent_mut opens_consumer.counts, tt)));
      meets = consumer_meets;
    }

abbrev opening : RealOpening
opening =
    record {
      producer_new = producer_new_lem;
      consumer_new = consumer_new_lem;
      producer = made.fresh_of (geometry_of 2);
      consumer = taken.fresh_of (geometry_of 2);
      producer_opened = refl;
      consumer_opened = refl;
      one_geometry = refl;
      ring = zeros 40;
      zeroed = λ k h. get_or-replicate 40 (0 + k) 0 0 (omega (arith, h));
      producer_length = refl;
      consumer_length = refl;
    }

-- ---- the calls, in their order, each with the world after it

abbrev w0 : World
w0 = real_opened opening

-- submit_one: one readable element at 4096, 16 bytes long; it gets ID 1
abbrev submits : made_outcome.Outcome
submits = submits_of w0.producer w0.ring (one_of 4096 16 false)

submit_meets :
    made_outcome.outcome (answer.done (1 ∷ [])) submits.end submits.ring w0.producer.ids submits.counts ≡ submits
unfolding computing
submit_meets = refl

abbrev submit : RealCall
submit =
    producers (producer.real_submit_one (record {
      lifetimes = ([], ([], ([], tt)));
      entry =
          (w0.producer.end, (lent_mut w0.ring, (lent w0.producer.ids, (lent_mut w0.producer.counts, (4096, (16, (false, tt)))))));
      result = (submits.end, Ok 1);
      exit =
          (w0.producer.end, (lent_mut submits.ring, (lent w0.producer.ids, (lent_mut submits.counts, (4096, (16, (false, tt)))))));
      meets = submit_meets;
    }))

abbrev w1 : World
w1 = (real_machine 2).go w0 submit

-- poll_available, with outputs of two entries
abbrev polls : Taken
polls = polls_of w1.consumer w1.ring (zeros 2) (zeros 2)

poll_meets :
    polling.taken (answer.done (1 ∷ 1 ∷ 1 ∷ [])) polls.end polls.counts polls.addrs polls.lens ≡ polls
unfolding computing
poll_meets = refl

abbrev poll : RealCall
poll =
    consumers (consumer.real_poll_available (record {
      lifetimes = ([], ([], ([], ([], tt))));
      entry = (w1.consumer.end, (lent w1.ring, (lent_mut w1.consumer.counts, (lent_mut (zeros 2), (lent_mut (zeros 2), tt)))));
      result = (polls.end, Ok (record { id = 1; count = 1; readable = 1 }));
      exit = (w1.consumer.end, (lent w1.ring, (lent_mut polls.counts, (lent_mut polls.addrs, (lent_mut polls.lens, tt)))));
      meets = poll_meets;
    }))

abbrev w2 : World
w2 = (real_machine 2).go w1 poll

-- poll_used given a record of no slots, with the producer's own tables and the ring's own bytes: 7, and nothing changed
abbrev no_slots : RingProducer
no_slots = record { layout = layout 0 0 32 36; avail = fresh; used = fresh; free = 0; height = 0; shadow = 0 }

abbrev strays : made_outcome.Outcome
strays = reclaims_of (record { end = no_slots; ids = w2.producer.ids; counts = w2.producer.counts }) w2.ring

stray_meets : made_outcome.outcome (answer.refused 7) no_slots w2.ring strays.ids strays.counts ≡ strays
unfolding computing
stray_meets = refl

abbrev stray : RealCall
stray =
    to_another_producer (record { end = another no_slots; ids = its; counts = its }) its
    (producer.real_poll_used (record {
      lifetimes = ([], ([], ([], tt)));
      entry = (no_slots, (lent w2.ring, (lent_mut w2.producer.ids, (lent_mut w2.producer.counts, tt))));
      result = (no_slots, Err BadRecord);
      exit = (no_slots, (lent w2.ring, (lent_mut strays.ids, (lent_mut strays.counts, tt))));
      meets = stray_meets;
    }))

abbrev w3 : World
w3 = (real_machine 2).go w2 stray

-- submit_used of ID 1, with length 5
abbrev completes : taken_outcome.Outcome
completes = completes_of w3.consumer w3.ring 1 5

complete_meets : taken_outcome.outcome (answer.done []) completes.end completes.ring completes.counts ≡ completes
unfolding computing
complete_meets = refl

abbrev complete : RealCall
complete =
    consumers (consumer.real_submit_used (record {
      lifetimes = ([], ([], tt));
      entry = (w3.consumer.end, (lent_mut w3.ring, (lent_mut w3.consumer.counts, (1, (5, tt)))));
      result = (completes.end, Ok tt);
      exit = (w3.consumer.end, (lent_mut completes.ring, (lent_mut completes.counts, (1, (5, tt)))));
      meets = complete_meets;
    }))

abbrev w4 : World
w4 = (real_machine 2).go w3 complete

-- poll_used
abbrev returns : made_outcome.Outcome
returns = reclaims_of w4.producer w4.ring

return_meets :
    made_outcome.outcome (answer.done (1 ∷ 5 ∷ [])) returns.end w4.ring returns.ids returns.counts ≡ returns
unfolding computing
return_meets = refl

abbrev reclaim : RealCall
reclaim =
    producers (producer.real_poll_used (record {
      lifetimes = ([], ([], ([], tt)));
      entry = (w4.producer.end, (lent w4.ring, (lent_mut w4.producer.ids, (lent_mut w4.producer.counts, tt))));
      result = (returns.end, Ok (record { id = 1; len = 5 }));
      exit = (w4.producer.end, (lent w4.ring, (lent_mut returns.ids, (lent_mut returns.counts, tt))));
      meets = return_meets;
    }))

-- ---- the run

abbrev calls : List RealCall
calls = reclaim ∷ complete ∷ stray ∷ poll ∷ submit ∷ []

abbrev a : Item
a = item 1 (one_of 4096 16 false)

-- what they said
abbrev history : History Checkpoint
history =
    said.reclaimed (done 1 5) ∷ said.completed (done 1 5) ∷ said.unchanged (said.foreign_answered 7) ∷ said.polled a ∷ said.submitted a ∷ []

real_history : history_of (real_machine 2) w0 calls ≡ history
unfolding computing
real_history = refl

-- each was given the end's own, but for the foreign one's record
fair : FairCalls (real_machine 2) w0 calls
unfolding computing
fair = (
  (
    (
      (
        (
          tt,
          record { own_given = refl; typed = typed (one_of 4096 16 false) refl refl; answered = tt },
        ),
        record { own_given = refl; typed = tt; answered = tt },
      ),
      record { own_given = refl; typed = tt; answered = tt },
    ),
    record { own_given = refl; typed = ids_fit 1 5 refl refl; answered = tt },
  ),
  record { own_given = refl; typed = tt; answered = tt },
)

whole : RealRun
whole =
    record {
      opening = opening;
      calls = calls;
      premise = record { fair = fair; rollbacks = subst (Each (MayFollow (plain 2))) (sym real_history) (nothing_asked (plain 2) history tt) };
    }

-- demand 3 of it: the completion that poll_used returned is of the first submission, which was polled and completed before
real_promised : Demand3 (real_machine 2) (plain 2) w0 calls
unfolding whole
real_promised = real_demand_3 whole

abbrev completed_before : History Checkpoint
completed_before = said.completed (done 1 5) ∷ said.unchanged (said.foreign_answered 7) ∷ said.polled a ∷ said.submitted a ∷ []

its_own : (p : ℕ) × ItsOwnBefore completed_before (done 1 5) p
its_own = real_promised.own_before (done 1 5) [] completed_before real_history

-- and it is a run of the machine, with the same calls and answers
its_run : IsRun whole
its_run = real_is_run whole
