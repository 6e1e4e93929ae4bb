-- Both ends reset in the middle of the history of Run.antt, with three chains held: they are fresh again over a zeroed table, and demand 3
-- is applied to what is called after that.
-- Assumes nothing.
use mathlib.Core.Path.{◌≡◌, refl, sym, subst}
use mathlib.Core.List.{List, [], ◌∷◌}
use mathlib.Core.Bool.{true, false}
use Rattle.base.specs.Bytes.{get_of}
use Rattle.cursor.specs.Cursor.{at}
use Rattle.consumer.specs.declared.Checkpoint.{Checkpoint}
use Rattle.queue.specs.History.{History}
use Rattle.queue.specs.History as said
use Rattle.queue.specs.Promise.{Each, MayFollow}
use Rattle.queue.specs.Machine.{history_of}
use Rattle.queue.specs.Demand.{Premise, Demand3}
use Rattle.packed.specs.Calls.{Given, poll_used}
use Rattle.packed.specs.Machine.{World}
use Rattle.further.specs.Reset.{with_producer_reset, with_consumer_reset}
use Rattle.further.proofs.Reset.{reset_opens, demand_3_again}
use Rattle.history.proofs.Computing.{computing}
use Rattle.history.proofs.Ends.{zeros, three, makes, done, submits, completes, polls_for, nothing_asked}
use Rattle.history.proofs.Run.{a, machine_three, rules_three}
use Rattle.history.proofs.Points.{world, first}

-- after 33 calls c, d and e are held
abbrev busy : World
busy = world 33

abbrev again : World
again = with_consumer_reset (with_producer_reset busy)

-- ---- computed over bytes

pub record Fresh : Type 0 where
  pub held_before : busy.consumer.counts ≡ 1 ∷ 1 ∷ 1 ∷ []
  pub full_before : busy.producer.end.free ≡ 0
  pub turned_before : busy.producer.end.shadow ≡ 1
  pub avail_before : busy.consumer.end.avail ≡ at 0 true
  pub used_before : busy.consumer.end.used ≡ at 0 false
  pub table_zero : get_of again.ring 0 48 ≡ zeros 48
  pub all_free : again.producer.end.free ≡ 3
  pub stack : again.producer.ids ≡ 0 ∷ 1 ∷ 2 ∷ []
  pub none_held : again.consumer.counts ≡ 0 ∷ 0 ∷ 0 ∷ []
  pub none_in_flight : again.consumer.end.inflight ≡ 0
  pub used_again : again.consumer.end.used ≡ at 0 true

pub fresh : Fresh
unfolding computing
fresh =
    record {
      held_before = refl;
      full_before = refl;
      turned_before = refl;
      avail_before = refl;
      used_before = refl;
      table_zero = refl;
      all_free = refl;
      stack = refl;
      none_held = refl;
      none_in_flight = refl;
      used_again = refl;
    }

-- a poll, which blocks; a is submitted, polled, completed and comes back: THE LATEST FIRST
abbrev calls_again : List Given
calls_again = makes poll_used tt ∷ completes 2 9 refl refl ∷ polls_for 3 ∷ submits a.chain refl refl ∷ polls_for 3 ∷ []

abbrev history_again : History Checkpoint
history_again =
    said.reclaimed (done 2 9)
    ∷ said.completed (done 2 9)
    ∷ said.polled a
    ∷ said.submitted a
    ∷ said.unchanged (said.refused said.poll true 3)
    ∷ []

pub answers_again : history_of machine_three again calls_again ≡ history_again
unfolding computing
answers_again = refl

-- ---- `reset_opens`, `demand_3_again`

pub promised_again : Demand3 machine_three rules_three again calls_again
promised_again =
    demand_3_again three again (reset_opens (first 33)).reopened calls_again
    (record {
      fair = (((((tt, tt), tt), tt), tt), tt);
      rollbacks = subst (Each (MayFollow rules_three)) (sym answers_again) (nothing_asked rules_three history_again tt);
    })

-- the consumer first, and any calls that meet the premise
abbrev again_too : World
again_too = with_producer_reset (with_consumer_reset busy)

pub promised_again_too : (cs : List Given) → Premise machine_three rules_three again_too cs → Demand3 machine_three rules_three again_too cs
promised_again_too = demand_3_again three again_too (reset_opens (first 33)).reopened_too
