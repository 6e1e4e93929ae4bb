-- The laws of notifications (further/proofs/Notified.antt), applied: after the calls of Run.antt up to number 50, when nothing waits and no
-- completion is owed, each end arms at its next slot; a few calls later the other end's next batch is told.
-- Assumes nothing.
use Prim.Native.Nat.{ℕ, ◌<◌}
use mathlib.Core.Path.{◌≡◌, refl, sym, subst}
use mathlib.Core.List.{List, [], ◌∷◌, ◌++◌}
use mathlib.Core.Bool.{true}
use native.Mathlib.Omega.{arith}
use Rattle.base.specs.Answer as answer
use Rattle.producer.specs.Outcome.{Outcome}
use Rattle.producer.specs.Notices as used_notices
use Rattle.consumer.specs.declared.Checkpoint.{Checkpoint}
use Rattle.queue.specs.History.{History, pubs, comps, reclaims, standing, waiting}
use Rattle.queue.specs.History as said
use Rattle.queue.specs.Promise.{Each, MayFollow}
use Rattle.queue.specs.Machine.{world_of, history_of}
use Rattle.queue.specs.Demand.{Premise}
use Rattle.queue.specs.Says.{value}
use Rattle.packed.specs.Calls.{Given, next_id, poll_used, turn_used}
use Rattle.packed.specs.Machine.{World, submits_of, tells_of, completes_told}
use Rattle.further.specs.Since.{Since, QuietAvail, QuietUsed, arm_avail, arm_used}
use Rattle.further.proofs.Notified.{told_of_submission, told_since, told_of_completion}
use Rattle.history.proofs.Computing.{computing}
use Rattle.history.proofs.Ends.{three, world_three, typed, makes, strays, submits, polls_for}
use Rattle.history.proofs.Run.{g, machine_three, rules_three, poll_over_others, calls_9, history_9, asked_9, fair_9}

rises : (a b : ℕ) → a ≡ 0 → b ≡ 1 → a < b
rises a b e f = omega (arith, e, f)

answers_9 : history_of machine_three world_three calls_9 ≡ history_9
unfolding computing
answers_9 = refl

-- ---- the consumer: armed; a poll that blocks, next_id, a foreign call, and the producer's notifications turned; then g is submitted

abbrev since_avail : List Given
since_avail = makes (turn_used 1) tt ∷ strays poll_over_others ∷ makes next_id tt ∷ polls_for 3 ∷ []

abbrev before_g : World
before_g = world_of machine_three world_three (since_avail ++ (arm_avail ∷ calls_9))

abbrev history_avail : History Checkpoint
history_avail =
    said.unchanged said.quiet
    ∷ said.unchanged (said.foreign_answered 8)
    ∷ said.unchanged (said.nexted 1)
    ∷ said.unchanged (said.refused said.poll true 3)
    ∷ said.unchanged said.quiet
    ∷ history_9

said_avail : history_of machine_three world_three (since_avail ++ (arm_avail ∷ calls_9)) ≡ history_avail
unfolding computing
said_avail = refl

meets_avail : Premise machine_three rules_three world_three (since_avail ++ (arm_avail ∷ calls_9))
unfolding computing
meets_avail =
    record {
      fair = (((((fair_9, tt), tt), tt), tt), tt);
      rollbacks = subst (Each (MayFollow rules_three)) (sym said_avail) (((((asked_9, tt), tt), tt), tt), tt);
    }

none_waits : waiting (history_of machine_three world_three calls_9) ≡ []
unfolding pubs standing
none_waits = subst (λ (h : History Checkpoint). waiting h ≡ []) (sym answers_9) refl

quiet_avail : Since three QuietAvail (arm_avail ∷ calls_9) since_avail
unfolding computing
quiet_avail = ((((tt, tt), tt), tt), tt)

-- `told_of_submission`
pub told_of_g : value 1 (tells_of before_g.producer before_g.ring g.chain).answer ≡ 1
unfolding computing
told_of_g =
    told_of_submission three calls_9 since_avail meets_avail none_waits quiet_avail
    g.chain refl (rises _ _ refl refl)

-- `told_since`
abbrev with_g : Outcome
with_g = submits_of before_g.producer before_g.ring g.chain

pub since_g : used_notices.since_of with_g.end with_g.ring before_g.producer.end.avail ≡ answer.done (1 ∷ [])
unfolding computing
since_g =
    told_since three calls_9 since_avail meets_avail none_waits quiet_avail
    g.chain (typed g.chain refl refl) refl (rises _ _ refl refl)

-- ---- the producer: armed; g is submitted and polled; then it is completed

abbrev since_used : List Given
since_used = makes poll_used tt ∷ polls_for 3 ∷ submits g.chain refl refl ∷ []

abbrev before_done : World
before_done = world_of machine_three world_three (since_used ++ (arm_used ∷ calls_9))

abbrev history_used : History Checkpoint
history_used =
    said.unchanged (said.refused said.reclaim true 3) ∷ said.polled g ∷ said.submitted g ∷ said.unchanged said.quiet ∷ history_9

said_used : history_of machine_three world_three (since_used ++ (arm_used ∷ calls_9)) ≡ history_used
unfolding computing
said_used = refl

meets_used : Premise machine_three rules_three world_three (since_used ++ (arm_used ∷ calls_9))
meets_used =
    record {
      fair = ((((fair_9, tt), tt), tt), tt);
      rollbacks = subst (Each (MayFollow rules_three)) (sym said_used) ((((asked_9, tt), tt), tt), tt);
    }

none_owed : comps (history_of machine_three world_three calls_9) ≡ reclaims (history_of machine_three world_three calls_9)
unfolding comps reclaims
none_owed = subst (λ (h : History Checkpoint). comps h ≡ reclaims h) (sym answers_9) refl

quiet_used : Since three QuietUsed (arm_used ∷ calls_9) since_used
unfolding computing
quiet_used = (((tt, tt), tt), tt)

-- `told_of_completion`
pub told_of_done : value 0 (completes_told before_done.consumer before_done.ring 1 4).answer ≡ 1
unfolding computing
told_of_done =
    told_of_completion three calls_9 since_used meets_used none_owed quiet_used
    1 4 refl (rises _ _ refl refl)
