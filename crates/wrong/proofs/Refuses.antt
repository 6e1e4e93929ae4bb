-- Polls that give the same refusal to everything, of the consumer and of the producer. With 3, "blocks only when none waits" is broken; with
-- 7, "7 only for what that call was handed".
-- Assumes nothing.
use Prim.Native.Nat.{ℕ}
use mathlib.Core.Path.{refl, sym, ap}
use mathlib.Core.Logic.{⊎_elim}
use mathlib.Core.Bool.{true, false≢true}
use mathlib.Core.List.{List, [], ◌∷◌}
use native.Mathlib.Omega.{arith}
use lib.ListN.{length}
use Rattle.base.specs.Answer.{refused}
use Rattle.consumer.specs.declared.Checkpoint.{Checkpoint}
use Rattle.queue.specs.History.{Item, Done, Event, History, pubs, comps, reclaims, standing}
use Rattle.queue.specs.History as said
use Rattle.queue.specs.Promise.{plain, Right}
use Rattle.packed.specs.Machine.{Ring}
use Rattle.history.proofs.Ends.{two_accepted, item, done}
use Rattle.wrong.proofs.Changed.{is_poll, is_reclaim, only_made, only_taken, with_producer, with_consumer}
use Rattle.wrong.proofs.Calls.{a, submit_a, poll, complete_1, reclaim, computing, Broken, broken}

-- THE WRONG RING: every poll is answered with n, and nothing changes
abbrev pub refuses : ℕ → Ring
refuses n = with_consumer is_poll (λ c s r o. only_taken s r (refused n))

-- a chain is submitted, and the poll, by an end given its own and valid outputs, is refused while it waits
abbrev waits : History Checkpoint
waits = said.submitted (item 1 a) ∷ []

abbrev not_given : ℕ → Event Checkpoint
not_given n = said.unchanged (said.refused said.poll true n)

one_waits : (n : ℕ) → Right (plain 2) waits (not_given n) → ⊥
unfolding pubs standing
one_waits n f = ⊎_elim (λ z. false≢true (sym z.1.0)) (λ z. omega (arith, ap (λ (l : List Item). length l) z.1.1)) f.1

pub blocks_broken : Broken (refuses 3)
unfolding computing
blocks_broken = broken (refuses 3) two_accepted poll (submit_a ∷ []) waits (not_given 3) tt tt tt tt refl refl (one_waits 3)

pub sevens_broken : Broken (refuses 7)
unfolding computing
sevens_broken = broken (refuses 7) two_accepted poll (submit_a ∷ []) waits (not_given 7) tt tt tt tt refl refl (one_waits 7)

-- ---- the same of poll_used: "Completions reach the producer the same way"

-- THE WRONG RING: every poll_used is answered with n, and nothing changes
abbrev pub refuses_used : ℕ → Ring
refuses_used n = with_producer is_reclaim (λ c s r o. only_made s r (refused n))

-- a chain is submitted, polled and completed, and poll_used is refused
abbrev completed : History Checkpoint
completed = said.completed (done 1 5) ∷ said.polled (item 1 a) ∷ said.submitted (item 1 a) ∷ []

abbrev not_returned : ℕ → Event Checkpoint
not_returned n = said.unchanged (said.refused said.reclaim true n)

one_completed : (n : ℕ) → Right (plain 2) completed (not_returned n) → ⊥
unfolding comps reclaims
one_completed n f = ⊎_elim (λ z. z.1) (λ z. omega (arith, ap (λ (l : List Done). length l) z.1.1)) f.1

pub blocks_used_broken : Broken (refuses_used 3)
unfolding computing
blocks_used_broken =
    broken (refuses_used 3) two_accepted reclaim (complete_1 ∷ poll ∷ submit_a ∷ []) completed (not_returned 3) tt tt tt tt refl refl (one_completed 3)

pub sevens_used_broken : Broken (refuses_used 7)
unfolding computing
sevens_used_broken =
    broken (refuses_used 7) two_accepted reclaim (complete_1 ∷ poll ∷ submit_a ∷ []) completed (not_returned 7) tt tt tt tt refl refl (one_completed 7)
