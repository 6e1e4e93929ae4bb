-- An ID given again before its completion was returned: "an ID given is the ID of no chain whose completion ..", broken.
-- Assumes nothing.
use mathlib.Core.Path.{refl}
use mathlib.Core.Bool.{cond}
use mathlib.Core.List.{[], ◌∷◌}
use lib.Dec.{eqb}
use lib.ListN.{get_or, set}
use Rattle.consumer.specs.declared.Checkpoint.{Checkpoint}
use Rattle.queue.specs.History.{Event, History, out}
use Rattle.queue.specs.History as said
use Rattle.queue.specs.Promise.{plain, Right}
use Rattle.packed.specs.Machine.{Ring}
use Rattle.history.proofs.Ends.{two_accepted, item, done}
use Rattle.wrong.proofs.Changed.{is_reclaim, made_with, with_producer}
use Rattle.wrong.proofs.Calls.{a, b, submit_a, submit_b, poll, complete_1, reclaim, computing, Broken, broken}

-- THE WRONG RING: poll_used answers the completion that it found, but gives free the ID that was given last: it stays where it stood on
-- the stack, and its count is cleared
abbrev pub frees_last : Ring
frees_last =
    with_producer is_reclaim (λ c s r o.
    made_with o o.side.end s.ids
    (cond (eqb o.answer.number 0) (set s.counts (get_or s.ids s.end.height 0) 0) s.counts) o.ring)

-- two chains are submitted, with IDs 1 and 0; that of ID 1 is polled, completed and returned; the next submission gets ID 0, whose chain
-- is still out: "an ID given is the ID of no chain whose completion poll_used has not yet returned"
abbrev one_out : History Checkpoint
one_out =
    said.reclaimed (done 1 5) ∷ said.completed (done 1 5) ∷ said.polled (item 1 a) ∷ said.submitted (item 0 b)
    ∷ said.submitted (item 1 a) ∷ []

abbrev again : Event Checkpoint
again = said.submitted (item 0 a)

still_out : Right (plain 2) one_out again → ⊥
unfolding out
still_out f = f.1.0.0 refl

pub frees_last_broken : Broken frees_last
unfolding computing
frees_last_broken =
    broken frees_last two_accepted submit_a (reclaim ∷ complete_1 ∷ poll ∷ submit_b ∷ submit_a ∷ []) one_out again tt tt tt tt refl refl still_out
