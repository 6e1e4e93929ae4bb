-- A completion that frees one slot: a submission "refused .. with 3 exactly when the free slots .. are fewer than its elements" is broken.
-- Assumes nothing.
use mathlib.Core.Path.{refl, sym}
use mathlib.Core.Logic.{⊎_elim}
use mathlib.Core.Bool.{true, false≢true, cond}
use mathlib.Core.List.{[], ◌∷◌}
use native.Mathlib.Omega.{arith}
use lib.Dec.{eqb}
use Rattle.producer.specs.Poll.{freed_of}
use Rattle.consumer.specs.declared.Checkpoint.{Checkpoint}
use Rattle.queue.specs.History.{Event, History, out}
use Rattle.queue.specs.History as said
use Rattle.queue.specs.Promise.{plain, Right}
use Rattle.packed.specs.Machine.{Ring}
use Rattle.history.proofs.Ends.{two_accepted, item, done}
use Rattle.wrong.proofs.Changed.{is_reclaim, made_with, with_producer}
use Rattle.wrong.proofs.Calls.{both, submit_both, poll, complete_1, reclaim, computing, Broken, broken}

-- THE WRONG RING: after a completion that poll_used found, the record has one slot more free and its cursor moved by one, whatever the
-- chain's count
abbrev pub frees_one : Ring
frees_one =
    with_producer is_reclaim (λ c s r o.
    made_with o (cond (eqb o.answer.number 0) (freed_of s.end 1) s.end) o.side.ids o.side.counts o.ring)

-- a chain that fills the ring is submitted, polled, completed, and its completion returned; the same chain again is refused with 3
abbrev returned : History Checkpoint
returned =
    said.reclaimed (done 1 5) ∷ said.completed (done 1 5) ∷ said.polled (item 1 both) ∷ said.submitted (item 1 both) ∷ []

abbrev no_room : Event Checkpoint
no_room = said.unchanged (said.refused (said.submit both) true 3)

-- no chain is out: both slots are free
all_free : Right (plain 2) returned no_room → ⊥
unfolding out
all_free f = ⊎_elim (λ z. false≢true (sym z.1.0)) (λ z. ⊎_elim (λ y. omega (arith, y.0)) (λ y. omega (arith, y.1.1)) z.1) f.1

pub frees_one_broken : Broken frees_one
unfolding computing
frees_one_broken =
    broken frees_one two_accepted submit_both (reclaim ∷ complete_1 ∷ poll ∷ submit_both ∷ []) returned no_room tt tt tt tt refl refl all_free
