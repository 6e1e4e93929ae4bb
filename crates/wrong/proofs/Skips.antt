-- A poll that skips: "a poll returns the oldest published chain whose polls, if any, were all rolled back" is broken.
-- Assumes nothing.
use Prim.Native.Nat.{ℕ}
use mathlib.Core.Path.{refl, ap}
use mathlib.Core.List.{List, [], ◌∷◌}
use native.Mathlib.Omega.{arith}
use Rattle.cursor.specs.declared.RingCursor.{RingCursor}
use Rattle.consumer.specs.declared.RingConsumer.{RingConsumer}
use Rattle.consumer.specs.declared.Checkpoint.{Checkpoint}
use Rattle.queue.specs.History.{Item, Event, History, pubs, standing}
use Rattle.queue.specs.History as said
use Rattle.queue.specs.Promise.{plain, Right}
use Rattle.packed.specs.Machine.{Ring, packed}
use Rattle.history.proofs.Ends.{two_accepted, item}
use Rattle.wrong.proofs.Changed.{is_poll, with_consumer}
use Rattle.wrong.proofs.Calls.{a, b, submit_a, submit_b, poll, computing, Broken, broken}

-- a consumer whose avail cursor is there
abbrev moved_to : RingConsumer → RingCursor → RingConsumer
moved_to p c = record { layout = p.layout; avail = c; used = p.used; inflight = p.inflight; shadow = p.shadow }

-- THE WRONG RING: a poll is the real one from after the chain that the real one would give
abbrev pub skips : Ring
skips = with_consumer is_poll (λ c s r o. packed.consumer c (record { end = moved_to s.end o.side.end.avail; counts = s.counts }) r)

-- two chains are submitted, and the poll gives the second
abbrev two_wait : History Checkpoint
two_wait = said.submitted (item 0 b) ∷ said.submitted (item 1 a) ∷ []

abbrev second : Event Checkpoint
second = said.polled (item 0 b)

-- the ID of the first chain of a list
abbrev first_id : List Item → ℕ
first_id [] = 0
first_id (x ∷ l) = x.id

not_oldest : Right (plain 2) two_wait second → ⊥
unfolding pubs standing
not_oldest f = omega (arith, ap (λ (l : List Item). first_id l) f.1)

pub skips_broken : Broken skips
unfolding computing
skips_broken = broken skips two_accepted poll (submit_b ∷ submit_a ∷ []) two_wait second tt tt tt tt refl refl not_oldest
