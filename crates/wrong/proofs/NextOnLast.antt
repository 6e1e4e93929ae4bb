-- NEXT on the last slot: a poll is refused with 2 though a chain waits, or gives more elements than were published.
-- Assumes nothing.
use Prim.Native.Nat.{◌+◌, ◌-◌}
use mathlib.Core.Path.{refl, ap}
use mathlib.Core.Logic.{⊎_elim}
use mathlib.Core.Bool.{true, cond}
use mathlib.Core.List.{List, [], ◌∷◌}
use native.Mathlib.Omega.{arith}
use lib.Dec.{eqb}
use lib.ListN.{length, take}
use Rattle.cursor.specs.declared.RingCursor.{RingCursor}
use Rattle.cursor.specs.Cursor.{steps}
use Rattle.desc.specs.declared.Descriptor.{Descriptor}
use Rattle.desc.specs.Flags.{NEXT}
use Rattle.desc.specs.Desc.{descriptor}
use Rattle.ring.specs.Slots.{slot_of, slot_put}
use Rattle.producer.specs.declared.RingProducer.{RingProducer}
use Rattle.consumer.specs.declared.Checkpoint.{Checkpoint}
use Rattle.queue.specs.History.{Chain, Item, Event, History, slots_in, pubs, standing}
use Rattle.queue.specs.History as said
use Rattle.queue.specs.Promise.{plain, Right}
use Rattle.packed.specs.Machine.{Ring}
use Rattle.history.proofs.Ends.{two_accepted, item, chain}
use Rattle.wrong.proofs.Changed.{is_submit, chain_in, made_with, with_producer}
use Rattle.wrong.proofs.Calls.{a, both, submit_a, submit_both, poll, computing, Broken, broken}

abbrev nexted : Descriptor → Descriptor
nexted d = descriptor d.addr d.len d.id (d.flags + NEXT)

-- the slot of a chain's last element
abbrev last_of : RingProducer → Chain → RingCursor
last_of p c = steps p.layout.size (length c.addrs - 1) p.avail

-- THE WRONG RING: after a submission that is accepted, the last slot has NEXT too
abbrev pub next_on_last : Ring
next_on_last =
    with_producer is_submit (λ c s r o.
    let table = s.end.layout.table in
    let at = last_of s.end (chain_in c) in
    made_with o o.side.end o.side.ids o.side.counts
    (cond (eqb o.answer.number 0) (slot_put table at (nexted (slot_of table at o.ring)) o.ring) o.ring))

-- a chain that fills the ring is submitted, and the poll is refused with 2: "blocks only when none waits", and is else never refused
abbrev fills : History Checkpoint
fills = said.submitted (item 1 both) ∷ []

abbrev bad_chain : Event Checkpoint
bad_chain = said.unchanged (said.refused said.poll true 2)

not_three : Right (plain 2) fills bad_chain → ⊥
not_three f = ⊎_elim (λ z. z.0) (λ z. omega (arith, z.1.0)) f.1

pub next_on_last_broken : Broken next_on_last
unfolding computing
next_on_last_broken = broken next_on_last two_accepted poll (submit_both ∷ []) fills bad_chain tt tt tt tt refl refl not_three

-- ---- the same ring with a chain of one element: the poll gives two, the second out of a slot that was never written, against "element
-- for element"

abbrev waits : History Checkpoint
waits = said.submitted (item 1 a) ∷ []

abbrev longer : Event Checkpoint
longer = said.polled (item 1 (chain (4096 ∷ 0 ∷ []) (16 ∷ 0 ∷ []) 2))

not_its_elements : Right (plain 2) waits longer → ⊥
unfolding pubs standing
not_its_elements f = omega (arith, ap (λ (l : List Item). slots_in (take 1 l)) f.1)

pub longer_broken : Broken next_on_last
unfolding computing
longer_broken = broken next_on_last two_accepted poll (submit_a ∷ []) waits longer tt tt tt tt refl refl not_its_elements
