-- Wrap flipped late: after the wrap a poll blocks while a chain waits, against "blocks only when none waits".
-- Assumes nothing.
use mathlib.Core.Path.{refl, ap}
use mathlib.Core.Logic.{⊎_elim}
use mathlib.Core.Bool.{true, cond}
use mathlib.Core.List.{List, [], ◌∷◌}
use native.Mathlib.Omega.{arith}
use lib.Dec.{eqb}
use lib.ListN.{length}
use Rattle.cursor.specs.declared.RingCursor.{RingCursor}
use Rattle.cursor.specs.Cursor.{at}
use Rattle.producer.specs.declared.RingProducer.{RingProducer}
use Rattle.consumer.specs.declared.RingConsumer.{RingConsumer}
use Rattle.consumer.specs.declared.Checkpoint.{Checkpoint}
use Rattle.queue.specs.History.{Item, Event, History, pubs, standing}
use Rattle.queue.specs.History as said
use Rattle.queue.specs.Promise.{plain, Right}
use Rattle.packed.specs.Machine.{Ring, packed}
use Rattle.history.proofs.Ends.{two_accepted, item, done}
use Rattle.wrong.proofs.Changed.{ring_by, is_submit, made_with, taken_with, with_producer}
use Rattle.wrong.proofs.Calls.{a, both, submit_a, submit_both, poll, complete_1, reclaim, computing, Broken, broken}

-- a cursor after a move, where wrap flips only if the head passes the end: one that lands on slot 0 keeps the wrap that it had
abbrev late : RingCursor → RingCursor → RingCursor
late old new = cond (eqb new.head 0) (at 0 old.wrap) new

-- a producer's record after a call, given the one before it, with both cursors late, and a consumer's
abbrev late_producer : RingProducer → RingProducer → RingProducer
late_producer old p =
    record {
      layout = p.layout;
      avail = late old.avail p.avail;
      used = late old.used p.used;
      free = p.free;
      height = p.height;
      shadow = p.shadow;
    }

abbrev late_consumer : RingConsumer → RingConsumer → RingConsumer
late_consumer old p =
    record {
      layout = p.layout;
      avail = late old.avail p.avail;
      used = late old.used p.used;
      inflight = p.inflight;
      shadow = p.shadow;
    }

-- THE WRONG RING: the avail cursor after a submission is late
abbrev pub late_submit : Ring
late_submit = with_producer is_submit (λ c s r o. made_with o (late_producer s.end o.side.end) o.side.ids o.side.counts o.ring)

-- a chain that fills the ring goes round; the next one is written at slot 0 as in the first round, and the poll blocks while it waits
abbrev second_round : History Checkpoint
second_round =
    said.submitted (item 1 a) ∷ said.reclaimed (done 1 5) ∷ said.completed (done 1 5) ∷ said.polled (item 1 both)
    ∷ said.submitted (item 1 both) ∷ []

abbrev blocked : Event Checkpoint
blocked = said.unchanged (said.refused said.poll true 3)

one_waits : Right (plain 2) second_round blocked → ⊥
unfolding pubs standing
one_waits f = ⊎_elim (λ z. z.0) (λ z. omega (arith, ap (λ (l : List Item). length l) z.1.1)) f.1

pub late_submit_broken : Broken late_submit
unfolding computing
late_submit_broken =
    broken late_submit two_accepted poll (submit_a ∷ reclaim ∷ complete_1 ∷ poll ∷ submit_both ∷ []) second_round blocked tt tt tt tt refl refl one_waits

-- ---- all four cursors late, so that the ends agree on the round

-- THE WRONG RING: the cursors of both ends are late after every call that moves them
abbrev pub late_all : Ring
late_all =
    ring_by
    (λ c s r. let o = packed.producer c s r in made_with o (late_producer s.end o.side.end) o.side.ids o.side.counts o.ring)
    (λ c s r. let o = packed.consumer c s r in taken_with o (late_consumer s.end o.side.end))

-- a chain that fills the ring is submitted and polled; none waits, and a further poll takes slot 0 for available: refused with 5, not 3
abbrev polled_all : History Checkpoint
polled_all = said.polled (item 1 both) ∷ said.submitted (item 1 both) ∷ []

abbrev five : Event Checkpoint
five = said.unchanged (said.refused said.poll true 5)

not_three : Right (plain 2) polled_all five → ⊥
not_three f = ⊎_elim (λ z. z.0) (λ z. omega (arith, z.1.0)) f.1

pub late_all_broken : Broken late_all
unfolding computing
late_all_broken = broken late_all two_accepted poll (poll ∷ submit_both ∷ []) polled_all five tt tt tt tt refl refl not_three
