-- A ring that makes its own record a slot larger at the first poll, so that outputs of ring-size entries then get 8: "7 and 8 only for what was handed
-- in" is broken, since what was handed in is judged by the size that was opened.
-- Assumes nothing.
use Prim.Native.Nat.{◌+◌}
use mathlib.Core.Path.{◌≡◌, refl, sym}
use mathlib.Core.Logic.{inr, ⊎_elim}
use mathlib.Core.Bool.{true, false≢true}
use mathlib.Core.List.{[], ◌∷◌}
use native.Mathlib.Omega.{arith}
use lib.ListN.{get_or-replicate}
use Rattle.layout.specs.Layout.{layout, apart, bad_layout, outside}
use Rattle.producer.specs.Fresh as made
use Rattle.consumer.specs.Fresh as taken
use Rattle.ring.specs.Tables.{up_from}
use Rattle.consumer.specs.declared.RingConsumer.{RingConsumer}
use Rattle.consumer.specs.declared.Checkpoint.{Checkpoint}
use Rattle.queue.specs.History.{Event, History, pubs, standing}
use Rattle.queue.specs.History as said
use Rattle.queue.specs.Promise.{plain, Each, Right}
use Rattle.packed.specs.Machine.{Ring}
use Rattle.packed.specs.Opening.{Opening, opened_world}
use Rattle.history.proofs.Ends.{zeros, nothing_asked}
use Rattle.wrong.proofs.Changed.{is_poll, taken_with, with_consumer}
use Rattle.wrong.proofs.Calls.{poll, computing, ordinary_fair, Broken}

-- the same record, with a slot more
abbrev larger : RingConsumer → RingConsumer
larger p =
    record {
      layout = layout (p.layout.size + 1) p.layout.table p.layout.driver p.layout.device;
      avail = p.avail;
      used = p.used;
      inflight = p.inflight;
      shadow = p.shadow;
    }

-- THE WRONG RING: a poll hands back a larger record
abbrev pub grows : Ring
grows = with_consumer is_poll (λ c s r o. taken_with o (larger o.side.end))

-- two slots, with room after the table, and counts of four entries: so that nothing else is too small for a slot more
roomy_accepted :
    ((grows.producer_new (layout 2 0 64 68) (zeros 72) (zeros 4) (zeros 4)).answer.number ≡ 0)
    × ((grows.consumer_new (layout 2 0 64 68) (zeros 72) (zeros 4)).answer.number ≡ 0)
unfolding made.open_of made.fresh_of taken.open_of taken.fresh_of bad_layout outside apart up_from
roomy_accepted = (refl, refl)

abbrev roomy : Opening grows
roomy =
    record {
      geometry = layout 2 0 64 68;
      ring = zeros 72;
      zeroed = λ k h. get_or-replicate 72 (0 + k) 0 0 (omega (arith, h));
      ids = zeros 4;
      counts = zeros 4;
      held_counts = zeros 4;
      producer_finds = zeros 72;
      consumer_finds = zeros 72;
      producer_length = refl;
      consumer_length = refl;
      producer = roomy_accepted.0;
      consumer = roomy_accepted.1;
    }

-- nothing is published: two polls, each with outputs of two entries, the first refused with 3, the second with 8
abbrev once : History Checkpoint
once = said.unchanged (said.refused said.poll true 3) ∷ []

abbrev eight : Event Checkpoint
eight = said.unchanged (said.refused said.poll true 8)

first_right : Each (Right (plain 2)) once
unfolding pubs standing
first_right = (tt, (λ z. z, inr (refl, (refl, refl))))

was_valid : Right (plain 2) once eight → ⊥
was_valid f = ⊎_elim (λ z. false≢true (sym z.1.0)) (λ z. omega (arith, z.1.0)) f.1

pub grows_broken : Broken grows
unfolding computing
grows_broken =
    record {
      opening = roomy;
      calls = poll ∷ poll ∷ [];
      before = once;
      event = eight;
      computed = refl;
      fair = ordinary_fair grows 2 (opened_world grows roomy) (poll ∷ poll ∷ []) tt;
      meets = nothing_asked (plain 2) (eight ∷ once) tt;
      right_before = first_right;
      wrong = was_valid;
    }
