-- The theorems at values: on a ring of four slots, with both ends three slots on, a chain of two is submitted over the ring's end and completed.
-- Assumes nothing.
use Prim.Native.Nat.{ℕ, ◌<◌}
use mathlib.Core.Path.{◌≡◌, refl}
use mathlib.Core.List.{List, [], ◌∷◌}
use mathlib.Core.Bool.{true, false}
use native.Mathlib.Omega.{arith}
use lib.ListN.{set, replicate, get_or-replicate, length-replicate, get_or-eq_default}
use lib.Seq.{sets}
use Rattle.base.specs.Answer.{done}
use Rattle.base.proofs.Tests.{by_lt}
use Rattle.base.proofs.Words.{Bytes}
use Rattle.cursor.specs.Cursor.{at, fresh, steps}
use Rattle.event.specs.Event.{event}
use Rattle.layout.specs.Layout.{layout, apart, bad_layout, outside}
use Rattle.chain.specs.Chain.{bad_slices}
use Rattle.notify.specs.Notify.{notify_of}
use Rattle.ring.specs.Tables.{up_to, up_from}
use Rattle.virtio.specs.Chains.{slot_at, counter_at, ChainAt, UsedAt, Reached}
use Rattle.virtio.proofs.Positions.{goes_on, flips}
use Rattle.producer.specs.declared.RingProducer.{RingProducer}
use Rattle.producer.specs.Record as made
use Rattle.producer.specs.Submit.{submit_refusal, submit_of}
use Rattle.producer.specs.Poll as used
use Rattle.producer.proofs.Touch.{submit_length}
use Rattle.consumer.specs.declared.RingConsumer.{RingConsumer}
use Rattle.consumer.specs.Record as taken
use Rattle.consumer.specs.Complete.{complete_refusal, complete_of}
use Rattle.consumer.specs.Poll.{taken as picked, past_of, poll_of}
use Rattle.consumer.proofs.Touch.{complete_length}
use Rattle.back.proofs.Example.{zeros, none, addrs, lens, low_addrs, low_lens}
use Rattle.document.specs.Document.{cursor_at, element_in}
use Rattle.document.proofs.Positions.{cursor_position, has_position, reached_told, told_reached}
use Rattle.document.proofs.Chains.{submitted_chain, submitted_ids, submitted_cursor}
use Rattle.document.proofs.Used.{completed_slot, completed_cursor}
use Rattle.document.proofs.Polled.{chain_polled, used_polled}

-- ---- positions

four : 0 < 4
four = omega arith

-- eleven slots on, in the third round
pub eleven : steps 4 11 fresh ≡ at 3 true
eleven = cursor_position 4 four 11

-- in the second round, a cursor stands at a position from 4 on
pub stands_at_six : at 2 false ≡ cursor_at 4 6
stands_at_six = has_position 4 four (at 2 false) (omega arith)

-- the counter stays from slot 2 to slot 3, and flips behind slot 3, the last
pub stays : (slot_at 4 3 ≡ 3) × (counter_at 4 3 ≡ true)
stays = goes_on 4 four 2 (omega arith)

pub flipped : (slot_at 4 4 ≡ 0) × (counter_at 4 4 ≡ false)
flipped = flips 4 four 3 refl

-- DESC at slot 2 of the first round, and a batch of slots 1 and 2
pub waits : Reached 4 1 2 2 true
waits = record { step = 1; before = omega arith; slot = refl; round = refl }

pub told : notify_of (event 32770 2) 4 (cursor_at 4 1) (cursor_at 4 3) ≡ true
told = reached_told 4 four (event 32770 2) 1 2 (omega arith) refl (omega arith) waits

pub so_reached : Reached 4 1 2 2 true
so_reached = told_reached 4 four (event 32770 2) 1 2 (omega arith) refl (omega arith) told

-- ---- a chain of two from slot 3 of the first round on: its second element is in slot 0, available in the second round

zeros_bytes : Bytes zeros
unfolding zeros
zeros_bytes i =
    by_lt i 72
    (λ h. low (get_or-replicate {A = ℕ} 72 i 0 0 h))
    (λ h. low (get_or-eq_default (replicate 72 0) 0 {n = i} (omega (arith, length-replicate {A = ℕ} 72 0))))
  where
    low : {x : ℕ} → x ≡ 0 → x < 256
    low e = omega arith

abbrev writer : RingProducer
writer = record { layout = layout 4 0 64 68; avail = at 3 true; used = at 3 true; free = 4; height = 4; shadow = 0 }

submits : submit_refusal writer 72 (up_to 4) none 2 2 1 ≡ 0
unfolding none submit_refusal made.bad_record made.bad_lent bad_layout apart outside bad_slices up_from
submits = refl

pub sent : List ℕ
sent = (submit_of writer zeros (up_to 4) none addrs lens 1).ring

pub over_the_end : ChainAt sent 0 4 3 2 3 (element_in addrs lens 1)
unfolding sent zeros none addrs lens up_from
over_the_end = submitted_chain writer zeros (up_to 4) none addrs lens 1 submits zeros_bytes low_addrs low_lens 3 refl

pub past_the_end : (submit_of writer zeros (up_to 4) none addrs lens 1).end.avail ≡ at 1 false
unfolding zeros none addrs lens up_from
past_the_end = submitted_cursor writer zeros (up_to 4) none addrs lens 1 submits zeros_bytes low_addrs low_lens 3 refl

-- a device three slots on polls it

abbrev poller : RingConsumer
poller = record { layout = layout 4 0 64 68; avail = at 3 true; used = at 3 true; inflight = 0; shadow = 0 }

pub polled :
    poll_of poller sent none none none
    ≡ picked (done (3 ∷ 2 ∷ 1 ∷ [])) (past_of poller (at 1 false) 2) (set none 3 2) (sets none 0 addrs) (sets none 0 lens)
unfolding sent over_the_end zeros none addrs lens up_from taken.bad_record taken.bad_lent bad_layout apart outside
polled =
    chain_polled poller sent none none none 3 3 addrs lens 1 over_the_end
    (submitted_ids writer zeros (up_to 4) none addrs lens 1 submits zeros_bytes low_addrs low_lens 3 refl 0) refl (omega arith) refl
    refl (rw (submit_length writer zeros (up_to 4) none addrs lens 1 submits) refl) (omega arith) (omega arith) (omega arith) refl (omega arith)

-- ---- the completion of a chain of two with ID 3, at slot 3 of the first round

abbrev reader : RingConsumer
reader = record { layout = layout 4 0 64 68; avail = at 1 false; used = at 3 true; inflight = 2; shadow = 0 }

pub held : List ℕ
held = set none 3 2

completes : complete_refusal reader 72 3 held ≡ 0
unfolding held none complete_refusal taken.bad_record taken.bad_lent bad_layout apart outside
completes = refl

pub completed : List ℕ
completed = (complete_of reader zeros held 3 32).ring

pub used_at_three : UsedAt completed 0 4 3 3 32 false
unfolding completed zeros held none
used_at_three = completed_slot reader zeros held 3 32 completes zeros_bytes (omega arith) 3 refl

pub used_past : (complete_of reader zeros held 3 32).end.used ≡ at 1 false
unfolding zeros held none
used_past = completed_cursor reader zeros held 3 32 completes zeros_bytes (omega arith) 3 refl

-- a driver that has it out gets it back

abbrev getter : RingProducer
getter = record { layout = layout 4 0 64 68; avail = at 1 false; used = at 3 true; free = 2; height = 3; shadow = 0 }

pub got_back : (used.poll_of getter completed (up_to 4) held).answer ≡ done (3 ∷ 32 ∷ [])
unfolding completed zeros held none up_from made.bad_record made.bad_lent bad_layout apart outside
got_back =
    used_polled getter completed (up_to 4) held 3 3 32 false used_at_three refl
    refl (rw (complete_length reader zeros held 3 32 completes) refl) (omega arith) (omega arith) (omega arith) (omega arith)
