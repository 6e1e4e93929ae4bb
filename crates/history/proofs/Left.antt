-- What the calls of Run.antt left, computed over bytes: cursors and tables, event areas and what the notifications answer; and what their history
-- says.
-- Assumes nothing.
use mathlib.Core.Path.{◌≡◌, refl}
use mathlib.Core.List.{[], ◌∷◌}
use mathlib.Core.Bool.{true, false}
use lib.ListN.{drop}
use Rattle.base.specs.Answer as answer
use Rattle.base.specs.Bytes.{get_of}
use Rattle.cursor.specs.Cursor.{at}
use Rattle.producer.specs.Notices as used_notices
use Rattle.queue.specs.History.{items, pubs, polls, comps, reclaims, standing, held, finished, out}
use Rattle.queue.specs.Machine.{world_of}
use Rattle.packed.specs.Calls.{turn_used, enable_avail_for_next}
use Rattle.packed.specs.Machine.{World, tells_of, completes_told}
use Rattle.history.proofs.Computing.{computing}
use Rattle.history.proofs.Ends.{world_three, makes, takes}
use Rattle.history.proofs.Run.{a, b, c, d, e, f, g, h, i, machine_three, history}
use Rattle.history.proofs.Run.{calls_2, calls_3, calls_4, calls_6, calls_7, calls_9, calls_10, calls_11, calls}

-- the cursors: fresh, they wrap when a and b are out, and the used ones when a and b came back; at the end each has gone round four times
abbrev after_2 : World
after_2 = world_of machine_three world_three calls_2

abbrev after_3 : World
after_3 = world_of machine_three world_three calls_3

abbrev turned_off : World
turned_off = world_of machine_three world_three (makes (turn_used 1) tt ∷ calls_3)

abbrev after_4 : World
after_4 = world_of machine_three world_three calls_4

abbrev after_all : World
after_all = world_of machine_three world_three calls

pub record Cursors : Type 0 where
  pub producer_avail : after_3.producer.end.avail ≡ at 0 false
  pub consumer_avail : after_3.consumer.end.avail ≡ at 0 false
  pub producer_used_before : after_3.producer.end.used ≡ at 0 true
  pub consumer_used_before : after_3.consumer.end.used ≡ at 0 true
  pub producer_used : after_4.producer.end.used ≡ at 0 false
  pub consumer_used : after_4.consumer.end.used ≡ at 0 false
  pub all_free : after_all.producer.end.free ≡ 3
  pub none_in_flight : after_all.consumer.end.inflight ≡ 0
  pub producer_last : after_all.producer.end.avail ≡ at 0 true
  pub consumer_last : after_all.consumer.end.used ≡ at 0 true
  -- the free IDs as a stack, the last one on top
  pub ids_last : after_all.producer.ids ≡ 1 ∷ 2 ∷ 0 ∷ []
  -- the consumer asks to be told of b, whose submission answers its ID and yes; the producer, its notifications off, of no completion
  pub told_of_b : (tells_of after_2.producer after_2.ring b.chain).answer ≡ answer.done (1 ∷ 1 ∷ [])
  pub not_told : (completes_told turned_off.consumer turned_off.ring 1 64).answer ≡ answer.done (0 ∷ [])

pub cursors : Cursors
unfolding computing
cursors =
    record {
      producer_avail = refl;
      consumer_avail = refl;
      producer_used_before = refl;
      consumer_used_before = refl;
      producer_used = refl;
      consumer_used = refl;
      all_free = refl;
      none_in_flight = refl;
      producer_last = refl;
      consumer_last = refl;
      ids_last = refl;
      told_of_b = refl;
      not_told = refl;
    }

-- the six foreign calls left both ends and the bytes as they were
pub left_as_they_were : world_of machine_three world_three calls_7 ≡ world_of machine_three world_three calls_6
unfolding computing
left_as_they_were = refl

-- notifications armed: what they answer, and the event areas after them, the driver's at 48 and the device's at 52
abbrev armed_avail : World
armed_avail = world_of machine_three world_three (takes enable_avail_for_next tt ∷ calls_9)

abbrev after_10 : World
after_10 = world_of machine_three world_three calls_10

abbrev armed_used : World
armed_used = world_of machine_three world_three (drop 6 calls_11)

abbrev after_11 : World
after_11 = world_of machine_three world_three calls_11

abbrev armed_two : World
armed_two = world_of machine_three world_three (drop 10 calls)

pub record Armed : Type 0 where
  -- at the consumer's next slot, 0 in the round that is false: the submission of g passes it
  pub device_armed : get_of armed_avail.ring 52 4 ≡ 0 ∷ 0 ∷ 2 ∷ 0 ∷ []
  pub told_of_g : (tells_of armed_avail.producer armed_avail.ring g.chain).answer ≡ answer.done (1 ∷ 1 ∷ [])
  -- g and h together pass it too
  pub told_since : used_notices.since_of after_10.producer.end after_10.ring (at 0 false) ≡ answer.done (1 ∷ [])
  -- the driver's at slot 0 in that round: the completion of g passes it, and that of h does not
  pub driver_armed : get_of armed_used.ring 48 4 ≡ 0 ∷ 0 ∷ 2 ∷ 0 ∷ []
  pub told_of_completion : (completes_told armed_used.consumer armed_used.ring 1 4).answer ≡ answer.done (1 ∷ [])
  pub not_told_of_next : (completes_told after_11.consumer after_11.ring 2 0).answer ≡ answer.done (0 ∷ [])
  -- slot 2 in the round that is true; turned off, the device's area keeps its offset word; turned on, the driver's
  pub device_at_two : get_of armed_two.ring 52 4 ≡ 2 ∷ 128 ∷ 2 ∷ 0 ∷ []
  pub device_off : get_of after_all.ring 52 4 ≡ 2 ∷ 128 ∷ 1 ∷ 0 ∷ []
  pub driver_on : get_of after_all.ring 48 4 ≡ 0 ∷ 0 ∷ 0 ∷ 0 ∷ []

pub armed : Armed
unfolding computing
armed =
    record {
      device_armed = refl;
      told_of_g = refl;
      told_since = refl;
      driver_armed = refl;
      told_of_completion = refl;
      not_told_of_next = refl;
      device_at_two = refl;
      device_off = refl;
      driver_on = refl;
    }

-- ---- what the history says

pub record Told : Type 0 where
  -- the polls that stand gave all that was published, in that order; the polls of a, g and h that were rolled back are not among them
  pub published : pubs history ≡ a ∷ b ∷ c ∷ d ∷ e ∷ f ∷ g ∷ h ∷ i ∷ []
  pub polled : items (standing history) ≡ a ∷ b ∷ c ∷ d ∷ e ∷ f ∷ g ∷ h ∷ i ∷ []
  pub polls_made : polls history ≡ 12
  -- b was completed before a, and e before c and d
  pub completed : items (finished history) ≡ b ∷ a ∷ e ∷ c ∷ d ∷ f ∷ g ∷ h ∷ i ∷ []
  -- what came back is what was completed
  pub came_back : reclaims history ≡ comps history
  pub nothing_out : out history ≡ []

pub told_by_it : Told
unfolding pubs polls standing held finished comps reclaims out
told_by_it = record { published = refl; polled = refl; polls_made = refl; completed = refl; came_back = refl; nothing_out = refl }
