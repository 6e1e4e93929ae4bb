-- The theorems at values: a ring of three slots, the avail cursor on its last, so that a chain goes on over the ring's end.
-- Assumes nothing.
use Prim.Native.Nat.{ℕ, zero, suc, ◌+◌, ◌≤◌, ◌<◌}
use mathlib.Core.Path.{◌≡◌, refl}
use mathlib.Core.Logic.{◌↔◌, inl, inr}
use mathlib.Core.List.{List, [], ◌∷◌, ◌++◌}
use mathlib.Core.Bool.{true, false}
use native.Mathlib.Omega.{arith}
use lib.ListN.{replicate}
use Rattle.base.specs.Bytes.{bytes_of, word_at, get_of}
use Rattle.cursor.specs.Cursor.{at, step, steps}
use Rattle.desc.specs.declared.Descriptor.{Descriptor}
use Rattle.desc.specs.Flags.{is_avail}
use Rattle.desc.specs.Desc.{descriptor, encode_of, decode_of}
use Rattle.layout.specs.Layout.{layout, apart, bad_layout, outside}
use Rattle.layout.specs.Layout as laid
use Rattle.ring.specs.Slots.{slot_of}
use Rattle.walk.specs.Walk.{look_of, walk_of, slots_from}
use Rattle.producer.specs.Fresh as made
use Rattle.consumer.specs.declared.RingConsumer.{RingConsumer}
use Rattle.consumer.specs.Record.{bad_record, bad_lent}
use Rattle.consumer.specs.Poll.{Taken, head_refusal, walk_refusal, poll_refusal, past_of, polled_of, poll_of}
use Rattle.consumer.specs.Fresh as taken
use Rattle.converse.specs.Geometry.{Broken, Outside, InvalidLayout}
use Rattle.converse.specs.Geometry.Broken.{no_slots, too_many, table_offset, driver_offset, device_offset, table_driver, table_device}
use Rattle.converse.specs.Geometry.Broken.{driver_device}
use Rattle.converse.specs.Geometry.Outside.{table, driver, device}
use Rattle.converse.specs.Chain.{slot_from, Next, Writable, Readable, Indirect, IsChain, BadChain}
use Rattle.converse.specs.Chain.BadChain.{indirect, readable_after_writable, next_still_set}
use Rattle.converse.specs.Poll.{GoodRecord, GoodLent, HeadAvailable, InvalidState, Handed}
use Rattle.converse.specs.Poll.InvalidState.{not_below, recorded, passes_size}
use Rattle.converse.proofs.Ladder.{false_not_true}
use Rattle.converse.proofs.Walk.{chain_not_bad, one_chain}
use Rattle.converse.proofs.Polls.{poll_7, poll_8, poll_3, poll_2, poll_5, poll_0}
use Rattle.converse.proofs.Handed.{poll_hands_out}
use Rattle.converse.proofs.Opening.{producer_invalid, producer_short, producer_opens_lem, consumer_invalid, consumer_short, consumer_opens_lem}
use Rattle.converse.proofs.Opening.{layout_invalid, layout_opens}

-- ---- the ring: 48 bytes of slots, and two event areas

pub reader : RingConsumer
reader = record { layout = layout 3 0 48 52; avail = at 2 true; used = at 2 true; inflight = 0; shadow = 0 }

-- its bytes, by the flags of the head and of the two slots after it. The head has ID 1
pub bytes : ℕ → ℕ → ℕ → List ℕ
bytes head second third =
    encode_of (descriptor 8192 32 0 second)
    ++ (encode_of (descriptor 12288 48 0 third) ++ (encode_of (descriptor 4096 16 1 head) ++ replicate 8 0))

pub none : List ℕ
none = 0 ∷ 0 ∷ 0 ∷ []

-- outputs of four entries, one more than the ring has slots
pub out : List ℕ
out = 7 ∷ 7 ∷ 7 ∷ 7 ∷ []

pub polls : ℕ → ℕ → ℕ → Taken
polls head second third = poll_of reader (bytes head second third) none out out

-- what is unfolded to compute over bytes
computing : Unit {0}
unfolding reader bytes none out polls bytes_of word_at get_of step steps is_avail encode_of decode_of apart bad_layout outside slot_of look_of walk_of slots_from bad_record bad_lent head_refusal walk_refusal poll_refusal past_of polled_of poll_of made.fresh_of made.open_of taken.fresh_of taken.open_of
computing = tt

-- AVAIL is 128, NEXT 1, WRITE 2, INDIRECT 4
pub record Computed : Type 0 where
  -- a readable element, and a writable one without any mark
  pub taken : (polls 129 2 0).answer.number ≡ 0
  pub values : (polls 129 2 0).answer.values ≡ 1 ∷ 2 ∷ 1 ∷ []
  pub addresses : (polls 129 2 0).addrs ≡ 4096 ∷ 8192 ∷ 7 ∷ 7 ∷ []
  pub indirect_tail : (polls 129 4 0).answer.number ≡ 2
  pub readable_late : (polls 131 0 0).answer.number ≡ 2
  pub no_end : (polls 129 1 1).answer.number ≡ 2
  -- INDIRECT on a head that is not available
  pub indirect_not_available : (polls 4 0 0).answer.number ≡ 3

pub computed : Computed
unfolding computing
computed =
    record {
      taken = refl;
      values = refl;
      addresses = refl;
      indirect_tail = refl;
      readable_late = refl;
      no_end = refl;
      indirect_not_available = refl;
    }

-- ---- by the theorems: the reason gives the number, and a computed number has its reason

-- what holds of 0 holds below 1
below_one : (P : ℕ → Type 0) → P 0 → (i : ℕ) → i < 1 → P i
below_one P a zero h = a
below_one P a (suc i) h = absurd (omega arith)

below_two : (P : ℕ → Type 0) → P 0 → P 1 → (i : ℕ) → i < 2 → P i
below_two P a b zero h = a
below_two P a b (suc zero) h = b
below_two P a b (suc (suc i)) h = absurd (omega arith)

below_three : (P : ℕ → Type 0) → P 0 → P 1 → P 2 → (i : ℕ) → i < 3 → P i
below_three P a b c zero h = a
below_three P a b c (suc zero) h = b
below_three P a b c (suc (suc zero)) h = c
below_three P a b c (suc (suc (suc i))) h = absurd (omega arith)

not_broken : ¬ Broken (layout 3 0 48 52)
not_broken (no_slots h) = omega arith
not_broken (too_many h) = omega arith
not_broken (table_offset h) = h refl
not_broken (driver_offset h) = h refl
not_broken (device_offset h) = h refl
not_broken (table_driver (k, a, b, c, d)) = omega arith
not_broken (table_device (k, a, b, c, d)) = omega arith
not_broken (driver_device (k, a, b, c, d)) = omega arith

not_outside : ¬ Outside (layout 3 0 48 52) 56
not_outside (table h) = omega arith
not_outside (driver h) = omega arith
not_outside (device h) = omega arith

pub good : GoodRecord reader
unfolding reader
good = record { geometry = not_broken; avail = omega arith; used = omega arith; inflight = omega arith }

pub lent : (head second third count : ℕ) → GoodLent reader (bytes head second third) (0 ∷ count ∷ 0 ∷ []) out out
unfolding reader bytes out encode_of bytes_of
lent head second third count =
    record { bytes_whole = not_outside; counts_whole = omega arith; addrs_whole = omega arith; lens_whole = omega arith }

-- AVAIL is set in the head, as in round true, and USED is not
marked : (true ≡ true) × (¬ (false ≡ true))
marked = (refl, false_not_true)

-- an accepted poll is a chain
pub handed : (n : ℕ) × (r : ℕ) × Handed reader (bytes 129 2 0) out out (polls 129 2 0) n r
unfolding polls
handed = poll_hands_out reader (bytes 129 2 0) none out out computed.taken

-- 2 for INDIRECT, here in the slot after the head
pub by_indirect : (polls 129 4 0).answer.number ≡ 2
unfolding computing
by_indirect =
    (poll_2 reader (bytes 129 4 0) none out out).1
    (good, lent 129 4 0 0, marked, indirect 1 (omega arith, below_one _ refl) refl)

-- for a readable element after a writable one
pub by_order : (polls 131 0 0).answer.number ≡ 2
unfolding computing
by_order =
    (poll_2 reader (bytes 131 0 0) none out out).1
    (good, lent 131 0 0 0, marked, readable_after_writable 1 0 (omega arith, below_one _ refl) (omega arith) refl false_not_true)

-- and for NEXT in all three slots
pub by_length : (polls 129 1 1).answer.number ≡ 2
unfolding computing
by_length =
    (poll_2 reader (bytes 129 1 1) none out out).1
    (good, lent 129 1 1 0, marked, next_still_set (below_three _ refl refl refl))

pub so_bad : BadChain (slot_from reader (bytes 129 4 0)) 3
unfolding computing
so_bad = ((poll_2 reader (bytes 129 4 0) none out out).0 computed.indirect_tail).3

-- 3 for a head that is not available, with INDIRECT though it be
pub waits : (polls 4 0 0).answer.number ≡ 3
unfolding computing
waits = (poll_3 reader (bytes 4 0 0) none out out).1 (good, lent 4 0 0 0, λ a. false_not_true a.0)

pub so_waits : ¬ HeadAvailable reader (bytes 4 0 0)
unfolding polls
so_waits = ((poll_3 reader (bytes 4 0 0) none out out).0 computed.indirect_not_available).2

-- 7 for a head at the size, 8 for outputs of two entries
pub no_slot : (poll_of (record { layout = layout 3 0 48 52; avail = at 3 true; used = at 2 true; inflight = 0; shadow = 0 }) [] [] [] []).answer.number ≡ 7
no_slot =
    (poll_7 (record { layout = layout 3 0 48 52; avail = at 3 true; used = at 2 true; inflight = 0; shadow = 0 }) [] [] [] []).1
    (λ g. omega (arith, g.avail))

pub short_outputs : (poll_of reader (bytes 129 2 0) none (7 ∷ 7 ∷ []) out).answer.number ≡ 8
unfolding reader
short_outputs = (poll_8 reader (bytes 129 2 0) none (7 ∷ 7 ∷ []) out).1 (good, λ l. omega (arith, l.addrs_whole))

-- 0 for a chain of two, the second writable
pub slot : ℕ → Descriptor
slot = slot_from reader (bytes 129 2 0)

last : (i : ℕ) → i + 1 ≡ 2 → ¬ Next (slot i)
unfolding slot computing
last zero h = absurd (omega arith)
last (suc zero) h = false_not_true
last (suc (suc i)) h = absurd (omega arith)

ordered : (i j : ℕ) → i ≤ j → j < 2 → Writable (slot i) → Writable (slot j)
unfolding slot computing
ordered zero j h q t = absurd (false_not_true t)
ordered (suc i) zero h q t = absurd (omega arith)
ordered (suc i) (suc zero) h q t = refl
ordered (suc i) (suc (suc j)) h q t = absurd (omega arith)

pub chain : IsChain slot 3 2 1
unfolding slot computing
chain =
    record {
      some_slots = omega arith;
      few = omega arith;
      next = λ i h. below_one (λ (j : ℕ). Next (slot j)) refl i (omega arith);
      last = last;
      direct = below_two (λ (i : ℕ). ¬ Indirect (slot i)) false_not_true false_not_true;
      ordered = ordered;
      within = omega arith;
      readable =
          below_two (λ (i : ℕ). Readable (slot i) ↔ (i < 1)) (λ x. omega arith, λ q. false_not_true)
          (λ x. absurd (x refl), λ q. absurd (omega arith));
    }

-- it is the one that the poll hands out, and no bad one
pub same_chain : (handed.0 ≡ 2) × (handed.1 ≡ 1)
unfolding reader slot
same_chain = one_chain slot 3 handed.0 handed.1 2 1 handed.2.chain chain

pub not_bad : ¬ BadChain slot 3
not_bad = chain_not_bad slot 3 2 1 chain

no_count : ¬ InvalidState reader none 1 2
unfolding reader none
no_count (not_below h) = omega arith
no_count (recorded h) = h refl
no_count (passes_size h) = omega arith

pub accepted : (polls 129 2 0).answer.number ≡ 0
unfolding slot computing
accepted = (poll_0 reader (bytes 129 2 0) none out out).1 (good, lent 129 2 0 0, marked, (2, 1, chain, no_count))

-- and 5 where its ID has a count
pub counted : (poll_of reader (bytes 129 2 0) (0 ∷ 5 ∷ 0 ∷ []) out out).answer.number ≡ 5
unfolding slot computing
counted =
    (poll_5 reader (bytes 129 2 0) (0 ∷ 5 ∷ 0 ∷ []) out out).1 (good, lent 129 2 0 5, marked, (2, 1, chain, recorded (λ e. omega arith)))

-- ---- openings over 56 bytes: the ring of three, and one whose driver event lies in its last slot

pub zeros : List ℕ
zeros = replicate 56 0

pub record Openings : Type 0 where
  pub producer_whole : (made.open_of 3 0 48 52 zeros none none).answer.number ≡ 0
  pub consumer_whole : (taken.open_of 3 0 48 52 zeros none).answer.number ≡ 0
  pub producer_overlap : (made.open_of 3 0 44 52 zeros none none).answer.number ≡ 6
  pub consumer_overlap : (taken.open_of 3 0 44 52 zeros none).answer.number ≡ 6
  pub producer_two : (made.open_of 3 0 48 52 zeros none (0 ∷ 0 ∷ [])).answer.number ≡ 8
  pub consumer_two : (taken.open_of 3 0 48 52 zeros (0 ∷ 0 ∷ [])).answer.number ≡ 8

pub openings : Openings
unfolding computing zeros
openings =
    record {
      producer_whole = refl;
      consumer_whole = refl;
      producer_overlap = refl;
      consumer_overlap = refl;
      producer_two = refl;
      consumer_two = refl;
    }

-- by the theorems: byte 44 is the table's and the driver event's
overlap : InvalidLayout (layout 3 0 44 52) 56
overlap = inl (table_driver (44, omega arith, omega arith, omega arith, omega arith))

whole : ¬ InvalidLayout (layout 3 0 48 52) 56
whole (inl b) = not_broken b
whole (inr o) = not_outside o

pub by_theorems : Openings
unfolding computing zeros
by_theorems =
    record {
      producer_whole = (producer_opens_lem 3 0 48 52 zeros none none).1 (whole, (omega arith, omega arith));
      consumer_whole = (consumer_opens_lem 3 0 48 52 zeros none).1 (whole, omega arith);
      producer_overlap = (producer_invalid 3 0 44 52 zeros none none).1 overlap;
      consumer_overlap = (consumer_invalid 3 0 44 52 zeros none).1 overlap;
      producer_two = (producer_short 3 0 48 52 zeros none (0 ∷ 0 ∷ [])).1 (whole, inr (omega arith));
      consumer_two = (consumer_short 3 0 48 52 zeros (0 ∷ 0 ∷ [])).1 (whole, omega arith);
    }

pub geometry : (laid.open_of (layout 3 0 44 52) 56).number ≡ 6
geometry = (layout_invalid (layout 3 0 44 52) 56).1 overlap

pub good_geometry : (laid.open_of (layout 3 0 48 52) 56).number ≡ 0
good_geometry = (layout_opens (layout 3 0 48 52) 56).1 whole

-- and back
pub so_invalid : InvalidLayout (layout 3 0 44 52) 56
unfolding zeros
so_invalid = (producer_invalid 3 0 44 52 zeros none none).0 openings.producer_overlap

pub so_whole : ¬ InvalidLayout (layout 3 0 48 52) 56
unfolding zeros
so_whole = ((consumer_opens_lem 3 0 48 52 zeros none).0 openings.consumer_whole).0
