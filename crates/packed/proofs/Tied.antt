-- The machine's step is the function's contract: whatever result and exit the GENERATED contract of a public function of either end allows, the packed
-- ring's definition gives that answer and leaves that, of all that the function was lent. One line for each function: with one of them left out, the
-- calls of real functions (Real.antt) are no longer calls of the machine.
-- Assumes nothing.
use Prim.Native.Nat.{ℕ}
use mathlib.Core.Path.{◌≡◌, sym, ap}
use mathlib.Core.List.{List}
use Rattle.packed.specs.Machine.{ProducerSide, ConsumerSide, ProducerLeaves, ConsumerLeaves, producer_does, consumer_does}
use Rattle.packed.specs.Machine.{made_all, made_changed, made_answer, taken_chain, taken_all, taken_back, taken_changed, taken_answer}
use Rattle.packed.specs.RealProducer.{RealProducer}
use Rattle.packed.specs.RealProducer as producer
use Rattle.packed.specs.RealConsumer.{RealConsumer}
use Rattle.packed.specs.RealConsumer as consumer

-- ---- the producer's functions

-- what a call answered and left, in the machine's terms
abbrev producer_left : ProducerSide → List ℕ → RealProducer → ProducerLeaves
producer_left s r x = record { answer = producer.answer_of x; side = producer.side_left s x; ring = producer.bytes_left r x }

pub producer_tied :
    (s : ProducerSide) (r : List ℕ) (x : RealProducer)
    → producer_does (producer.call_of x) (producer.side_lent s x) (producer.bytes_lent r x) ≡ producer_left s r x
unfolding producer_does
producer_tied s r (producer.real_submit_one m) = ap made_all (sym m.meets)
producer_tied s r (producer.real_submit_available m) = ap made_all (sym m.meets)
producer_tied s r (producer.real_submit_one_with_notify m) = ap made_all (sym m.meets)
producer_tied s r (producer.real_submit_available_with_notify m) = ap made_all (sym m.meets)
producer_tied s r (producer.real_poll_used m) = ap made_all (sym m.meets)
producer_tied s r (producer.real_next_id m) = ap (made_answer (producer.side_lent s (producer.real_next_id m)) (producer.bytes_lent r (producer.real_next_id m))) (sym m.meets)
producer_tied s r (producer.num_free m) = ap (made_answer (producer.side_lent s (producer.num_free m)) (producer.bytes_lent r (producer.num_free m))) (sym m.meets)
producer_tied s r (producer.num_inflight m) = ap (made_answer (producer.side_lent s (producer.num_inflight m)) (producer.bytes_lent r (producer.num_inflight m))) (sym m.meets)
producer_tied s r (producer.is_full m) = ap (made_answer (producer.side_lent s (producer.is_full m)) (producer.bytes_lent r (producer.is_full m))) (sym m.meets)
producer_tied s r (producer.len m) = ap (made_answer (producer.side_lent s (producer.len m)) (producer.bytes_lent r (producer.len m))) (sym m.meets)
producer_tied s r (producer.desc_table m) = ap (made_answer (producer.side_lent s (producer.desc_table m)) (producer.bytes_lent r (producer.desc_table m))) (sym m.meets)
producer_tied s r (producer.avail_cursor m) = ap (made_answer (producer.side_lent s (producer.avail_cursor m)) (producer.bytes_lent r (producer.avail_cursor m))) (sym m.meets)
producer_tied s r (producer.used_cursor m) = ap (made_answer (producer.side_lent s (producer.used_cursor m)) (producer.bytes_lent r (producer.used_cursor m))) (sym m.meets)
producer_tied s r (producer.real_should_notify_since m) = ap (made_answer (producer.side_lent s (producer.real_should_notify_since m)) (producer.bytes_lent r (producer.real_should_notify_since m))) (sym m.meets)
producer_tied s r (producer.disable_used_notifications m) = ap (made_changed s) (sym m.meets)
producer_tied s r (producer.enable_used_notifications m) = ap (made_changed s) (sym m.meets)
producer_tied s r (producer.enable_used_notifications_desc m) = ap (made_changed s) (sym m.meets)
producer_tied s r (producer.enable_used_notifications_for_next m) = ap (made_changed s) (sym m.meets)
producer_tied s r (producer.reset m) = ap made_all (sym m.meets)

-- ---- the consumer's

abbrev consumer_left : ConsumerSide → List ℕ → RealConsumer → ConsumerLeaves
consumer_left s r x =
    record {
      answer = consumer.answer_of x;
      side = consumer.side_left s x;
      ring = consumer.bytes_left r x;
      addrs = consumer.addrs_left x;
      lens = consumer.lens_left x;
    }

pub consumer_tied :
    (s : ConsumerSide) (r : List ℕ) (x : RealConsumer)
    → consumer_does (consumer.call_of x) (consumer.side_lent s x) (consumer.bytes_lent r x) ≡ consumer_left s r x
unfolding consumer_does
consumer_tied s r (consumer.real_poll_available m) = ap (taken_chain (consumer.bytes_lent r (consumer.real_poll_available m))) (sym m.meets)
consumer_tied s r (consumer.real_submit_used m) = ap taken_all (sym m.meets)
consumer_tied s r (consumer.real_submit_used_with_notify m) = ap taken_all (sym m.meets)
consumer_tied s r (consumer.real_peek_available m) = ap (taken_answer (consumer.side_lent s (consumer.real_peek_available m)) (consumer.bytes_lent r (consumer.real_peek_available m))) (sym m.meets)
consumer_tied s r (consumer.real_poll_checkpoint m) = ap (taken_answer (consumer.side_lent s (consumer.real_poll_checkpoint m)) (consumer.bytes_lent r (consumer.real_poll_checkpoint m))) (sym m.meets)
consumer_tied s r (consumer.real_rollback_polls m) = ap (taken_back r) (sym m.meets)
consumer_tied s r (consumer.num_free m) = ap (taken_answer (consumer.side_lent s (consumer.num_free m)) (consumer.bytes_lent r (consumer.num_free m))) (sym m.meets)
consumer_tied s r (consumer.num_inflight m) = ap (taken_answer (consumer.side_lent s (consumer.num_inflight m)) (consumer.bytes_lent r (consumer.num_inflight m))) (sym m.meets)
consumer_tied s r (consumer.is_full m) = ap (taken_answer (consumer.side_lent s (consumer.is_full m)) (consumer.bytes_lent r (consumer.is_full m))) (sym m.meets)
consumer_tied s r (consumer.len m) = ap (taken_answer (consumer.side_lent s (consumer.len m)) (consumer.bytes_lent r (consumer.len m))) (sym m.meets)
consumer_tied s r (consumer.avail_cursor m) = ap (taken_answer (consumer.side_lent s (consumer.avail_cursor m)) (consumer.bytes_lent r (consumer.avail_cursor m))) (sym m.meets)
consumer_tied s r (consumer.used_cursor m) = ap (taken_answer (consumer.side_lent s (consumer.used_cursor m)) (consumer.bytes_lent r (consumer.used_cursor m))) (sym m.meets)
consumer_tied s r (consumer.disable_avail_notifications m) = ap (taken_changed s) (sym m.meets)
consumer_tied s r (consumer.enable_avail_notifications m) = ap (taken_changed s) (sym m.meets)
consumer_tied s r (consumer.enable_avail_notifications_desc m) = ap (taken_changed s) (sym m.meets)
consumer_tied s r (consumer.enable_avail_notifications_for_next m) = ap (taken_changed s) (sym m.meets)
consumer_tied s r (consumer.reset m) = ap taken_all (sym m.meets)
