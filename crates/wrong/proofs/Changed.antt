-- Rings that are the packed one but for some of their calls. A ring is any answer and any bytes, tables and record for any call of either end
-- (packed/specs/Machine.antt `Ring`), so every call can be wrong.
-- Assumes nothing.
use Prim.Native.Nat.{ℕ}
use mathlib.Core.List.{List, []}
use mathlib.Core.Bool.{Bool, true, false, cond}
use Rattle.base.specs.Answer.{Answer}
use Rattle.producer.specs.declared.RingProducer.{RingProducer}
use Rattle.consumer.specs.declared.RingConsumer.{RingConsumer}
use Rattle.queue.specs.History.{Chain}
use Rattle.packed.specs.Calls.{ProducerCall, ConsumerCall, one_of}
use Rattle.packed.specs.Calls.{submit_available, submit_available_with_notify, submit_one, submit_one_with_notify, poll_used, next_id}
use Rattle.packed.specs.Calls.{producer_asked, should_notify_since, turn_used, enable_used_desc, enable_used_for_next, producer_reset}
use Rattle.packed.specs.Calls.{poll_available, submit_used, submit_used_with_notify, peek_available, poll_checkpoint, rollback_polls}
use Rattle.packed.specs.Calls.{consumer_asked, turn_avail, enable_avail_desc, enable_avail_for_next, consumer_reset}
use Rattle.packed.specs.Machine.{Ring, ProducerSide, ConsumerSide, ProducerLeaves, ConsumerLeaves, packed}

-- the packed ring with other calls of the producer, of the consumer, or of both
abbrev pub ring_by : (ProducerCall → ProducerSide → List ℕ → ProducerLeaves) → (ConsumerCall → ConsumerSide → List ℕ → ConsumerLeaves) → Ring
ring_by p c = record { producer = p; consumer = c; producer_new = packed.producer_new; consumer_new = packed.consumer_new }

abbrev pub producer_by : (ProducerCall → ProducerSide → List ℕ → ProducerLeaves) → Ring
producer_by p = ring_by p packed.consumer

abbrev pub consumer_by : (ConsumerCall → ConsumerSide → List ℕ → ConsumerLeaves) → Ring
consumer_by c = ring_by packed.producer c

-- the same answer with another record, or other tables or bytes
abbrev pub made_with : ProducerLeaves → RingProducer → List ℕ → List ℕ → List ℕ → ProducerLeaves
made_with o p i k r = record { answer = o.answer; side = record { end = p; ids = i; counts = k }; ring = r }

abbrev pub taken_with : ConsumerLeaves → RingConsumer → ConsumerLeaves
taken_with o p = record { answer = o.answer; side = record { end = p; counts = o.side.counts }; ring = o.ring; addrs = o.addrs; lens = o.lens }

-- an answer, and nothing changed
abbrev pub only_made : ProducerSide → List ℕ → Answer → ProducerLeaves
only_made s r a = record { answer = a; side = s; ring = r }

abbrev pub only_taken : ConsumerSide → List ℕ → Answer → ConsumerLeaves
only_taken s r a = record { answer = a; side = s; ring = r; addrs = []; lens = [] }

-- ---- which call it is

abbrev pub is_submit : ProducerCall → Bool
is_submit (submit_available c) = true
is_submit (submit_available_with_notify c) = true
is_submit (submit_one a l b) = true
is_submit (submit_one_with_notify a l b) = true
is_submit poll_used = false
is_submit next_id = false
is_submit (producer_asked q) = false
is_submit (should_notify_since c) = false
is_submit (turn_used f) = false
is_submit (enable_used_desc o b) = false
is_submit enable_used_for_next = false
is_submit producer_reset = false

-- the chain of a submission
abbrev pub chain_in : ProducerCall → Chain
chain_in (submit_available c) = c
chain_in (submit_available_with_notify c) = c
chain_in (submit_one a l b) = one_of a l b
chain_in (submit_one_with_notify a l b) = one_of a l b
chain_in poll_used = record { addrs = []; lens = []; readable = 0 }
chain_in next_id = record { addrs = []; lens = []; readable = 0 }
chain_in (producer_asked q) = record { addrs = []; lens = []; readable = 0 }
chain_in (should_notify_since c) = record { addrs = []; lens = []; readable = 0 }
chain_in (turn_used f) = record { addrs = []; lens = []; readable = 0 }
chain_in (enable_used_desc o b) = record { addrs = []; lens = []; readable = 0 }
chain_in enable_used_for_next = record { addrs = []; lens = []; readable = 0 }
chain_in producer_reset = record { addrs = []; lens = []; readable = 0 }

abbrev pub is_reclaim : ProducerCall → Bool
is_reclaim (submit_available c) = false
is_reclaim (submit_available_with_notify c) = false
is_reclaim (submit_one a l b) = false
is_reclaim (submit_one_with_notify a l b) = false
is_reclaim poll_used = true
is_reclaim next_id = false
is_reclaim (producer_asked q) = false
is_reclaim (should_notify_since c) = false
is_reclaim (turn_used f) = false
is_reclaim (enable_used_desc o b) = false
is_reclaim enable_used_for_next = false
is_reclaim producer_reset = false

abbrev pub is_poll : ConsumerCall → Bool
is_poll (poll_available addrs lens) = true
is_poll (submit_used i l) = false
is_poll (submit_used_with_notify i l) = false
is_poll peek_available = false
is_poll poll_checkpoint = false
is_poll (rollback_polls c js) = false
is_poll (consumer_asked q) = false
is_poll (turn_avail f) = false
is_poll (enable_avail_desc o b) = false
is_poll enable_avail_for_next = false
is_poll consumer_reset = false

abbrev pub is_peek : ConsumerCall → Bool
is_peek (poll_available addrs lens) = false
is_peek (submit_used i l) = false
is_peek (submit_used_with_notify i l) = false
is_peek peek_available = true
is_peek poll_checkpoint = false
is_peek (rollback_polls c js) = false
is_peek (consumer_asked q) = false
is_peek (turn_avail f) = false
is_peek (enable_avail_desc o b) = false
is_peek enable_avail_for_next = false
is_peek consumer_reset = false

abbrev pub is_rollback : ConsumerCall → Bool
is_rollback (poll_available addrs lens) = false
is_rollback (submit_used i l) = false
is_rollback (submit_used_with_notify i l) = false
is_rollback peek_available = false
is_rollback poll_checkpoint = false
is_rollback (rollback_polls c js) = true
is_rollback (consumer_asked q) = false
is_rollback (turn_avail f) = false
is_rollback (enable_avail_desc o b) = false
is_rollback enable_avail_for_next = false
is_rollback consumer_reset = false

-- the packed ring, with what some calls leave changed: the change is given the call, what it was lent and what the real call leaves
abbrev pub with_producer :
    (ProducerCall → Bool) → (ProducerCall → ProducerSide → List ℕ → ProducerLeaves → ProducerLeaves) → Ring
with_producer which change =
    producer_by (λ c s r. cond (which c) (change c s r (packed.producer c s r)) (packed.producer c s r))

abbrev pub with_consumer :
    (ConsumerCall → Bool) → (ConsumerCall → ConsumerSide → List ℕ → ConsumerLeaves → ConsumerLeaves) → Ring
with_consumer which change =
    consumer_by (λ c s r. cond (which c) (change c s r (packed.consumer c s r)) (packed.consumer c s r))
