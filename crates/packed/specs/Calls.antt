-- "Any mix of their calls": every call of both ends, with any arguments of their types, and whom each is given to. The names are the Rust's, but for
-- the questions and the notifications. That no public function is left out: Real.antt has a case for each.
use Rattle.std.specs.Prelude.{ℕ, ◌^◌, ◌<◌, List, [], ◌∷◌, Bool, true, cond, ◌&&◌, ltb, leb, eqb, length, get_or}
use Rattle.cursor.specs.declared.RingCursor.{RingCursor}
use Rattle.layout.specs.declared.Layout.{Layout}
use Rattle.producer.specs.declared.RingProducer.{RingProducer}
use Rattle.consumer.specs.declared.RingConsumer.{RingConsumer}
use Rattle.consumer.specs.declared.Checkpoint.{Checkpoint}
use Rattle.queue.specs.History.{Chain, Kind, Request}
use Rattle.queue.specs.History as said

-- ---- the calls, without the record, tables and bytes that they are given

-- what is asked of a record alone: its counts, cursors and table
pub data ProducerQuestion : Type 0 where
  producer_num_free : ProducerQuestion
  producer_num_inflight : ProducerQuestion
  producer_is_full : ProducerQuestion
  producer_len : ProducerQuestion
  producer_desc_table : ProducerQuestion
  producer_avail_cursor : ProducerQuestion
  producer_used_cursor : ProducerQuestion

pub data ConsumerQuestion : Type 0 where
  consumer_num_free : ConsumerQuestion
  consumer_num_inflight : ConsumerQuestion
  consumer_is_full : ConsumerQuestion
  consumer_len : ConsumerQuestion
  consumer_avail_cursor : ConsumerQuestion
  consumer_used_cursor : ConsumerQuestion

pub data ProducerCall : Type 0 where
  submit_available : Chain → ProducerCall
  submit_available_with_notify : Chain → ProducerCall
  -- address, length, writable
  submit_one : ℕ → ℕ → Bool → ProducerCall
  submit_one_with_notify : ℕ → ℕ → Bool → ProducerCall
  poll_used : ProducerCall
  next_id : ProducerCall
  producer_asked : ProducerQuestion → ProducerCall
  -- an old avail cursor
  should_notify_since : RingCursor → ProducerCall
  -- enable_used_notifications (of ENABLE) and disable_used_notifications (of DISABLE)
  turn_used : ℕ → ProducerCall
  -- enable_used_notifications_desc: offset, wrap; and .._for_next
  enable_used_desc : ℕ → Bool → ProducerCall
  enable_used_for_next : ProducerCall
  producer_reset : ProducerCall

pub data ConsumerCall : Type 0 where
  -- two outputs, for addresses and lengths
  poll_available : List ℕ → List ℕ → ConsumerCall
  -- ID, length
  submit_used : ℕ → ℕ → ConsumerCall
  submit_used_with_notify : ℕ → ℕ → ConsumerCall
  peek_available : ConsumerCall
  poll_checkpoint : ConsumerCall
  -- the checkpoint, and the IDs of the polls to undo
  rollback_polls : Checkpoint → List ℕ → ConsumerCall
  consumer_asked : ConsumerQuestion → ConsumerCall
  -- the same for available notifications
  turn_avail : ℕ → ConsumerCall
  enable_avail_desc : ℕ → Bool → ConsumerCall
  enable_avail_for_next : ConsumerCall
  consumer_reset : ConsumerCall

-- ---- to whom

-- "each end given back its own last record and tables": an end's call, given the end's own and the ring's bytes
pub data Own : Type 0 where
  by_producer : ProducerCall → Own
  by_consumer : ConsumerCall → Own

-- a thing that a call is given: the end's own (or, of bytes, the ring's), or another
pub data Lent (A : Type 0) : Type 0 where
  its : Lent A
  another : A → Lent A

pub record LentProducer : Type 0 where
  pub end : Lent RingProducer
  pub ids : Lent (List ℕ)
  pub counts : Lent (List ℕ)

pub record LentConsumer : Type 0 where
  pub end : Lent RingConsumer
  pub counts : Lent (List ℕ)

-- a call of either end given any record, tables and bytes, some of them the end's own; and an opening with any geometry, tables and bytes, some of
-- them an end's. "Calls refused for bad records or buffers" are among these
pub data Foreign : Type 0 where
  to_producer : LentProducer → Lent (List ℕ) → ProducerCall → Foreign
  to_consumer : LentConsumer → Lent (List ℕ) → ConsumerCall → Foreign
  -- geometry; IDs, counts; bytes
  new_producer : Layout → Lent (List ℕ) → Lent (List ℕ) → Lent (List ℕ) → Foreign
  new_consumer : Layout → Lent (List ℕ) → Lent (List ℕ) → Foreign

pub data Call : Type 0 where
  own : Own → Call
  foreign : Foreign → Call

-- ---- what a call asks for, and whether it is valid, by the size that was opened

-- one element as a chain
abbrev pub one_of : ℕ → ℕ → Bool → Chain
one_of addr len writable = record { addrs = addr ∷ []; lens = len ∷ []; readable = cond writable 0 1 }

-- a chain's slices are of equal length, with a readable count within it; both outputs have an entry for each slot; a checkpoint's heads are on
-- the ring
abbrev pub valid_chain : Chain → Bool
valid_chain c = eqb (length c.addrs) (length c.lens) && leb c.readable (length c.addrs)

abbrev pub valid_outputs : ℕ → List ℕ → List ℕ → Bool
valid_outputs size addrs lens = leb size (length addrs) && leb size (length lens)

abbrev pub valid_checkpoint : ℕ → Checkpoint → Bool
valid_checkpoint size c = ltb c.avail.head size && ltb c.used.head size

abbrev pub asks : Kind Checkpoint → Bool → Request Checkpoint
asks k v = record { kind = k; valid = v }

module _ (size : ℕ) where
  abbrev pub producer_request : ProducerCall → Request Checkpoint
  producer_request (submit_available c) = asks (said.submit c) (valid_chain c)
  producer_request (submit_available_with_notify c) = asks (said.submit c) (valid_chain c)
  producer_request (submit_one a l b) = asks (said.submit (one_of a l b)) (valid_chain (one_of a l b))
  producer_request (submit_one_with_notify a l b) = asks (said.submit (one_of a l b)) (valid_chain (one_of a l b))
  producer_request poll_used = asks said.reclaim true
  producer_request next_id = asks said.next_id true
  producer_request (producer_asked q) = asks said.other true
  producer_request (should_notify_since c) = asks said.other (ltb c.head size)
  producer_request (turn_used f) = asks said.other true
  producer_request (enable_used_desc o b) = asks said.other true
  producer_request enable_used_for_next = asks said.other true
  producer_request producer_reset = asks said.other true

  abbrev pub consumer_request : ConsumerCall → Request Checkpoint
  consumer_request (poll_available addrs lens) = asks said.poll (valid_outputs size addrs lens)
  consumer_request (submit_used i l) = asks (said.complete (record { id = i; len = l })) true
  consumer_request (submit_used_with_notify i l) = asks (said.complete (record { id = i; len = l })) true
  consumer_request peek_available = asks said.peek true
  consumer_request poll_checkpoint = asks said.checkpoint true
  consumer_request (rollback_polls c js) = asks (said.rollback c js) (valid_checkpoint size c)
  consumer_request (consumer_asked q) = asks said.other true
  consumer_request (turn_avail f) = asks said.other true
  consumer_request (enable_avail_desc o b) = asks said.other true
  consumer_request enable_avail_for_next = asks said.other true
  consumer_request consumer_reset = asks said.other true

  abbrev pub request_of : Call → Request Checkpoint
  request_of (own (by_producer c)) = producer_request c
  request_of (own (by_consumer c)) = consumer_request c
  request_of (foreign f) = asks said.foreign true

-- ---- what the arguments' types say: addresses are numbers of 64 bits and lengths of 32, IDs of 16

abbrev pub TypedChain : Chain → Type 0
TypedChain c = ((i : ℕ) → get_or c.addrs i 0 < 256 ^ 8) × ((i : ℕ) → get_or c.lens i 0 < 256 ^ 4)

abbrev pub TypedProducer : ProducerCall → Type 0
TypedProducer (submit_available c) = TypedChain c
TypedProducer (submit_available_with_notify c) = TypedChain c
TypedProducer (submit_one a l w) = TypedChain (one_of a l w)
TypedProducer (submit_one_with_notify a l w) = TypedChain (one_of a l w)
TypedProducer poll_used = Unit
TypedProducer next_id = Unit
TypedProducer (producer_asked q) = Unit
TypedProducer (should_notify_since c) = Unit
TypedProducer (turn_used f) = Unit
TypedProducer (enable_used_desc o w) = Unit
TypedProducer enable_used_for_next = Unit
TypedProducer producer_reset = Unit

abbrev pub TypedConsumer : ConsumerCall → Type 0
TypedConsumer (poll_available a l) = Unit
TypedConsumer (submit_used i l) = (i < 256 ^ 2) × (l < 256 ^ 4)
TypedConsumer (submit_used_with_notify i l) = (i < 256 ^ 2) × (l < 256 ^ 4)
TypedConsumer peek_available = Unit
TypedConsumer poll_checkpoint = Unit
TypedConsumer (rollback_polls c js) = Unit
TypedConsumer (consumer_asked q) = Unit
TypedConsumer (turn_avail f) = Unit
TypedConsumer (enable_avail_desc o w) = Unit
TypedConsumer enable_avail_for_next = Unit
TypedConsumer consumer_reset = Unit

abbrev pub TypedCall : Call → Type 0
TypedCall (own (by_producer c)) = TypedProducer c
TypedCall (own (by_consumer c)) = TypedConsumer c
TypedCall (foreign f) = Unit

-- a call with arguments of their types
pub record Given : Type 0 where
  pub call : Call
  pub typed : TypedCall call
