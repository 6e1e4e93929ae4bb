-- What the producer's public functions did, call by call: each call is only known to meet the GENERATED contract of its function. Beside it, what the
-- function was lent and what it left, by the place of each thing among its arguments.
use Rattle.std.specs.Prelude.{ℕ, List}
use Rattle.base.specs.Answer.{Answer}
use Rattle.base.specs.Answer as reply
use Rattle.event.specs.Event.{ENABLE, DISABLE}
use Rattle.notify.specs.Notify as notified
use Rattle.ring.specs.Asked.{count_answer, bool_answer, cursor_answer, table_answer}
use Rattle.producer.specs.Submit as submits
use Rattle.producer.specs.Tell as tells
use Rattle.producer.specs.Poll as reclaims
use Rattle.producer.proofs.RingProducer.submit_one.Reads as submit_one_contract
use Rattle.producer.proofs.RingProducer.submit_available.Reads as submit_available_contract
use Rattle.producer.proofs.RingProducer.submit_one_with_notify.Reads as submit_one_with_notify_contract
use Rattle.producer.proofs.RingProducer.submit_available_with_notify.Reads as submit_available_with_notify_contract
use Rattle.producer.proofs.RingProducer.poll_used.Reads as poll_used_contract
use Rattle.producer.proofs.RingProducer.next_id.Reads as next_id_contract
use Rattle.producer.proofs.RingProducer.num_free.Reads as num_free_contract
use Rattle.producer.proofs.RingProducer.num_inflight.Reads as num_inflight_contract
use Rattle.producer.proofs.RingProducer.is_full.Reads as is_full_contract
use Rattle.producer.proofs.RingProducer.len.Reads as len_contract
use Rattle.producer.proofs.RingProducer.desc_table.Reads as desc_table_contract
use Rattle.producer.proofs.RingProducer.avail_cursor.Reads as avail_cursor_contract
use Rattle.producer.proofs.RingProducer.used_cursor.Reads as used_cursor_contract
use Rattle.producer.proofs.RingProducer.should_notify_since.Reads as should_notify_since_contract
use Rattle.producer.proofs.RingProducer.disable_used_notifications.Reads as disable_used_notifications_contract
use Rattle.producer.proofs.RingProducer.enable_used_notifications.Reads as enable_used_notifications_contract
use Rattle.producer.proofs.RingProducer.enable_used_notifications_desc.Reads as enable_used_notifications_desc_contract
use Rattle.producer.proofs.RingProducer.enable_used_notifications_for_next.Reads as enable_used_notifications_for_next_contract
use Rattle.producer.proofs.RingProducer.reset.Reads as reset_contract
use Rattle.packed.specs.Meets.{Meets, chain_of, first, second, third, fourth, fifth, sixth, seventh}
use Rattle.packed.specs.Calls.{ProducerCall, producer_num_free, producer_num_inflight, producer_is_full, producer_len, producer_desc_table}
use Rattle.packed.specs.Calls.{producer_avail_cursor, producer_used_cursor, submit_available}
use Rattle.packed.specs.Calls.{submit_available_with_notify, submit_one, submit_one_with_notify}
use Rattle.packed.specs.Calls.{poll_used, next_id, producer_asked, should_notify_since, turn_used, enable_used_desc, enable_used_for_next, producer_reset}
use Rattle.packed.specs.Machine.{ProducerSide}

-- a call of each function but `new`
pub data RealProducer : Type 0 where
  real_submit_one : Meets submit_one_contract.Post → RealProducer
  real_submit_available : Meets submit_available_contract.Post → RealProducer
  real_submit_one_with_notify : Meets submit_one_with_notify_contract.Post → RealProducer
  real_submit_available_with_notify : Meets submit_available_with_notify_contract.Post → RealProducer
  real_poll_used : Meets poll_used_contract.Post → RealProducer
  real_next_id : Meets next_id_contract.Post → RealProducer
  num_free : Meets num_free_contract.Post → RealProducer
  num_inflight : Meets num_inflight_contract.Post → RealProducer
  is_full : Meets is_full_contract.Post → RealProducer
  len : Meets len_contract.Post → RealProducer
  desc_table : Meets desc_table_contract.Post → RealProducer
  avail_cursor : Meets avail_cursor_contract.Post → RealProducer
  used_cursor : Meets used_cursor_contract.Post → RealProducer
  real_should_notify_since : Meets should_notify_since_contract.Post → RealProducer
  disable_used_notifications : Meets disable_used_notifications_contract.Post → RealProducer
  enable_used_notifications : Meets enable_used_notifications_contract.Post → RealProducer
  enable_used_notifications_desc : Meets enable_used_notifications_desc_contract.Post → RealProducer
  enable_used_notifications_for_next : Meets enable_used_notifications_for_next_contract.Post → RealProducer
  reset : Meets reset_contract.Post → RealProducer

-- the call with its arguments, as the machine has it
abbrev pub call_of : RealProducer → ProducerCall
call_of (real_submit_one m) = submit_one (fifth m.entry) (sixth m.entry) (seventh m.entry)
call_of (real_submit_available m) = submit_available (chain_of (fifth m.entry).addrs.now (fifth m.entry).lens.now (fifth m.entry).readable)
call_of (real_submit_one_with_notify m) = submit_one_with_notify (fifth m.entry) (sixth m.entry) (seventh m.entry)
call_of (real_submit_available_with_notify m) =
    submit_available_with_notify (chain_of (fifth m.entry).addrs.now (fifth m.entry).lens.now (fifth m.entry).readable)
call_of (real_poll_used m) = poll_used
call_of (real_next_id m) = next_id
call_of (num_free m) = producer_asked producer_num_free
call_of (num_inflight m) = producer_asked producer_num_inflight
call_of (is_full m) = producer_asked producer_is_full
call_of (len m) = producer_asked producer_len
call_of (desc_table m) = producer_asked producer_desc_table
call_of (avail_cursor m) = producer_asked producer_avail_cursor
call_of (used_cursor m) = producer_asked producer_used_cursor
call_of (real_should_notify_since m) = should_notify_since (third m.entry)
call_of (disable_used_notifications m) = turn_used DISABLE
call_of (enable_used_notifications m) = turn_used ENABLE
call_of (enable_used_notifications_desc m) = enable_used_desc (third m.entry) (fourth m.entry)
call_of (enable_used_notifications_for_next m) = enable_used_for_next
call_of (reset m) = producer_reset

-- its answer
abbrev pub answer_of : RealProducer → Answer
answer_of (real_submit_one m) = submits.submitted_answer m.result.1
answer_of (real_submit_available m) = submits.submitted_answer m.result.1
answer_of (real_submit_one_with_notify m) = tells.told_answer m.result.1
answer_of (real_submit_available_with_notify m) = tells.told_answer m.result.1
answer_of (real_poll_used m) = reclaims.polled_answer m.result.1
answer_of (real_next_id m) = reclaims.next_answer m.result
answer_of (num_free m) = count_answer m.result
answer_of (num_inflight m) = count_answer m.result
answer_of (is_full m) = bool_answer m.result
answer_of (len m) = count_answer m.result
answer_of (desc_table m) = table_answer m.result
answer_of (avail_cursor m) = cursor_answer m.result
answer_of (used_cursor m) = cursor_answer m.result
answer_of (real_should_notify_since m) = notified.answer_of m.result
answer_of (disable_used_notifications m) = reply.answer_of m.result.1
answer_of (enable_used_notifications m) = reply.answer_of m.result.1
answer_of (enable_used_notifications_desc m) = reply.answer_of m.result.1
answer_of (enable_used_notifications_for_next m) = reply.answer_of m.result.1
answer_of (reset m) = reply.answer_of m.result.1

-- the record and tables that it was lent, and the bytes; for what it was not lent, those of s and r
abbrev pub side_lent : ProducerSide → RealProducer → ProducerSide
side_lent s (real_submit_one m) = record { end = first m.entry; ids = (third m.entry).now; counts = (fourth m.entry).now }
side_lent s (real_submit_available m) = record { end = first m.entry; ids = (third m.entry).now; counts = (fourth m.entry).now }
side_lent s (real_submit_one_with_notify m) = record { end = first m.entry; ids = (third m.entry).now; counts = (fourth m.entry).now }
side_lent s (real_submit_available_with_notify m) = record { end = first m.entry; ids = (third m.entry).now; counts = (fourth m.entry).now }
side_lent s (real_poll_used m) = record { end = first m.entry; ids = (third m.entry).now; counts = (fourth m.entry).now }
side_lent s (real_next_id m) = record { end = first m.entry; ids = (second m.entry).now; counts = (third m.entry).now }
side_lent s (num_free m) = record { end = first m.entry; ids = s.ids; counts = s.counts }
side_lent s (num_inflight m) = record { end = first m.entry; ids = s.ids; counts = s.counts }
side_lent s (is_full m) = record { end = first m.entry; ids = s.ids; counts = s.counts }
side_lent s (len m) = record { end = first m.entry; ids = s.ids; counts = s.counts }
side_lent s (desc_table m) = record { end = first m.entry; ids = s.ids; counts = s.counts }
side_lent s (avail_cursor m) = record { end = first m.entry; ids = s.ids; counts = s.counts }
side_lent s (used_cursor m) = record { end = first m.entry; ids = s.ids; counts = s.counts }
side_lent s (real_should_notify_since m) = record { end = first m.entry; ids = s.ids; counts = s.counts }
side_lent s (disable_used_notifications m) = record { end = first m.entry; ids = s.ids; counts = s.counts }
side_lent s (enable_used_notifications m) = record { end = first m.entry; ids = s.ids; counts = s.counts }
side_lent s (enable_used_notifications_desc m) = record { end = first m.entry; ids = s.ids; counts = s.counts }
side_lent s (enable_used_notifications_for_next m) = record { end = first m.entry; ids = s.ids; counts = s.counts }
side_lent s (reset m) = record { end = first m.entry; ids = (third m.entry).now; counts = (fourth m.entry).now }

abbrev pub bytes_lent : List ℕ → RealProducer → List ℕ
bytes_lent r (real_submit_one m) = (second m.entry).now
bytes_lent r (real_submit_available m) = (second m.entry).now
bytes_lent r (real_submit_one_with_notify m) = (second m.entry).now
bytes_lent r (real_submit_available_with_notify m) = (second m.entry).now
bytes_lent r (real_poll_used m) = (second m.entry).now
bytes_lent r (real_next_id m) = r
bytes_lent r (num_free m) = r
bytes_lent r (num_inflight m) = r
bytes_lent r (is_full m) = r
bytes_lent r (len m) = r
bytes_lent r (desc_table m) = r
bytes_lent r (avail_cursor m) = r
bytes_lent r (used_cursor m) = r
bytes_lent r (real_should_notify_since m) = (second m.entry).now
bytes_lent r (disable_used_notifications m) = (second m.entry).now
bytes_lent r (enable_used_notifications m) = (second m.entry).now
bytes_lent r (enable_used_notifications_desc m) = (second m.entry).now
bytes_lent r (enable_used_notifications_for_next m) = (second m.entry).now
bytes_lent r (reset m) = (second m.entry).now

-- the record that it handed back, and the tables and bytes at exit (what it was lent as `&` is as it was)
abbrev pub side_left : ProducerSide → RealProducer → ProducerSide
side_left s (real_submit_one m) = record { end = m.result.0; ids = (third m.entry).now; counts = (fourth m.exit).now }
side_left s (real_submit_available m) =
    record { end = m.result.0; ids = (third m.entry).now; counts = (fourth m.exit).now }
side_left s (real_submit_one_with_notify m) = record { end = m.result.0; ids = (third m.entry).now; counts = (fourth m.exit).now }
side_left s (real_submit_available_with_notify m) =
    record { end = m.result.0; ids = (third m.entry).now; counts = (fourth m.exit).now }
side_left s (real_poll_used m) = record { end = m.result.0; ids = (third m.exit).now; counts = (fourth m.exit).now }
side_left s (real_next_id m) = record { end = first m.entry; ids = (second m.entry).now; counts = (third m.entry).now }
side_left s (num_free m) = record { end = first m.entry; ids = s.ids; counts = s.counts }
side_left s (num_inflight m) = record { end = first m.entry; ids = s.ids; counts = s.counts }
side_left s (is_full m) = record { end = first m.entry; ids = s.ids; counts = s.counts }
side_left s (len m) = record { end = first m.entry; ids = s.ids; counts = s.counts }
side_left s (desc_table m) = record { end = first m.entry; ids = s.ids; counts = s.counts }
side_left s (avail_cursor m) = record { end = first m.entry; ids = s.ids; counts = s.counts }
side_left s (used_cursor m) = record { end = first m.entry; ids = s.ids; counts = s.counts }
side_left s (real_should_notify_since m) = record { end = first m.entry; ids = s.ids; counts = s.counts }
side_left s (disable_used_notifications m) = record { end = m.result.0; ids = s.ids; counts = s.counts }
side_left s (enable_used_notifications m) = record { end = m.result.0; ids = s.ids; counts = s.counts }
side_left s (enable_used_notifications_desc m) = record { end = m.result.0; ids = s.ids; counts = s.counts }
side_left s (enable_used_notifications_for_next m) = record { end = m.result.0; ids = s.ids; counts = s.counts }
side_left s (reset m) = record { end = m.result.0; ids = (third m.exit).now; counts = (fourth m.exit).now }

abbrev pub bytes_left : List ℕ → RealProducer → List ℕ
bytes_left r (real_submit_one m) = (second m.exit).now
bytes_left r (real_submit_available m) = (second m.exit).now
bytes_left r (real_submit_one_with_notify m) = (second m.exit).now
bytes_left r (real_submit_available_with_notify m) = (second m.exit).now
bytes_left r (real_poll_used m) = (second m.entry).now
bytes_left r (real_next_id m) = r
bytes_left r (num_free m) = r
bytes_left r (num_inflight m) = r
bytes_left r (is_full m) = r
bytes_left r (len m) = r
bytes_left r (desc_table m) = r
bytes_left r (avail_cursor m) = r
bytes_left r (used_cursor m) = r
bytes_left r (real_should_notify_since m) = (second m.entry).now
bytes_left r (disable_used_notifications m) = (second m.exit).now
bytes_left r (enable_used_notifications m) = (second m.exit).now
bytes_left r (enable_used_notifications_desc m) = (second m.exit).now
bytes_left r (enable_used_notifications_for_next m) = (second m.exit).now
bytes_left r (reset m) = (second m.exit).now
