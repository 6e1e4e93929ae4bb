-- What the consumer's public functions did, call by call: each call is only known to meet the GENERATED contract of its function. Beside it, what the
-- function was lent and what it left, by the place of each thing among its arguments.
use Rattle.std.specs.Prelude.{ℕ, List, []}
use Rattle.base.specs.Answer.{Answer}
use Rattle.base.specs.Answer as reply
use Rattle.event.specs.Event.{ENABLE, DISABLE}
use Rattle.ring.specs.Asked.{count_answer, bool_answer, cursor_answer}
use Rattle.consumer.specs.Poll as polls
use Rattle.consumer.specs.Complete as completes
use Rattle.consumer.specs.Rollback as rollbacks
use Rattle.consumer.proofs.RingConsumer.poll_available.Reads as poll_available_contract
use Rattle.consumer.proofs.RingConsumer.submit_used.Reads as submit_used_contract
use Rattle.consumer.proofs.RingConsumer.submit_used_with_notify.Reads as submit_used_with_notify_contract
use Rattle.consumer.proofs.RingConsumer.peek_available.Reads as peek_available_contract
use Rattle.consumer.proofs.RingConsumer.poll_checkpoint.Reads as poll_checkpoint_contract
use Rattle.consumer.proofs.RingConsumer.rollback_polls.Reads as rollback_polls_contract
use Rattle.consumer.proofs.RingConsumer.num_free.Reads as num_free_contract
use Rattle.consumer.proofs.RingConsumer.num_inflight.Reads as num_inflight_contract
use Rattle.consumer.proofs.RingConsumer.is_full.Reads as is_full_contract
use Rattle.consumer.proofs.RingConsumer.len.Reads as len_contract
use Rattle.consumer.proofs.RingConsumer.avail_cursor.Reads as avail_cursor_contract
use Rattle.consumer.proofs.RingConsumer.used_cursor.Reads as used_cursor_contract
use Rattle.consumer.proofs.RingConsumer.disable_avail_notifications.Reads as disable_avail_notifications_contract
use Rattle.consumer.proofs.RingConsumer.enable_avail_notifications.Reads as enable_avail_notifications_contract
use Rattle.consumer.proofs.RingConsumer.enable_avail_notifications_desc.Reads as enable_avail_notifications_desc_contract
use Rattle.consumer.proofs.RingConsumer.enable_avail_notifications_for_next.Reads as enable_avail_notifications_for_next_contract
use Rattle.consumer.proofs.RingConsumer.reset.Reads as reset_contract
use Rattle.packed.specs.Meets.{Meets, first, second, third, fourth, fifth}
use Rattle.packed.specs.Calls.{ConsumerCall, consumer_num_free, consumer_num_inflight, consumer_is_full, consumer_len, consumer_avail_cursor}
use Rattle.packed.specs.Calls.{consumer_used_cursor, poll_available, submit_used}
use Rattle.packed.specs.Calls.{submit_used_with_notify, peek_available, poll_checkpoint, rollback_polls}
use Rattle.packed.specs.Calls.{consumer_asked, turn_avail, enable_avail_desc, enable_avail_for_next, consumer_reset}
use Rattle.packed.specs.Machine.{ConsumerSide}

-- a call of each function but `new`
pub data RealConsumer : Type 0 where
  real_poll_available : Meets poll_available_contract.Post → RealConsumer
  real_submit_used : Meets submit_used_contract.Post → RealConsumer
  real_submit_used_with_notify : Meets submit_used_with_notify_contract.Post → RealConsumer
  real_peek_available : Meets peek_available_contract.Post → RealConsumer
  real_poll_checkpoint : Meets poll_checkpoint_contract.Post → RealConsumer
  real_rollback_polls : Meets rollback_polls_contract.Post → RealConsumer
  num_free : Meets num_free_contract.Post → RealConsumer
  num_inflight : Meets num_inflight_contract.Post → RealConsumer
  is_full : Meets is_full_contract.Post → RealConsumer
  len : Meets len_contract.Post → RealConsumer
  avail_cursor : Meets avail_cursor_contract.Post → RealConsumer
  used_cursor : Meets used_cursor_contract.Post → RealConsumer
  disable_avail_notifications : Meets disable_avail_notifications_contract.Post → RealConsumer
  enable_avail_notifications : Meets enable_avail_notifications_contract.Post → RealConsumer
  enable_avail_notifications_desc : Meets enable_avail_notifications_desc_contract.Post → RealConsumer
  enable_avail_notifications_for_next : Meets enable_avail_notifications_for_next_contract.Post → RealConsumer
  reset : Meets reset_contract.Post → RealConsumer

-- the call with its arguments, as the machine has it
abbrev pub call_of : RealConsumer → ConsumerCall
call_of (real_poll_available m) = poll_available (fourth m.entry).now (fifth m.entry).now
call_of (real_submit_used m) = submit_used (fourth m.entry) (fifth m.entry)
call_of (real_submit_used_with_notify m) = submit_used_with_notify (fourth m.entry) (fifth m.entry)
call_of (real_peek_available m) = peek_available
call_of (real_poll_checkpoint m) = poll_checkpoint
call_of (real_rollback_polls m) = rollback_polls (third m.entry) (fourth m.entry).now
call_of (num_free m) = consumer_asked consumer_num_free
call_of (num_inflight m) = consumer_asked consumer_num_inflight
call_of (is_full m) = consumer_asked consumer_is_full
call_of (len m) = consumer_asked consumer_len
call_of (avail_cursor m) = consumer_asked consumer_avail_cursor
call_of (used_cursor m) = consumer_asked consumer_used_cursor
call_of (disable_avail_notifications m) = turn_avail DISABLE
call_of (enable_avail_notifications m) = turn_avail ENABLE
call_of (enable_avail_notifications_desc m) = enable_avail_desc (third m.entry) (fourth m.entry)
call_of (enable_avail_notifications_for_next m) = enable_avail_for_next
call_of (reset m) = consumer_reset

-- its answer
abbrev pub answer_of : RealConsumer → Answer
answer_of (real_poll_available m) = polls.polled_answer m.result.1
answer_of (real_submit_used m) = reply.answer_of m.result.1
answer_of (real_submit_used_with_notify m) = completes.told_answer m.result.1
answer_of (real_peek_available m) = bool_answer m.result
answer_of (real_poll_checkpoint m) = rollbacks.checkpoint_answer m.result
answer_of (real_rollback_polls m) = reply.answer_of m.result.1
answer_of (num_free m) = count_answer m.result
answer_of (num_inflight m) = count_answer m.result
answer_of (is_full m) = bool_answer m.result
answer_of (len m) = count_answer m.result
answer_of (avail_cursor m) = cursor_answer m.result
answer_of (used_cursor m) = cursor_answer m.result
answer_of (disable_avail_notifications m) = reply.answer_of m.result.1
answer_of (enable_avail_notifications m) = reply.answer_of m.result.1
answer_of (enable_avail_notifications_desc m) = reply.answer_of m.result.1
answer_of (enable_avail_notifications_for_next m) = reply.answer_of m.result.1
answer_of (reset m) = reply.answer_of m.result.1

-- the record and tables that it was lent, and the bytes; for what it was not lent, those of s and r
abbrev pub side_lent : ConsumerSide → RealConsumer → ConsumerSide
side_lent s (real_poll_available m) = record { end = first m.entry; counts = (third m.entry).now }
side_lent s (real_submit_used m) = record { end = first m.entry; counts = (third m.entry).now }
side_lent s (real_submit_used_with_notify m) = record { end = first m.entry; counts = (third m.entry).now }
side_lent s (real_peek_available m) = record { end = first m.entry; counts = s.counts }
side_lent s (real_poll_checkpoint m) = record { end = first m.entry; counts = s.counts }
side_lent s (real_rollback_polls m) = record { end = first m.entry; counts = (second m.entry).now }
side_lent s (num_free m) = record { end = first m.entry; counts = s.counts }
side_lent s (num_inflight m) = record { end = first m.entry; counts = s.counts }
side_lent s (is_full m) = record { end = first m.entry; counts = s.counts }
side_lent s (len m) = record { end = first m.entry; counts = s.counts }
side_lent s (avail_cursor m) = record { end = first m.entry; counts = s.counts }
side_lent s (used_cursor m) = record { end = first m.entry; counts = s.counts }
side_lent s (disable_avail_notifications m) = record { end = first m.entry; counts = s.counts }
side_lent s (enable_avail_notifications m) = record { end = first m.entry; counts = s.counts }
side_lent s (enable_avail_notifications_desc m) = record { end = first m.entry; counts = s.counts }
side_lent s (enable_avail_notifications_for_next m) = record { end = first m.entry; counts = s.counts }
side_lent s (reset m) = record { end = first m.entry; counts = (third m.entry).now }

abbrev pub bytes_lent : List ℕ → RealConsumer → List ℕ
bytes_lent r (real_poll_available m) = (second m.entry).now
bytes_lent r (real_submit_used m) = (second m.entry).now
bytes_lent r (real_submit_used_with_notify m) = (second m.entry).now
bytes_lent r (real_peek_available m) = (second m.entry).now
bytes_lent r (real_poll_checkpoint m) = r
bytes_lent r (real_rollback_polls m) = r
bytes_lent r (num_free m) = r
bytes_lent r (num_inflight m) = r
bytes_lent r (is_full m) = r
bytes_lent r (len m) = r
bytes_lent r (avail_cursor m) = r
bytes_lent r (used_cursor m) = r
bytes_lent r (disable_avail_notifications m) = (second m.entry).now
bytes_lent r (enable_avail_notifications m) = (second m.entry).now
bytes_lent r (enable_avail_notifications_desc m) = (second m.entry).now
bytes_lent r (enable_avail_notifications_for_next m) = (second m.entry).now
bytes_lent r (reset m) = (second m.entry).now

-- the record that it handed back, and the tables and bytes at exit (what it was lent as `&` is as it was)
abbrev pub side_left : ConsumerSide → RealConsumer → ConsumerSide
side_left s (real_poll_available m) = record { end = m.result.0; counts = (third m.exit).now }
side_left s (real_submit_used m) = record { end = m.result.0; counts = (third m.exit).now }
side_left s (real_submit_used_with_notify m) = record { end = m.result.0; counts = (third m.exit).now }
side_left s (real_peek_available m) = record { end = first m.entry; counts = s.counts }
side_left s (real_poll_checkpoint m) = record { end = first m.entry; counts = s.counts }
side_left s (real_rollback_polls m) = record { end = m.result.0; counts = (second m.exit).now }
side_left s (num_free m) = record { end = first m.entry; counts = s.counts }
side_left s (num_inflight m) = record { end = first m.entry; counts = s.counts }
side_left s (is_full m) = record { end = first m.entry; counts = s.counts }
side_left s (len m) = record { end = first m.entry; counts = s.counts }
side_left s (avail_cursor m) = record { end = first m.entry; counts = s.counts }
side_left s (used_cursor m) = record { end = first m.entry; counts = s.counts }
side_left s (disable_avail_notifications m) = record { end = m.result.0; counts = s.counts }
side_left s (enable_avail_notifications m) = record { end = m.result.0; counts = s.counts }
side_left s (enable_avail_notifications_desc m) = record { end = m.result.0; counts = s.counts }
side_left s (enable_avail_notifications_for_next m) = record { end = m.result.0; counts = s.counts }
side_left s (reset m) = record { end = m.result.0; counts = (third m.exit).now }

abbrev pub bytes_left : List ℕ → RealConsumer → List ℕ
bytes_left r (real_poll_available m) = (second m.entry).now
bytes_left r (real_submit_used m) = (second m.exit).now
bytes_left r (real_submit_used_with_notify m) = (second m.exit).now
bytes_left r (real_peek_available m) = (second m.entry).now
bytes_left r (real_poll_checkpoint m) = r
bytes_left r (real_rollback_polls m) = r
bytes_left r (num_free m) = r
bytes_left r (num_inflight m) = r
bytes_left r (is_full m) = r
bytes_left r (len m) = r
bytes_left r (avail_cursor m) = r
bytes_left r (used_cursor m) = r
bytes_left r (disable_avail_notifications m) = (second m.exit).now
bytes_left r (enable_avail_notifications m) = (second m.exit).now
bytes_left r (enable_avail_notifications_desc m) = (second m.exit).now
bytes_left r (enable_avail_notifications_for_next m) = (second m.exit).now
bytes_left r (reset m) = (second m.exit).now

-- the outputs at exit: of a poll, its addresses
abbrev pub addrs_left : RealConsumer → List ℕ
addrs_left (real_poll_available m) = (fourth m.exit).now
addrs_left (real_submit_used m) = []
addrs_left (real_submit_used_with_notify m) = []
addrs_left (real_peek_available m) = []
addrs_left (real_poll_checkpoint m) = []
addrs_left (real_rollback_polls m) = []
addrs_left (num_free m) = []
addrs_left (num_inflight m) = []
addrs_left (is_full m) = []
addrs_left (len m) = []
addrs_left (avail_cursor m) = []
addrs_left (used_cursor m) = []
addrs_left (disable_avail_notifications m) = []
addrs_left (enable_avail_notifications m) = []
addrs_left (enable_avail_notifications_desc m) = []
addrs_left (enable_avail_notifications_for_next m) = []
addrs_left (reset m) = []

-- the outputs at exit: of a poll, its lengths
abbrev pub lens_left : RealConsumer → List ℕ
lens_left (real_poll_available m) = (fifth m.exit).now
lens_left (real_submit_used m) = []
lens_left (real_submit_used_with_notify m) = []
lens_left (real_peek_available m) = []
lens_left (real_poll_checkpoint m) = []
lens_left (real_rollback_polls m) = []
lens_left (num_free m) = []
lens_left (num_inflight m) = []
lens_left (is_full m) = []
lens_left (len m) = []
lens_left (avail_cursor m) = []
lens_left (used_cursor m) = []
lens_left (disable_avail_notifications m) = []
lens_left (enable_avail_notifications m) = []
lens_left (enable_avail_notifications_desc m) = []
lens_left (enable_avail_notifications_for_next m) = []
lens_left (reset m) = []
