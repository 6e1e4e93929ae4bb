-- Each public contract of the crate determines what its function answers and leaves.
use mathlib.Core.Path.{ap}
use Rattle.base.specs.Determined.{Determined, both}
use Rattle.base.proofs.Determine.{by_answer}
use Rattle.notify.specs.Notify as notified
use Rattle.notify.proofs.Fixed.{answer_same}
use Rattle.ring.specs.Asked.{count_answer, bool_answer, cursor_answer, table_answer}
use Rattle.ring.proofs.Asked.{count_same, bool_same, cursor_same, table_same}
use Rattle.producer.specs.Poll.{next_answer}
use Rattle.producer.proofs.Same.{none, without_ids, without_ring, submitted_seen, submitted_all, told_seen, told_all, polled_seen, polled_all, answered_seen, answered_all, changed_seen, changed_all, opened_seen, opened_all, next_same}
use Rattle.producer.proofs.RingProducer.new.Reads as new
use Rattle.producer.proofs.RingProducer.submit_one.Reads as submit_one
use Rattle.producer.proofs.RingProducer.submit_available.Reads as submit_available
use Rattle.producer.proofs.RingProducer.submit_available_with_notify.Reads as submit_available_with_notify
use Rattle.producer.proofs.RingProducer.submit_one_with_notify.Reads as submit_one_with_notify
use Rattle.producer.proofs.RingProducer.poll_used.Reads as poll_used
use Rattle.producer.proofs.RingProducer.next_id.Reads as next_id
use Rattle.producer.proofs.RingProducer.num_free.Reads as num_free
use Rattle.producer.proofs.RingProducer.num_inflight.Reads as num_inflight
use Rattle.producer.proofs.RingProducer.is_full.Reads as is_full
use Rattle.producer.proofs.RingProducer.len.Reads as len
use Rattle.producer.proofs.RingProducer.desc_table.Reads as desc_table
use Rattle.producer.proofs.RingProducer.avail_cursor.Reads as avail_cursor
use Rattle.producer.proofs.RingProducer.used_cursor.Reads as used_cursor
use Rattle.producer.proofs.RingProducer.should_notify_since.Reads as should_notify_since
use Rattle.producer.proofs.RingProducer.disable_used_notifications.Reads as disable_used_notifications
use Rattle.producer.proofs.RingProducer.enable_used_notifications.Reads as enable_used_notifications
use Rattle.producer.proofs.RingProducer.enable_used_notifications_desc.Reads as enable_used_notifications_desc
use Rattle.producer.proofs.RingProducer.enable_used_notifications_for_next.Reads as enable_used_notifications_for_next
use Rattle.producer.proofs.RingProducer.reset.Reads as reset

pub new_fixed : Determined new.Post (λ r s. both r (both s.1.1.0.now s.1.1.1.0.now))
new_fixed = by_answer _ _ opened_seen opened_all _ (λ κ a r s p. p)

pub submit_one_fixed : Determined submit_one.Post (λ r s. both r (both s.1.0.now (both none s.1.1.1.0.now)))
submit_one_fixed = by_answer _ _ submitted_seen submitted_all _ (λ κ a r s p. ap without_ids p)

pub submit_available_fixed : Determined submit_available.Post (λ r s. both r (both s.1.0.now (both none s.1.1.1.0.now)))
submit_available_fixed = by_answer _ _ submitted_seen submitted_all _ (λ κ a r s p. ap without_ids p)

pub submit_available_with_notify_fixed : Determined submit_available_with_notify.Post (λ r s. both r (both s.1.0.now (both none s.1.1.1.0.now)))
submit_available_with_notify_fixed = by_answer _ _ told_seen told_all _ (λ κ a r s p. ap without_ids p)

pub submit_one_with_notify_fixed : Determined submit_one_with_notify.Post (λ r s. both r (both s.1.0.now (both none s.1.1.1.0.now)))
submit_one_with_notify_fixed = by_answer _ _ told_seen told_all _ (λ κ a r s p. ap without_ids p)

pub poll_used_fixed : Determined poll_used.Post (λ r s. both r (both none (both s.1.1.0.now s.1.1.1.0.now)))
poll_used_fixed = by_answer _ _ polled_seen polled_all _ (λ κ a r s p. ap without_ring p)

pub next_id_fixed : Determined next_id.Post (λ r s. r)
next_id_fixed = by_answer _ _ next_answer next_same _ (λ κ a r s p. p)

pub num_free_fixed : Determined num_free.Post (λ r s. r)
num_free_fixed = by_answer _ _ count_answer count_same _ (λ κ a r s p. p)

pub num_inflight_fixed : Determined num_inflight.Post (λ r s. r)
num_inflight_fixed = by_answer _ _ count_answer count_same _ (λ κ a r s p. p)

pub is_full_fixed : Determined is_full.Post (λ r s. r)
is_full_fixed = by_answer _ _ bool_answer bool_same _ (λ κ a r s p. p)

pub len_fixed : Determined len.Post (λ r s. r)
len_fixed = by_answer _ _ count_answer count_same _ (λ κ a r s p. p)

pub desc_table_fixed : Determined desc_table.Post (λ r s. r)
desc_table_fixed = by_answer _ _ table_answer table_same _ (λ κ a r s p. p)

pub avail_cursor_fixed : Determined avail_cursor.Post (λ r s. r)
avail_cursor_fixed = by_answer _ _ cursor_answer cursor_same _ (λ κ a r s p. p)

pub used_cursor_fixed : Determined used_cursor.Post (λ r s. r)
used_cursor_fixed = by_answer _ _ cursor_answer cursor_same _ (λ κ a r s p. p)

pub should_notify_since_fixed : Determined should_notify_since.Post (λ r s. r)
should_notify_since_fixed = by_answer _ _ notified.answer_of answer_same _ (λ κ a r s p. p)

pub disable_used_notifications_fixed : Determined disable_used_notifications.Post (λ r s. both r s.1.0.now)
disable_used_notifications_fixed = by_answer _ _ changed_seen changed_all _ (λ κ a r s p. p)

pub enable_used_notifications_fixed : Determined enable_used_notifications.Post (λ r s. both r s.1.0.now)
enable_used_notifications_fixed = by_answer _ _ changed_seen changed_all _ (λ κ a r s p. p)

pub enable_used_notifications_desc_fixed : Determined enable_used_notifications_desc.Post (λ r s. both r s.1.0.now)
enable_used_notifications_desc_fixed = by_answer _ _ changed_seen changed_all _ (λ κ a r s p. p)

pub enable_used_notifications_for_next_fixed : Determined enable_used_notifications_for_next.Post (λ r s. both r s.1.0.now)
enable_used_notifications_for_next_fixed = by_answer _ _ changed_seen changed_all _ (λ κ a r s p. p)

pub reset_fixed : Determined reset.Post (λ r s. both r (both s.1.0.now (both s.1.1.0.now s.1.1.1.0.now)))
reset_fixed = by_answer _ _ answered_seen answered_all _ (λ κ a r s p. p)
