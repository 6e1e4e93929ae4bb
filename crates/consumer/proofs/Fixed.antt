-- Each public contract of the crate determines what its function answers and leaves.
use Rattle.base.specs.Determined.{Determined, both}
use Rattle.base.proofs.Determine.{by_answer}
use Rattle.ring.specs.Asked.{count_answer, bool_answer, cursor_answer}
use Rattle.ring.proofs.Asked.{count_same, bool_same, cursor_same}
use Rattle.consumer.specs.Rollback.{checkpoint_answer}
use Rattle.consumer.proofs.Same.{answered_seen, answered_all, told_seen, told_all, changed_seen, changed_all, rolled_seen, rolled_all, taken_seen, taken_all, opened_seen, opened_all, checkpointed_same}
use Rattle.consumer.proofs.RingConsumer.new.Reads as new
use Rattle.consumer.proofs.RingConsumer.poll_available.Reads as poll_available
use Rattle.consumer.proofs.RingConsumer.submit_used.Reads as submit_used
use Rattle.consumer.proofs.RingConsumer.submit_used_with_notify.Reads as submit_used_with_notify
use Rattle.consumer.proofs.RingConsumer.peek_available.Reads as peek_available
use Rattle.consumer.proofs.RingConsumer.poll_checkpoint.Reads as poll_checkpoint
use Rattle.consumer.proofs.RingConsumer.rollback_polls.Reads as rollback_polls
use Rattle.consumer.proofs.RingConsumer.num_free.Reads as num_free
use Rattle.consumer.proofs.RingConsumer.num_inflight.Reads as num_inflight
use Rattle.consumer.proofs.RingConsumer.is_full.Reads as is_full
use Rattle.consumer.proofs.RingConsumer.len.Reads as len
use Rattle.consumer.proofs.RingConsumer.avail_cursor.Reads as avail_cursor
use Rattle.consumer.proofs.RingConsumer.used_cursor.Reads as used_cursor
use Rattle.consumer.proofs.RingConsumer.disable_avail_notifications.Reads as disable_avail_notifications
use Rattle.consumer.proofs.RingConsumer.enable_avail_notifications.Reads as enable_avail_notifications
use Rattle.consumer.proofs.RingConsumer.enable_avail_notifications_desc.Reads as enable_avail_notifications_desc
use Rattle.consumer.proofs.RingConsumer.enable_avail_notifications_for_next.Reads as enable_avail_notifications_for_next
use Rattle.consumer.proofs.RingConsumer.reset.Reads as reset

pub new_fixed : Determined new.Post (λ r s. both r s.1.1.0.now)
new_fixed = by_answer _ _ opened_seen opened_all _ (λ κ a r s p. p)

pub poll_available_fixed : Determined poll_available.Post (λ r s. both r (both s.1.1.0.now (both s.1.1.1.0.now s.1.1.1.1.0.now)))
poll_available_fixed = by_answer _ _ taken_seen taken_all _ (λ κ a r s p. p)

pub submit_used_fixed : Determined submit_used.Post (λ r s. both r (both s.1.0.now s.1.1.0.now))
submit_used_fixed = by_answer _ _ answered_seen answered_all _ (λ κ a r s p. p)

pub submit_used_with_notify_fixed : Determined submit_used_with_notify.Post (λ r s. both r (both s.1.0.now s.1.1.0.now))
submit_used_with_notify_fixed = by_answer _ _ told_seen told_all _ (λ κ a r s p. p)

pub peek_available_fixed : Determined peek_available.Post (λ r s. r)
peek_available_fixed = by_answer _ _ bool_answer bool_same _ (λ κ a r s p. p)

pub poll_checkpoint_fixed : Determined poll_checkpoint.Post (λ r s. r)
poll_checkpoint_fixed = by_answer _ _ checkpoint_answer checkpointed_same _ (λ κ a r s p. p)

pub rollback_polls_fixed : Determined rollback_polls.Post (λ r s. both r s.1.0.now)
rollback_polls_fixed = by_answer _ _ rolled_seen rolled_all _ (λ κ a r s p. p)

pub num_free_fixed : Determined num_free.Post (λ r s. r)
num_free_fixed = by_answer _ _ count_answer count_same _ (λ κ a r s p. p)

pub num_inflight_fixed : Determined num_inflight.Post (λ r s. r)
num_inflight_fixed = by_answer _ _ count_answer count_same _ (λ κ a r s p. p)

pub is_full_fixed : Determined is_full.Post (λ r s. r)
is_full_fixed = by_answer _ _ bool_answer bool_same _ (λ κ a r s p. p)

pub len_fixed : Determined len.Post (λ r s. r)
len_fixed = by_answer _ _ count_answer count_same _ (λ κ a r s p. p)

pub avail_cursor_fixed : Determined avail_cursor.Post (λ r s. r)
avail_cursor_fixed = by_answer _ _ cursor_answer cursor_same _ (λ κ a r s p. p)

pub used_cursor_fixed : Determined used_cursor.Post (λ r s. r)
used_cursor_fixed = by_answer _ _ cursor_answer cursor_same _ (λ κ a r s p. p)

pub disable_avail_notifications_fixed : Determined disable_avail_notifications.Post (λ r s. both r s.1.0.now)
disable_avail_notifications_fixed = by_answer _ _ changed_seen changed_all _ (λ κ a r s p. p)

pub enable_avail_notifications_fixed : Determined enable_avail_notifications.Post (λ r s. both r s.1.0.now)
enable_avail_notifications_fixed = by_answer _ _ changed_seen changed_all _ (λ κ a r s p. p)

pub enable_avail_notifications_desc_fixed : Determined enable_avail_notifications_desc.Post (λ r s. both r s.1.0.now)
enable_avail_notifications_desc_fixed = by_answer _ _ changed_seen changed_all _ (λ κ a r s p. p)

pub enable_avail_notifications_for_next_fixed : Determined enable_avail_notifications_for_next.Post (λ r s. both r s.1.0.now)
enable_avail_notifications_for_next_fixed = by_answer _ _ changed_seen changed_all _ (λ κ a r s p. p)

pub reset_fixed : Determined reset.Post (λ r s. both r (both s.1.0.now s.1.1.0.now))
reset_fixed = by_answer _ _ answered_seen answered_all _ (λ κ a r s p. p)
