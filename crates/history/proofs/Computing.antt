-- What is unfolded to compute a history over bytes: the definitions that the contracts cite, by layer. A proof that says
-- `unfolding computing` unfolds them all.
-- Assumes nothing.
use Rattle.base.specs.Bytes.{bytes_of, word_at, put_of, get_of}
use Rattle.cursor.specs.Cursor.{step, steps}
use Rattle.desc.specs.Flags.{is_avail, is_used}
use Rattle.desc.specs.Desc.{encode_of, decode_of, mark_avail, mark_used}
use Rattle.event.specs.Event as event
use Rattle.notify.specs.Notify.{sub16, need_event, awaited, notify_of}
use Rattle.layout.specs.Layout.{apart, bad_layout, outside}
use Rattle.chain.specs.Chain.{bad_slices}
use Rattle.ring.specs.Slots.{slot_of, slot_put}
use Rattle.ring.specs.Tables.{up_from}
use Rattle.ring.specs.Events.{turned, armed, told}
use Rattle.ring.specs.Asked.{ask_of}
use Rattle.walk.specs.Walk.{look_of, walk_of, slots_from}
use Rattle.undo.specs.Undo.{named, bad_ids, total_of, cleared_of}
use Rattle.producer.specs.Record as made_record
use Rattle.producer.specs.Submit as makes
use Rattle.producer.specs.Tell as made_told
use Rattle.producer.specs.Poll as used_poll
use Rattle.producer.specs.Notices as used_notices
use Rattle.producer.specs.Fresh as made_fresh
use Rattle.consumer.specs.Record as taken_record
use Rattle.consumer.specs.Poll as takes
use Rattle.consumer.specs.Complete.{complete_refusal, completed_of, complete_of, tell_of}
use Rattle.consumer.specs.Rollback.{handed_refusal, stale_of, rollback_refusal, back_of, rollback_of}
use Rattle.consumer.specs.Notices as avail_notices
use Rattle.consumer.specs.Fresh as taken_fresh
use Rattle.queue.specs.Machine.{world_of, history_of}
use Rattle.packed.specs.Machine.{producer_does, consumer_does, leaves, call_says}

-- bytes, cursors, descriptors, event areas and geometry
unfoldable pub the_leaves : Unit {0}
unfolding bytes_of word_at put_of get_of step steps is_avail is_used encode_of decode_of mark_avail mark_used event.set_flags event.set_desc_event event.encode_of event.decode_of sub16 need_event awaited notify_of apart bad_layout outside bad_slices
the_leaves = tt

-- slots, tables, chains and lists of IDs
unfoldable pub the_ring : Unit {0}
unfolding slot_of slot_put up_from turned armed told ask_of look_of walk_of slots_from named bad_ids total_of cleared_of
the_ring = tt

unfoldable pub the_producer : Unit {0}
unfolding made_record.bad_record made_record.bad_lent makes.submit_refusal makes.element_of makes.put_tails makes.put_chain makes.taken_of makes.submitted_of makes.submit_of made_told.tell_of used_poll.poll_refusal used_poll.freed_of used_poll.polled_of used_poll.poll_of used_poll.next_refusal used_poll.next_of made_record.bytes_refusal used_notices.since_refusal used_notices.shadow_of used_notices.notice_of used_notices.since_of made_fresh.fresh_of made_fresh.open_of made_record.lent_refusal made_fresh.reset_of
the_producer = tt

unfoldable pub the_consumer : Unit {0}
unfolding taken_record.bad_record taken_record.bad_lent taken_record.bytes_refusal takes.head_refusal takes.walk_refusal takes.poll_refusal takes.past_of takes.polled_of takes.poll_of takes.peek_of complete_refusal completed_of complete_of tell_of handed_refusal stale_of rollback_refusal back_of rollback_of avail_notices.shadow_of avail_notices.notice_of taken_fresh.fresh_of taken_fresh.open_of taken_record.lent_refusal taken_fresh.reset_of
the_consumer = tt

unfoldable pub computing : Unit {0}
unfolding history_of world_of leaves call_says producer_does consumer_does the_leaves the_ring the_producer the_consumer
computing = tt
