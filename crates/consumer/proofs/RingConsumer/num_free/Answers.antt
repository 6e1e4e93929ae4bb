-- `consumer::RingConsumer::num_free` meets its contract: a record that is not refused has no more slots in flight than slots.
-- Assumes nothing.
use Rattle.consumer.proofs.Ready.{record_sound}
use Rattle.consumer.proofs.RingConsumer.num_free.Goals as goal

pub overflow_sub-result : goal.overflow_sub-result
overflow_sub-result c = (record_sound c.args.self _ _ c.in_ok-record.was c.record.ensures).inflight
