-- What DESC asks for (VIRTIO 1.1, 2.7.10): to be told when the other side has made available, or used, the descriptor at that
-- offset in that round.
use Rattle.std.specs.Prelude.{◌≡◌, ℕ, ◌<◌}
use Rattle.cursor.specs.declared.RingCursor.{RingCursor}
use Rattle.cursor.specs.Cursor.{at, steps}
use Rattle.event.specs.declared.EventSuppression.{EventSuppression}
use Rattle.event.specs.Event.{off_of, wrap_of}

-- 2.7.10: of the n slots from old on, one has the event's offset and round
pub record Passed (e : EventSuppression) (size n : ℕ) (old : RingCursor) : Type 0 where
  pub step : ℕ
  pub before : step < n
  pub there : steps size step old ≡ at (off_of e) (wrap_of e)
