-- An event area of the lent bytes, turned, armed and asked (document 01, "Slots, flags and cursors" and Notify).
use Rattle.std.specs.Prelude.{ℕ, List, Bool, cond, eqb}
use Rattle.base.specs.Bytes.{put_of, get_of}
use Rattle.cursor.specs.declared.RingCursor.{RingCursor}
use Rattle.event.specs.declared.EventSuppression.{EventSuppression}
use Rattle.event.specs.Event.{DESC, set_flags, set_desc_event, encode_of, decode_of}
use Rattle.notify.specs.Notify.{notify_of}

-- the event area at a place
abbrev pub event_at : ℕ → List ℕ → EventSuppression
event_at at ring = decode_of (get_of ring at 4)

-- the bytes with an event in the area at a place
abbrev pub event_put : ℕ → EventSuppression → List ℕ → List ℕ
event_put at e ring = (put_of ring at (encode_of e)).bytes

-- "Turning notifications on or off writes nothing if the end's shadow already says so, and otherwise keeps the offset word."
unfoldable pub turned : ℕ → ℕ → ℕ → List ℕ → List ℕ
turned at shadow flags ring = cond (eqb shadow flags) ring (event_put at (set_flags (event_at at ring) flags) ring)

-- "Arming at a slot always writes; the offset given is taken modulo 32,768."
unfoldable pub armed : ℕ → ℕ → Bool → List ℕ → List ℕ
armed at off wrap ring = event_put at (set_flags (set_desc_event (event_at at ring) off wrap) DESC) ring

-- Notify: whether the event area asks to be told of a move from old to new
unfoldable pub told : ℕ → ℕ → RingCursor → RingCursor → List ℕ → Bool
told at size old new ring = notify_of (event_at at ring) size old new
