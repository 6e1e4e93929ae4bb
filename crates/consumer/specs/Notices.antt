-- Notifications turned on and off, and armed (document 01, "Slots, flags and cursors").
use Rattle.std.specs.Prelude.{ℕ, List, [], Bool, cond, eqb, length}
use Rattle.base.specs.Answer.{done, refused}
use Rattle.event.specs.Event.{DESC}
use Rattle.ring.specs.Events.{turned, armed}
use Rattle.consumer.specs.declared.RingConsumer.{RingConsumer}
use Rattle.consumer.specs.Record.{bytes_refusal}
use Rattle.consumer.specs.Outcome.{Changed, changed}

-- the record with other flags in its shadow
unfoldable pub shadow_of : RingConsumer → ℕ → RingConsumer
shadow_of p flags =
    record {
      layout = p.layout;
      avail = p.avail;
      used = p.used;
      inflight = p.inflight;
      shadow = flags;
    }

-- a notification's call: refused, or these flags in the shadow and these bytes
unfoldable pub notice_of : RingConsumer → List ℕ → ℕ → List ℕ → Changed
notice_of p ring flags bytes =
    let no = bytes_refusal p (length ring) in
    cond (eqb no 0) (changed (done []) (shadow_of p flags) bytes) (changed (refused no) p ring)

-- "Turning notifications on or off": where the shadow already says so, the record and the bytes stay as they are
abbrev pub turn_of : RingConsumer → List ℕ → ℕ → Changed
turn_of p ring flags = notice_of p ring flags (turned p.layout.device p.shadow flags ring)

-- "Arming at a slot"
abbrev pub arm_of : RingConsumer → List ℕ → ℕ → Bool → Changed
arm_of p ring off wrap = notice_of p ring DESC (armed p.layout.device off wrap ring)
