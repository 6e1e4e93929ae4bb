-- Notifications turned on and off, armed and asked (document 01, "Slots, flags and cursors" and Notify).
use Rattle.std.specs.Prelude.{ℕ, List, [], ◌∷◌, Bool, cond, ◌||◌, leb, eqb, length}
use Rattle.base.specs.Answer.{Answer, done, refused, bit}
use Rattle.cursor.specs.declared.RingCursor.{RingCursor}
use Rattle.event.specs.Event.{DESC}
use Rattle.layout.specs.Layout.{outside}
use Rattle.ring.specs.Events.{turned, armed, told}
use Rattle.producer.specs.declared.RingProducer.{RingProducer}
use Rattle.producer.specs.Record.{bad_record, bytes_refusal}
use Rattle.producer.specs.Outcome.{Changed, changed}

-- 7 also for "a head not below the size, also in an old cursor .. that is handed in"
unfoldable pub since_refusal : RingProducer → ℕ → RingCursor → ℕ
since_refusal p bytes old =
    cond (bad_record p || leb p.layout.size old.head) 7 (cond (outside p.layout bytes) 8 0)

-- the record with other flags in its shadow
unfoldable pub shadow_of : RingProducer → ℕ → RingProducer
shadow_of p flags =
    record {
      layout = p.layout;
      avail = p.avail;
      used = p.used;
      free = p.free;
      height = p.height;
      shadow = flags;
    }

-- a notification's call: refused, or these flags in the shadow and these bytes
unfoldable pub notice_of : RingProducer → List ℕ → ℕ → List ℕ → Changed
notice_of p ring flags bytes =
    let no = bytes_refusal p (length ring) in
    cond (eqb no 0) (changed (done []) (shadow_of p flags) bytes) (changed (refused no) p ring)

-- "Turning notifications on or off": where the shadow already says so, the record and the bytes stay as they are
abbrev pub turn_of : RingProducer → List ℕ → ℕ → Changed
turn_of p ring flags = notice_of p ring flags (turned p.layout.driver p.shadow flags ring)

-- "Arming at a slot"
abbrev pub arm_of : RingProducer → List ℕ → ℕ → Bool → Changed
arm_of p ring off wrap = notice_of p ring DESC (armed p.layout.driver off wrap ring)

-- what the device's event area asks of the move from old to the avail cursor
unfoldable pub since_of : RingProducer → List ℕ → RingCursor → Answer
since_of p ring old =
    let no = since_refusal p (length ring) old in
    cond (eqb no 0)
    (done (bit (told p.layout.device p.layout.size old p.avail ring) ∷ []))
    (refused no)
