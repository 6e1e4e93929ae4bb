-- The ring's cursors, elements and calls in the document's words (`virtio/specs`), for the theorems of this crate.
use Rattle.std.specs.Prelude.{ℕ, ◌+◌, ◌⊎◌, List, Bool, not, cond, ltb, get_or}
use Rattle.std.proofs.Common.{inl, inr}
use Rattle.base.specs.Answer.{Answer}
use Rattle.cursor.specs.declared.RingCursor.{RingCursor}
use Rattle.cursor.specs.Cursor.{at}
use Rattle.virtio.specs.Chains.{slot_at, counter_at, Element}
use Rattle.producer.specs.declared.RingProducer.{RingProducer}
use Rattle.producer.specs.Submit.{submit_of}
use Rattle.producer.specs.Tell as producer
use Rattle.producer.specs.Notices as used
use Rattle.consumer.specs.declared.RingConsumer.{RingConsumer}
use Rattle.consumer.specs.Complete as consumer
use Rattle.consumer.specs.Notices as avail

-- 2.7.1, the cursor of an end at a position: the slot and the wrap counter there
abbrev pub cursor_at : ℕ → ℕ → RingCursor
cursor_at size p = at (slot_at size p) (counter_at size p)

-- the first position of a cursor: in the round of number 0, whose counter is 1, or in the next
abbrev pub position_of : ℕ → RingCursor → ℕ
position_of size c = cond c.wrap c.head (c.head + size)

-- element j of the slices that a submission is handed: the first `readable` of them are device-readable
abbrev pub element_in : List ℕ → List ℕ → ℕ → ℕ → Element
element_in addrs lens readable j = record { addr = get_or addrs j 0; len = get_or lens j 0; writable = not (ltb j readable) }

-- ---- 2.7.10, how an end asks to be notified: flags that it turns to, or a slot and a round that it arms at

abbrev pub Request : Type 0
Request = ℕ ⊎ (ℕ × Bool)

-- the bytes behind such a call of the driver, and of the device
abbrev pub driver_asks : RingProducer → Request → List ℕ → List ℕ
driver_asks p (inl flags) bytes = (used.turn_of p bytes flags).ring
driver_asks p (inr slot) bytes = (used.arm_of p bytes slot.0 slot.1).ring

abbrev pub device_asks : RingConsumer → Request → List ℕ → List ℕ
device_asks p (inl flags) bytes = (avail.turn_of p bytes flags).ring
device_asks p (inr slot) bytes = (avail.arm_of p bytes slot.0 slot.1).ring

-- ---- 2.7.10, where an end decides whether to notify: what a submission and a completion are handed beside the bytes

pub record Submission : Type 0 where
  pub ids : List ℕ
  pub counts : List ℕ
  pub addrs : List ℕ
  pub lens : List ℕ
  pub readable : ℕ

pub record Completion : Type 0 where
  pub counts : List ℕ
  pub id : ℕ
  pub len : ℕ

-- the driver's answer since an old cursor, or with a submission; the device's with a completion
abbrev pub driver_notifies : RingProducer → RingCursor ⊎ Submission → List ℕ → Answer
driver_notifies p (inl old) bytes = used.since_of p bytes old
driver_notifies p (inr s) bytes =
    (producer.tell_of p.avail (submit_of p bytes s.ids s.counts s.addrs s.lens s.readable)).answer

abbrev pub device_notifies : RingConsumer → Completion → List ℕ → Answer
device_notifies p c bytes = (consumer.tell_of p.used (consumer.complete_of p bytes c.counts c.id c.len)).answer
