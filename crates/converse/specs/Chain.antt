-- The chain at the avail cursor, and a bad one, whatever the bytes are (document 01, "What each end does", Consumer, and refusals
-- 2 and 3; VIRTIO 1.1, 2.7.1, 2.7.3, 2.7.5 to 2.7.7).
use Rattle.std.specs.Prelude.{ℕ, ◌+◌, ◌≤◌, ◌<◌, ◌≡◌, ◌↔◌, List, Bool, true}
use Rattle.cursor.specs.Cursor.{steps}
use Rattle.desc.specs.declared.Descriptor.{Descriptor}
use Rattle.desc.specs.Flags.{NEXT, WRITE, INDIRECT, AVAIL, USED, has}
use Rattle.ring.specs.Slots.{slot_of}
use Rattle.consumer.specs.declared.RingConsumer.{RingConsumer}

-- slot number i of those from the avail cursor on, the head being number 0
abbrev pub slot_from : RingConsumer → List ℕ → ℕ → Descriptor
slot_from p ring i = slot_of p.layout.table (steps p.layout.size i p.avail) ring

-- "Flags: NEXT 1, WRITE 2, INDIRECT 4" (2.7.5, 2.7.3, 2.7.7); a slot that is not WRITE is readable
abbrev pub Next : Descriptor → Type 0
Next d = has d.flags NEXT ≡ true

abbrev pub Writable : Descriptor → Type 0
Writable d = has d.flags WRITE ≡ true

abbrev pub Readable : Descriptor → Type 0
Readable d = ¬ Writable d

abbrev pub Indirect : Descriptor → Type 0
Indirect d = has d.flags INDIRECT ≡ true

-- "Available in round w: AVAIL equals w and USED differs from w." (2.7.1)
abbrev pub Available : Descriptor → Bool → Type 0
Available d w = (has d.flags AVAIL ≡ w) × (¬ (has d.flags USED ≡ w))

-- a chain of n slots, the first r of them readable: at most ring-size slots, NEXT on all but the last, INDIRECT on none, and no
-- readable element after a writable one
pub record IsChain (slot : ℕ → Descriptor) (size n r : ℕ) : Type 0 where
  pub some_slots : 1 ≤ n
  pub few : n ≤ size
  pub next : (i : ℕ) → i + 1 < n → Next (slot i)
  pub last : (i : ℕ) → i + 1 ≡ n → ¬ Next (slot i)
  pub direct : (i : ℕ) → i < n → ¬ Indirect (slot i)
  pub ordered : (i j : ℕ) → i ≤ j → j < n → Writable (slot i) → Writable (slot j)
  pub within : r ≤ n
  pub readable : (i : ℕ) → i < n → Readable (slot i) ↔ (i < r)

-- "walks while NEXT is set, at most ring-size slots": slot i is come to
abbrev pub Walked : (ℕ → Descriptor) → ℕ → ℕ → Type 0
Walked slot size i = (i < size) × ((j : ℕ) → j < i → Next (slot j))

-- refusal 2, BadChain: "INDIRECT; readable after writable; NEXT still set after ring-size slots"
pub data BadChain (slot : ℕ → Descriptor) (size : ℕ) : Type 0 where
  indirect : (i : ℕ) → Walked slot size i → Indirect (slot i) → BadChain slot size
  readable_after_writable : (i j : ℕ) → Walked slot size i → j < i → Writable (slot j) → Readable (slot i) → BadChain slot size
  next_still_set : ((i : ℕ) → i < size → Next (slot i)) → BadChain slot size
