-- The chain at a cursor (document 01, "What each end does", Consumer; VIRTIO 1.1, 2.7.5 and 2.7.6).
use Rattle.std.specs.Prelude.{ℕ, zero, suc, ◌+◌, List, [], ◌∷◌, Bool, true, false, cond, not, ◌||◌, ◌&&◌}
use Rattle.cursor.specs.declared.RingCursor.{RingCursor}
use Rattle.cursor.specs.Cursor.{step}
use Rattle.desc.specs.declared.Descriptor.{Descriptor}
use Rattle.desc.specs.Flags.{NEXT, WRITE, INDIRECT, has}
use Rattle.ring.specs.Slots.{slot_of}
use Rattle.walk.specs.declared.Walk.{Walk}

-- before the head is looked at: nothing is counted, and there is more
abbrev pub start : RingCursor → Walk
start c = record { at = c; count = 0; readable = 0; more = true; writing = false; bad = false }

-- "A readable element after a writable one, or INDIRECT anywhere, is a bad chain."
abbrev pub spoilt : Walk → Descriptor → Bool
spoilt w d = has d.flags INDIRECT || (not (has d.flags WRITE) && w.writing)

-- one slot is looked at, of which NEXT, WRITE and INDIRECT count: "Tail IDs and tail AVAIL/USED bits are not looked at." A slot
-- that is not WRITE is readable, and a bad one ends the walk
unfoldable pub look_of : ℕ → Walk → Descriptor → Walk
look_of size w d =
    record {
      at = step size w.at;
      count = w.count + 1;
      readable = w.readable + cond (has d.flags WRITE) 0 1;
      more = has d.flags NEXT && not (spoilt w d);
      writing = has d.flags WRITE || w.writing;
      bad = spoilt w d;
    }

-- "walks while NEXT is set, at most ring-size slots": at most k slots, while there is more
unfoldable pub walk_of : ℕ → ℕ → List ℕ → ℕ → Walk → Walk
walk_of table size ring zero w = w
walk_of table size ring (suc k) w =
    cond w.more (walk_of table size ring k (look_of size w (slot_of table w.at ring))) w

-- the descriptors of k slots from a cursor on
unfoldable pub slots_from : ℕ → ℕ → List ℕ → RingCursor → ℕ → List Descriptor
slots_from table size ring c zero = []
slots_from table size ring c (suc k) = slot_of table c ring ∷ slots_from table size ring (step size c) k

-- of a descriptor, what a poll hands out
abbrev pub addr_of : Descriptor → ℕ
addr_of d = d.addr

abbrev pub len_of : Descriptor → ℕ
len_of d = d.len
