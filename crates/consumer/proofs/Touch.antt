-- Frames: which bytes and which entries each call can touch, and what it leaves of the rest.
-- Assumes nothing.
use Prim.Native.Nat.{ℕ, ◌≤◌}
use mathlib.Core.Path.{◌≡◌, ◌∙◌, ap}
use mathlib.Core.List.{List, map}
use mathlib.Core.Bool.{Bool, false}
use native.Mathlib.Omega.{arith}
use lib.Dec.{eqb}
use lib.ListN.{length, get_or, set, replicate, length-replicate}
use lib.Seq.{sets, get_or-set_other}
use Rattle.base.specs.Bytes.{get_of}
use Rattle.base.proofs.Tests.{by_eq, chosen}
use Rattle.cursor.specs.declared.RingCursor.{RingCursor}
use Rattle.desc.specs.declared.Descriptor.{Descriptor}
use Rattle.desc.specs.Desc.{descriptor, mark_used}
use Rattle.event.specs.Event.{ENABLE, DESC, event, encode_of}
use Rattle.event.proofs.Trips.{encode_length}
use Rattle.ring.specs.Slots.{place_of, slot_of}
use Rattle.ring.proofs.Frames.{Clear, slot_length, slot_clear, slot_other, put_length, put_clear, EventAlone, event_kept, turned_alone, armed_alone, sets_behind}
use Rattle.undo.specs.Undo.{named}
use Rattle.undo.proofs.Laws.{cleared_other}
use Rattle.walk.specs.Walk.{slots_from, addr_of, len_of}
use Rattle.walk.proofs.Laws.{slots_length}
use Rattle.consumer.specs.declared.RingConsumer.{RingConsumer}
use Rattle.consumer.specs.declared.Checkpoint.{Checkpoint}
use Rattle.consumer.specs.Record.{bytes_refusal, lent_refusal}
use Rattle.consumer.specs.Outcome.{Outcome, Changed}
use Rattle.consumer.specs.Poll.{Taken, head_refusal, walk_refusal, walked_of, head_of, polled_of, poll_of}
use Rattle.consumer.specs.Complete.{complete_refusal, complete_of}
use Rattle.consumer.specs.Rollback.{rollback_of, rollback_refusal}
use Rattle.consumer.specs.Notices.{notice_of, turn_of, arm_of}
use Rattle.consumer.specs.Fresh.{reset_of}
use Rattle.consumer.proofs.Poll.{poll_taken}
use Rattle.consumer.proofs.Complete.{complete_done}
use Rattle.consumer.proofs.Rollback.{rollback_kept, rollback_cleared}
use Rattle.consumer.proofs.Reset.{reset_done}

-- ---- a poll that takes a chain: one entry of the counts, and the first places of both outputs. The bytes are lent as `&`.

module _ (p : RingConsumer) (ring counts addrs lens : List ℕ)
    (h : head_refusal p (length ring) (head_of p ring) (length counts) (length addrs) (length lens) 0 ≡ 0)
    (k : walk_refusal p (walked_of p ring) (head_of p ring).id counts ≡ 0) where
  abbrev took : Taken
  took = poll_of p ring counts addrs lens

  abbrev read : (Descriptor → ℕ) → List ℕ
  read A = map A (slots_from p.layout.table p.layout.size ring p.avail (walked_of p ring).count)

  pub poll_counts : took.counts ≡ set counts (head_of p ring).id (walked_of p ring).count
  unfolding polled_of
  poll_counts = ap (λ (o : Taken). o.counts) (poll_taken p ring counts addrs lens h k)

  pub poll_addrs : took.addrs ≡ sets addrs 0 (read addr_of)
  unfolding polled_of
  poll_addrs = ap (λ (o : Taken). o.addrs) (poll_taken p ring counts addrs lens h k)

  pub poll_lens : took.lens ≡ sets lens 0 (read len_of)
  unfolding polled_of
  poll_lens = ap (λ (o : Taken). o.lens) (poll_taken p ring counts addrs lens h k)

  pub poll_count_other : (i : ℕ) → (i ≡ (head_of p ring).id → ⊥) → get_or took.counts i 0 ≡ get_or counts i 0
  poll_count_other i n =
      ap (λ (l : List ℕ). get_or l i 0) poll_counts ∙ get_or-set_other counts (head_of p ring).id i (walked_of p ring).count 0 n

  pub poll_addr_behind : (i : ℕ) → (walked_of p ring).count ≤ i → get_or took.addrs i 0 ≡ get_or addrs i 0
  poll_addr_behind i b =
      ap (λ (l : List ℕ). get_or l i 0) poll_addrs
      ∙ sets_behind (read addr_of) addrs 0 i
      (omega (arith, slots_length p.layout.table p.layout.size ring addr_of (walked_of p ring).count p.avail))

  pub poll_len_behind : (i : ℕ) → (walked_of p ring).count ≤ i → get_or took.lens i 0 ≡ get_or lens i 0
  poll_len_behind i b =
      ap (λ (l : List ℕ). get_or l i 0) poll_lens
      ∙ sets_behind (read len_of) lens 0 i
      (omega (arith, slots_length p.layout.table p.layout.size ring len_of (walked_of p ring).count p.avail))

-- ---- an accepted completion: the slot at the used cursor, and one entry of the counts

module _ (p : RingConsumer) (ring counts : List ℕ) (id len : ℕ) (h : complete_refusal p (length ring) id counts ≡ 0) where
  abbrev completed : Outcome
  completed = complete_of p ring counts id len

  abbrev mark : Descriptor
  mark = mark_used (descriptor 0 len id 0) p.used.wrap

  pub complete_length : length completed.ring ≡ length ring
  complete_length =
      ap (λ (o : Outcome). length o.ring) (complete_done p ring counts id len h) ∙ slot_length p.layout.table p.used mark ring

  pub complete_clear : (j m : ℕ) → Clear (place_of p.layout.table p.used) 16 j m → get_of completed.ring j m ≡ get_of ring j m
  complete_clear j m o =
      ap (λ (x : Outcome). get_of x.ring j m) (complete_done p ring counts id len h) ∙ slot_clear p.layout.table p.used mark ring j m o

  pub complete_keep :
      (s : RingCursor) → (p.used.head ≡ s.head → ⊥) → slot_of p.layout.table s completed.ring ≡ slot_of p.layout.table s ring
  complete_keep s n =
      ap (λ (x : Outcome). slot_of p.layout.table s x.ring) (complete_done p ring counts id len h)
      ∙ slot_other p.layout.table p.used mark ring s n

  pub complete_count_other : (i : ℕ) → (i ≡ id → ⊥) → get_or completed.counts i 0 ≡ get_or counts i 0
  complete_count_other i n =
      ap (λ (x : Outcome). get_or x.counts i 0) (complete_done p ring counts id len h) ∙ get_or-set_other counts id i 0 0 n

-- ---- a rollback, refused or not: the entries of the IDs that it names

module _ (p : RingConsumer) (counts : List ℕ) (cp : Checkpoint) (ids : List ℕ) where
  pub rollback_count_other : (i : ℕ) → named i ids ≡ false → get_or (rollback_of p counts cp ids).counts i 0 ≡ get_or counts i 0
  rollback_count_other i n =
      by_eq (rollback_refusal p counts cp ids) 0
      (λ z. ap (λ (l : List ℕ). get_or l i 0) (rollback_cleared p counts cp ids z) ∙ cleared_other counts ids i n)
      (λ z. ap (λ (l : List ℕ). get_or l i 0) (rollback_kept p counts cp ids z))

-- ---- a notification's call, refused or not: the device's event area

module _ (p : RingConsumer) (ring : List ℕ) where
  notice_alone :
      (flags : ℕ) (bytes : List ℕ) → EventAlone p.layout.device ring bytes
      → EventAlone p.layout.device ring (notice_of p ring flags bytes).ring
  unfolding notice_of
  notice_alone flags bytes h =
      chosen (λ (o : Changed). EventAlone p.layout.device ring o.ring) (eqb (bytes_refusal p (length ring)) 0) _ _
      h (event_kept p.layout.device ring)

  pub turn_alone : (flags : ℕ) → EventAlone p.layout.device ring (turn_of p ring flags).ring
  turn_alone flags = notice_alone flags _ (turned_alone p.layout.device ring p.shadow flags)

  pub arm_alone : (off : ℕ) (wrap : Bool) → EventAlone p.layout.device ring (arm_of p ring off wrap).ring
  arm_alone off wrap = notice_alone DESC _ (armed_alone p.layout.device ring off wrap)

-- ---- an accepted reset: the device's event area, and the first ring-size entries

module _ (p : RingConsumer) (ring counts : List ℕ) (h : lent_refusal p (length ring) (length counts) ≡ 0) where
  pub reset_length : length (reset_of p ring counts).ring ≡ length ring
  reset_length =
      ap (λ (o : Outcome). length o.ring) (reset_done p ring counts h)
      ∙ put_length ring p.layout.device (encode_of (event 0 ENABLE))

  pub reset_clear : (j m : ℕ) → Clear p.layout.device 4 j m → get_of (reset_of p ring counts).ring j m ≡ get_of ring j m
  reset_clear j m o =
      ap (λ (x : Outcome). get_of x.ring j m) (reset_done p ring counts h)
      ∙ put_clear ring p.layout.device (encode_of (event 0 ENABLE)) j m (rw (encode_length (event 0 ENABLE)) o)

  pub reset_count_behind : (k : ℕ) → p.layout.size ≤ k → get_or (reset_of p ring counts).counts k 0 ≡ get_or counts k 0
  reset_count_behind k b =
      ap (λ (o : Outcome). get_or o.counts k 0) (reset_done p ring counts h)
      ∙ sets_behind (replicate p.layout.size 0) counts 0 k (omega (arith, length-replicate {A = ℕ} p.layout.size 0))
