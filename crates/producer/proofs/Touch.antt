-- Frames: which bytes and which entries each call can touch, and what it leaves of the rest.
-- Assumes nothing.
use Prim.Native.Nat.{ℕ, ◌*◌, ◌≤◌, ◌<◌}
use mathlib.Core.Path.{◌≡◌, ◌∙◌, ap}
use mathlib.Core.List.{List}
use mathlib.Core.Bool.{Bool}
use native.Mathlib.Omega.{arith}
use lib.Dec.{eqb}
use lib.ListN.{length, get_or, set, replicate, length-replicate}
use lib.Seq.{get_or-set_same, get_or-set_other}
use Rattle.base.specs.Bytes.{put_of, get_of}
use Rattle.base.proofs.Tests.{chosen}
use Rattle.cursor.specs.declared.RingCursor.{RingCursor}
use Rattle.cursor.specs.Cursor.{steps}
use Rattle.desc.specs.declared.Descriptor.{Descriptor}
use Rattle.event.specs.Event.{ENABLE, DESC, event, encode_of}
use Rattle.event.proofs.Trips.{encode_length}
use Rattle.layout.specs.Layout.{table_bytes}
use Rattle.ring.specs.Slots.{slot_of}
use Rattle.ring.specs.Tables.{up_to}
use Rattle.ring.proofs.Laws.{up_length}
use Rattle.ring.proofs.Frames.{Clear, put_length, put_clear, EventAlone, event_kept, turned_alone, armed_alone, sets_behind}
use Rattle.producer.specs.declared.RingProducer.{RingProducer}
use Rattle.producer.specs.Record.{bytes_refusal, lent_refusal}
use Rattle.producer.specs.Outcome.{Outcome, Changed}
use Rattle.producer.specs.Submit.{top_of, submit_refusal, element_of, put_chain, submitted_of, submit_of}
use Rattle.producer.specs.Poll.{poll_refusal, polled_of, poll_of}
use Rattle.producer.specs.Notices.{notice_of, turn_of, arm_of}
use Rattle.producer.specs.Fresh.{reset_of}
use Rattle.producer.proofs.Submit.{SubmitReady, submit_ready, submit_done}
use Rattle.producer.proofs.Poll.{poll_done}
use Rattle.producer.proofs.Reset.{reset_done}
use Rattle.producer.proofs.Frame.{chain_length, chain_clear, chain_keep}

-- ---- an accepted submission: the table's slots from the avail cursor on, and one entry of the counts

module _ (p : RingProducer) (ring ids counts addrs lens : List ℕ) (readable : ℕ)
    (h : submit_refusal p (length ring) ids counts (length addrs) (length lens) readable ≡ 0) where
  abbrev submitted : Outcome
  submitted = submit_of p ring ids counts addrs lens readable

  abbrev element : ℕ → Descriptor
  element = element_of (top_of p ids) addrs lens readable

  is_ready : SubmitReady p (length ring) ids counts (length addrs) (length lens) readable
  is_ready = submit_ready p (length ring) ids counts (length addrs) (length lens) readable h

  pub submit_ring : submitted.ring ≡ (put_chain p.layout element (length addrs) p.avail ring).bytes
  unfolding submitted_of
  submit_ring = ap (λ (o : Outcome). o.ring) (submit_done p ring ids counts addrs lens readable h)

  pub submit_ids : submitted.ids ≡ ids
  unfolding submitted_of
  submit_ids = ap (λ (o : Outcome). o.ids) (submit_done p ring ids counts addrs lens readable h)

  pub submit_counts : submitted.counts ≡ set counts (top_of p ids) (length addrs)
  unfolding submitted_of
  submit_counts = ap (λ (o : Outcome). o.counts) (submit_done p ring ids counts addrs lens readable h)

  pub submit_length : length submitted.ring ≡ length ring
  submit_length = ap length submit_ring ∙ chain_length p.layout element (length addrs) p.avail ring

  pub submit_clear : (j m : ℕ) → Clear p.layout.table (table_bytes p.layout) j m → get_of submitted.ring j m ≡ get_of ring j m
  submit_clear j m o =
      ap (λ (l : List ℕ). get_of l j m) submit_ring
      ∙ chain_clear p.layout element (length addrs) p.avail ring j m is_ready.sound.avail o

  pub submit_keep :
      (s : RingCursor) → ((j : ℕ) → j < length addrs → (steps p.layout.size j p.avail).head ≡ s.head → ⊥)
      → slot_of p.layout.table s submitted.ring ≡ slot_of p.layout.table s ring
  submit_keep s a =
      ap (slot_of p.layout.table s) submit_ring
      ∙ chain_keep p.layout element (length addrs) p.avail ring s is_ready.elements a

  pub submit_count_other : (k : ℕ) → (k ≡ top_of p ids → ⊥) → get_or submitted.counts k 0 ≡ get_or counts k 0
  submit_count_other k n =
      ap (λ (l : List ℕ). get_or l k 0) submit_counts ∙ get_or-set_other counts (top_of p ids) k (length addrs) 0 n

  pub submit_count : get_or submitted.counts (top_of p ids) 0 ≡ length addrs
  submit_count =
      let r = is_ready in
      ap (λ (l : List ℕ). get_or l (top_of p ids) 0) submit_counts
      ∙ get_or-set_same counts (top_of p ids) (length addrs) 0 (omega (arith, r.id, r.lent.counts_whole))

-- ---- an accepted poll: one entry of the stack, and one of the counts

module _ (p : RingProducer) (ring ids counts : List ℕ)
    (h : poll_refusal p (length ring) (slot_of p.layout.table p.used ring) (length ids) counts ≡ 0) where
  abbrev found : Descriptor
  found = slot_of p.layout.table p.used ring

  pub poll_ring : (poll_of p ring ids counts).ring ≡ ring
  unfolding polled_of
  poll_ring = ap (λ (o : Outcome). o.ring) (poll_done p ring ids counts h)

  pub poll_ids : (poll_of p ring ids counts).ids ≡ set ids p.height found.id
  unfolding polled_of
  poll_ids = ap (λ (o : Outcome). o.ids) (poll_done p ring ids counts h)

  pub poll_counts : (poll_of p ring ids counts).counts ≡ set counts found.id 0
  unfolding polled_of
  poll_counts = ap (λ (o : Outcome). o.counts) (poll_done p ring ids counts h)

  pub poll_id_other : (k : ℕ) → (k ≡ p.height → ⊥) → get_or (poll_of p ring ids counts).ids k 0 ≡ get_or ids k 0
  poll_id_other k n = ap (λ (l : List ℕ). get_or l k 0) poll_ids ∙ get_or-set_other ids p.height k found.id 0 n

  pub poll_count_other : (k : ℕ) → (k ≡ found.id → ⊥) → get_or (poll_of p ring ids counts).counts k 0 ≡ get_or counts k 0
  poll_count_other k n = ap (λ (l : List ℕ). get_or l k 0) poll_counts ∙ get_or-set_other counts found.id k 0 0 n

-- ---- a notification's call, refused or not: the driver's event area

module _ (p : RingProducer) (ring : List ℕ) where
  notice_alone :
      (flags : ℕ) (bytes : List ℕ) → EventAlone p.layout.driver ring bytes
      → EventAlone p.layout.driver ring (notice_of p ring flags bytes).ring
  unfolding notice_of
  notice_alone flags bytes h =
      chosen (λ (o : Changed). EventAlone p.layout.driver ring o.ring) (eqb (bytes_refusal p (length ring)) 0) _ _
      h (event_kept p.layout.driver ring)

  pub turn_alone : (flags : ℕ) → EventAlone p.layout.driver ring (turn_of p ring flags).ring
  turn_alone flags = notice_alone flags _ (turned_alone p.layout.driver ring p.shadow flags)

  pub arm_alone : (off : ℕ) (wrap : Bool) → EventAlone p.layout.driver ring (arm_of p ring off wrap).ring
  arm_alone off wrap = notice_alone DESC _ (armed_alone p.layout.driver ring off wrap)

-- ---- an accepted reset: the table, the driver's event area, and the first ring-size entries

module _ (p : RingProducer) (ring ids counts : List ℕ) (h : lent_refusal p (length ring) (length ids) (length counts) ≡ 0) where
  abbrev zeroed : List ℕ
  zeroed = (put_of ring p.layout.table (replicate (16 * p.layout.size) 0)).bytes

  pub reset_length : length (reset_of p ring ids counts).ring ≡ length ring
  reset_length =
      ap (λ (o : Outcome). length o.ring) (reset_done p ring ids counts h)
      ∙ put_length zeroed p.layout.driver (encode_of (event 0 ENABLE))
      ∙ put_length ring p.layout.table (replicate (16 * p.layout.size) 0)

  pub reset_clear :
      (j m : ℕ) → Clear p.layout.table (table_bytes p.layout) j m → Clear p.layout.driver 4 j m
      → get_of (reset_of p ring ids counts).ring j m ≡ get_of ring j m
  reset_clear j m t d =
      ap (λ (o : Outcome). get_of o.ring j m) (reset_done p ring ids counts h)
      ∙ put_clear zeroed p.layout.driver (encode_of (event 0 ENABLE)) j m
      (rw (encode_length (event 0 ENABLE)) d)
      ∙ put_clear ring p.layout.table (replicate (16 * p.layout.size) 0) j m
      (rw (length-replicate {A = ℕ} (16 * p.layout.size) 0) (swap p.layout.size t))
    where
      swap : (s : ℕ) → Clear p.layout.table (s * 16) j m → Clear p.layout.table (16 * s) j m
      swap s o = let e : 16 * s ≡ s * 16 = omega arith in rw e o

  pub reset_id_behind : (k : ℕ) → p.layout.size ≤ k → get_or (reset_of p ring ids counts).ids k 0 ≡ get_or ids k 0
  reset_id_behind k b =
      ap (λ (o : Outcome). get_or o.ids k 0) (reset_done p ring ids counts h)
      ∙ sets_behind (up_to p.layout.size) ids 0 k (omega (arith, up_length 0 p.layout.size))

  pub reset_count_behind : (k : ℕ) → p.layout.size ≤ k → get_or (reset_of p ring ids counts).counts k 0 ≡ get_or counts k 0
  reset_count_behind k b =
      ap (λ (o : Outcome). get_or o.counts k 0) (reset_done p ring ids counts h)
      ∙ sets_behind (replicate p.layout.size 0) counts 0 k (omega (arith, length-replicate {A = ℕ} p.layout.size 0))
