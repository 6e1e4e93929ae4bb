-- Which bytes a chain that is written touches, and what stands in its slots then.
-- Assumes nothing.
use Prim.Native.Nat.{ℕ, zero, suc, ◌+◌, ◌-◌, ◌*◌, ◌^◌, ◌≤◌, ◌<◌}
use mathlib.Core.Path.{◌≡◌, refl, sym, ◌∙◌, ap}
use mathlib.Core.Logic.{inl, inr, ⊎_elim}
use mathlib.Core.List.{List}
use mathlib.Core.Bool.{Bool, false, not, cond}
use native.Mathlib.Omega.{arith}
use native.Mathlib.Nat.{add-zero, suc-add, add-suc}
use lib.Dec.{ltb}
use lib.ListN.{length, get_or}
use Rattle.base.specs.Bytes.{get_of}
use Rattle.base.proofs.Tests.{each_way}
use Rattle.cursor.specs.declared.RingCursor.{RingCursor}
use Rattle.cursor.specs.Cursor.{step, steps}
use Rattle.cursor.proofs.Laws.{step_below, steps_none, heads_apart}
use Rattle.desc.specs.declared.Descriptor.{Descriptor}
use Rattle.desc.specs.Flags.{NEXT, WRITE, INDIRECT, has, known}
use Rattle.desc.specs.Desc.{mark_avail}
use Rattle.desc.proofs.Trips.{Ranged}
use Rattle.desc.proofs.Flags.{avail_fits, avail_keeps}
use Rattle.layout.specs.declared.Layout.{Layout}
use Rattle.layout.specs.Layout.{table_bytes}
use Rattle.ring.specs.Slots.{slot_of, slot_put}
use Rattle.ring.proofs.Frames.{Clear, slot_length, slot_clear, slot_same, slot_other}
use Rattle.producer.specs.Submit.{element_of, put_avail, put_tails, put_chain}

-- what is behind the table or before it is behind or before each of its slots
pub slot_in_table : (l : Layout) (c : RingCursor) (j m : ℕ) → c.head < l.size → Clear l.table (table_bytes l) j m → Clear (l.table + c.head * 16) 16 j m
slot_in_table l c j m b o = ⊎_elim (λ h. inl (omega arith)) (λ h. inr (omega arith)) o

steps_suc : (size j : ℕ) (c : RingCursor) → steps size (suc j) c ≡ steps size j (step size c)
unfolding steps
steps_suc size j c = refl

module _ (l : Layout) (f : ℕ → Descriptor) where
  -- ---- the tails: k elements from element i on, from the cursor on

  pub tails_length : (k i : ℕ) (c : RingCursor) (ring : List ℕ) → length (put_tails l f k i c ring).bytes ≡ length ring
  unfolding put_tails
  tails_length zero i c ring = refl
  tails_length (suc k) i c ring =
      tails_length k (suc i) (step l.size c) (put_avail l c (f i) ring)
      ∙ slot_length l.table c (mark_avail (f i) c.wrap) ring

  pub tails_past : (k i : ℕ) (c : RingCursor) (ring : List ℕ) → (put_tails l f k i c ring).past ≡ steps l.size k c
  unfolding put_tails steps
  tails_past zero i c ring = refl
  tails_past (suc k) i c ring = tails_past k (suc i) (step l.size c) (put_avail l c (f i) ring)

  -- bytes outside the table
  pub tails_clear :
      (k i : ℕ) (c : RingCursor) (ring : List ℕ) (j m : ℕ) → c.head < l.size → Clear l.table (table_bytes l) j m
      → get_of (put_tails l f k i c ring).bytes j m ≡ get_of ring j m
  unfolding put_tails
  tails_clear zero i c ring j m b o = refl
  tails_clear (suc k) i c ring j m b o =
      tails_clear k (suc i) (step l.size c) (put_avail l c (f i) ring) j m (step_below l.size c (omega arith)) o
      ∙ slot_clear l.table c (mark_avail (f i) c.wrap) ring j m (slot_in_table l c j m b o)

  -- what each store into a slot keeps of the bytes
  tails_hold :
      (P : List ℕ → Type 0) → ((c : RingCursor) (d : Descriptor) (ring : List ℕ) → P ring → P (slot_put l.table c d ring))
      → (k i : ℕ) (c : RingCursor) (ring : List ℕ) → P ring → P (put_tails l f k i c ring).bytes
  unfolding put_tails
  tails_hold P h zero i c ring b = b
  tails_hold P h (suc k) i c ring b =
      tails_hold P h k (suc i) (step l.size c) (put_avail l c (f i) ring) (h c (mark_avail (f i) c.wrap) ring b)

  -- slots that are none of the chain's
  pub tails_keep :
      (k i : ℕ) (c s : RingCursor) (ring : List ℕ) → ((j : ℕ) → j < k → (steps l.size j c).head ≡ s.head → ⊥)
      → slot_of l.table s (put_tails l f k i c ring).bytes ≡ slot_of l.table s ring
  unfolding put_tails steps
  tails_keep zero i c s ring h = refl
  tails_keep (suc k) i c s ring h =
      tails_keep k (suc i) (step l.size c) s (put_avail l c (f i) ring) (λ j q. h (suc j) (omega arith))
      ∙ slot_other l.table c (mark_avail (f i) c.wrap) ring s (h 0 (omega arith))

  module _ (r : (j : ℕ) (w : Bool) → Ranged (mark_avail (f j) w)) where
    -- the chain's own slots
    pub tails_at :
        (k i j : ℕ) (c : RingCursor) (ring : List ℕ) → j < k → k ≤ l.size → c.head < l.size → l.table + table_bytes l ≤ length ring
        → slot_of l.table (steps l.size j c) (put_tails l f k i c ring).bytes ≡ mark_avail (f (i + j)) (steps l.size j c).wrap
    unfolding put_tails steps
    tails_at zero i j c ring q m b t = absurd (omega arith)
    tails_at (suc k) i zero c ring q m b t =
        tails_keep k (suc i) (step l.size c) c (put_avail l c (f i) ring)
        (λ j h e. heads_apart l.size 0 (suc j) c b (omega arith) (omega arith) (sym e))
        ∙ slot_same l.table c (mark_avail (f i) c.wrap) ring (omega arith) (r i c.wrap)
        ∙ ap (λ (n : ℕ). mark_avail (f n) c.wrap) (sym (add-zero i))
    tails_at (suc k) i (suc j) c ring q m b t =
        tails_at k (suc i) j (step l.size c) (put_avail l c (f i) ring) (omega arith) (omega arith) (step_below l.size c (omega arith))
        (omega (arith, slot_length l.table c (mark_avail (f i) c.wrap) ring))
        ∙ ap (λ (n : ℕ). mark_avail (f n) (steps l.size j (step l.size c)).wrap) (suc-add i j ∙ sym (add-suc i j))

  -- ---- the chain: the tails, then the head

  module _ (n : ℕ) (c : RingCursor) (ring : List ℕ) where
    abbrev behind : List ℕ
    behind = (put_tails l f (n - 1) 1 (step l.size c) ring).bytes

    pub chain_length : length (put_chain l f n c ring).bytes ≡ length ring
    unfolding put_chain
    chain_length = slot_length l.table c (mark_avail (f 0) c.wrap) behind ∙ tails_length (n - 1) 1 (step l.size c) ring

    pub chain_past : 0 < n → (put_chain l f n c ring).past ≡ steps l.size n c
    unfolding put_chain
    chain_past h =
        let e : n ≡ suc (n - 1) = omega arith in
        tails_past (n - 1) 1 (step l.size c) ring ∙ sym (steps_suc l.size (n - 1) c) ∙ ap (λ (m : ℕ). steps l.size m c) (sym e)

    pub chain_clear :
        (j m : ℕ) → c.head < l.size → Clear l.table (table_bytes l) j m → get_of (put_chain l f n c ring).bytes j m ≡ get_of ring j m
    unfolding put_chain
    chain_clear j m b o =
        slot_clear l.table c (mark_avail (f 0) c.wrap) behind j m (slot_in_table l c j m b o)
        ∙ tails_clear (n - 1) 1 (step l.size c) ring j m (step_below l.size c (omega arith)) o

    pub chain_hold :
        (P : List ℕ → Type 0) → ((c : RingCursor) (d : Descriptor) (ring : List ℕ) → P ring → P (slot_put l.table c d ring))
        → P ring → P (put_chain l f n c ring).bytes
    unfolding put_chain
    chain_hold P h b = h c (mark_avail (f 0) c.wrap) behind (tails_hold P h (n - 1) 1 (step l.size c) ring b)

    pub chain_keep :
        (s : RingCursor) → 0 < n → ((j : ℕ) → j < n → (steps l.size j c).head ≡ s.head → ⊥)
        → slot_of l.table s (put_chain l f n c ring).bytes ≡ slot_of l.table s ring
    unfolding put_chain
    chain_keep s z h =
        slot_other l.table c (mark_avail (f 0) c.wrap) behind s (λ e. h 0 z (ap (λ (x : RingCursor). x.head) (steps_none l.size c) ∙ e))
        ∙ tails_keep (n - 1) 1 (step l.size c) s ring
        (λ j q e. h (suc j) (omega arith) (ap (λ (x : RingCursor). x.head) (steps_suc l.size j c) ∙ e))

    -- element j stands at the chain's j-th slot, available in that slot's round
    pub chain_at :
        ((j : ℕ) (w : Bool) → Ranged (mark_avail (f j) w))
        → (j : ℕ) → j < n → n ≤ l.size → c.head < l.size → l.table + table_bytes l ≤ length ring
        → slot_of l.table (steps l.size j c) (put_chain l f n c ring).bytes ≡ mark_avail (f j) (steps l.size j c).wrap
    unfolding put_chain steps
    chain_at r zero q m b t =
        slot_same l.table c (mark_avail (f 0) c.wrap) behind
        (omega (arith, tails_length (n - 1) 1 (step l.size c) ring)) (r 0 c.wrap)
    chain_at r (suc j) q m b t =
        let s = steps l.size j (step l.size c) in
        let e : 1 + j ≡ suc j = omega arith in
        slot_other l.table c (mark_avail (f 0) c.wrap) behind s
        (λ e. heads_apart l.size 0 (suc j) c b (omega arith) (omega arith) e)
        ∙ tails_at r (n - 1) 1 j (step l.size c) ring (omega arith) (omega arith) (step_below l.size c (omega arith)) t
        ∙ ap (λ (x : ℕ). mark_avail (f x) s.wrap) e

-- an element of lent numbers is a descriptor, and stays one when it is marked
pub element_ranged :
    (id : ℕ) (addrs lens : List ℕ) (readable : ℕ) → id < 65536
    → ((i : ℕ) → get_or addrs i 0 < 256 ^ 8) → ((i : ℕ) → get_or lens i 0 < 256 ^ 4)
    → (j : ℕ) (w : Bool) → Ranged (mark_avail (element_of id addrs lens readable j) w)
unfolding element_of mark_avail
element_ranged id addrs lens readable h a b j w =
    record {
      addr = a j;
      len = b j;
      id = h;
      flags = avail_fits (cond (ltb (j + 1) (length addrs)) NEXT 0 + cond (ltb j readable) 0 WRITE) w;
    }

-- an element's flags are of the five alone, in a word of 16 bits
pub element_flags :
    (id : ℕ) (addrs lens : List ℕ) (readable j : ℕ)
    → let f = (element_of id addrs lens readable j).flags in (known f ≡ f) × (f < 65536)
unfolding element_of
element_flags id addrs lens readable j =
    each_way (λ (a b : Bool). let f = cond a NEXT 0 + cond b 0 WRITE in (known f ≡ f) × (f < 65536))
    (refl, omega arith) (refl, omega arith) (refl, omega arith) (refl, omega arith) (ltb (j + 1) (length addrs)) (ltb j readable)

-- what an element says of itself
pub record Says (given : ℕ) (addrs lens : List ℕ) (readable j : ℕ) (d : Descriptor) : Type 0 where
  pub addr : d.addr ≡ get_or addrs j 0
  pub len : d.len ≡ get_or lens j 0
  pub id : d.id ≡ given
  pub next : has d.flags NEXT ≡ ltb (j + 1) (length addrs)
  pub write : has d.flags WRITE ≡ not (ltb j readable)
  pub indirect : has d.flags INDIRECT ≡ false

element_says : (id : ℕ) (addrs lens : List ℕ) (readable j : ℕ) → Says id addrs lens readable j (element_of id addrs lens readable j)
unfolding element_of
element_says id addrs lens readable j =
    record {
      addr = refl;
      len = refl;
      id = refl;
      next = each_way (λ (a b : Bool). has (cond a NEXT 0 + cond b 0 WRITE) NEXT ≡ a) refl refl refl refl (ltb (j + 1) (length addrs)) (ltb j readable);
      write = each_way (λ (a b : Bool). has (cond a NEXT 0 + cond b 0 WRITE) WRITE ≡ not b) refl refl refl refl (ltb (j + 1) (length addrs)) (ltb j readable);
      indirect = each_way (λ (a b : Bool). has (cond a NEXT 0 + cond b 0 WRITE) INDIRECT ≡ false) refl refl refl refl (ltb (j + 1) (length addrs)) (ltb j readable);
    }

-- and says it still when it is marked
pub marked_says :
    (id : ℕ) (addrs lens : List ℕ) (readable j : ℕ) (w : Bool) → Says id addrs lens readable j (mark_avail (element_of id addrs lens readable j) w)
marked_says id addrs lens readable j w =
    let d = element_of id addrs lens readable j in
    let s = element_says id addrs lens readable j in
    let k = avail_keeps d w in
    record {
      addr = k.addr ∙ s.addr;
      len = k.len ∙ s.len;
      id = k.id ∙ s.id;
      next = k.flags.next ∙ s.next;
      write = k.flags.write ∙ s.write;
      indirect = k.flags.indirect ∙ s.indirect;
    }
