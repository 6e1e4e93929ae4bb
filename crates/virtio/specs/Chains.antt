-- Wrap counters, chains and used descriptors as VIRTIO 1.1 has them, by slots, bits and bytes, sections named. An end is spoken of
-- by its position: how many slots it has gone over since the start. Nothing here knows the ring's definitions.
use Rattle.std.specs.Prelude.{ℕ, ◌+◌, ◌-◌, ◌*◌, ◌/◌, ◌%◌, ◌^◌, ◌≤◌, ◌<◌, ◌≡◌, List, Bool, true, false, ltb, eqb, take, drop}
use Rattle.virtio.specs.Packed.{image, pvirtq_desc, bit_at, NEXT_BIT, WRITE_BIT, INDIRECT_BIT, Available, Used, Reserved}

-- ---- positions

-- 2.7.6: the slots follow one another in ring order, over the end to slot 0. The slot at a position
abbrev pub slot_at : ℕ → ℕ → ℕ
slot_at size p = p % size

-- 2.7.1: an end's wrap counter is one bit, 1 at the start, and flips when the end has gone over the ring's last slot: it is 1 in
-- the rounds of even number, the first being 0
abbrev pub counter_at : ℕ → ℕ → Bool
counter_at size p = eqb (p / size % 2) 0

-- ---- slots of a table that begins at a byte of some memory

-- 2.7.13: the descriptor in slot s, sixteen bytes a slot, its fields as wide as there
pub record DescAt (bytes : List ℕ) (table s addr len id flags : ℕ) : Type 0 where
  pub addr_64 : addr < 2 ^ 64
  pub len_32 : len < 2 ^ 32
  pub id_16 : id < 2 ^ 16
  pub flags_16 : flags < 2 ^ 16
  pub there : take 16 (drop (table + 16 * s) bytes) ≡ image (pvirtq_desc addr len id flags)

-- an element of a chain: its address and length, and whether it is device-writable
pub record Element : Type 0 where
  pub addr : ℕ
  pub len : ℕ
  pub writable : Bool

-- an available descriptor at the driver's position p, with some ID: the element's address and length (2.7.4), WRITE if it is
-- device-writable (2.7.3), NEXT if another follows (2.7.6), not INDIRECT (2.7.7), the reserved flags 0, and available in the
-- driver's round at that slot (2.7.1)
pub record AvailableAt (bytes : List ℕ) (table size p : ℕ) (e : Element) (id : ℕ) (follows : Bool) : Type 0 where
  pub flags : ℕ
  pub desc : DescAt bytes table (slot_at size p) e.addr e.len id flags
  pub round : Available flags (counter_at size p)
  pub write : bit_at WRITE_BIT flags ≡ e.writable
  pub next : bit_at NEXT_BIT flags ≡ follows
  pub direct : bit_at INDIRECT_BIT flags ≡ false
  pub reserved : (k : ℕ) → Reserved k → bit_at k flags ≡ false

-- 2.7.5 and 2.7.6: a chain of n elements from the driver's position p on. It is no longer than the queue size, device-readable
-- elements come before device-writable ones, its slots follow one another, NEXT is on all but the last, and the buffer ID is in
-- the last; in the others the ID is reserved
pub record ChainAt (bytes : List ℕ) (table size p n buffer : ℕ) (element : ℕ → Element) : Type 0 where
  pub some_elements : 0 < n
  pub no_longer : n ≤ size
  pub readable_first : (i j : ℕ) → i < j → j < n → (element i).writable ≡ true → (element j).writable ≡ true
  pub ids : ℕ → ℕ
  pub slots : (j : ℕ) → j < n → AvailableAt bytes table size (p + j) (element j) (ids j) (ltb (j + 1) n)
  pub last : ids (n - 1) ≡ buffer

-- 2.7.5: the one used descriptor of a chain, at the device's position p: the chain's ID, the length that the device wrote
-- (2.7.4, which gives it a meaning with WRITE alone; the address is not used), WRITE if it wrote at all (2.7.3), the reserved
-- flags 0, and used in the device's round at that slot (2.7.1)
pub record UsedAt (bytes : List ℕ) (table size p id len : ℕ) (wrote : Bool) : Type 0 where
  pub addr : ℕ
  pub flags : ℕ
  pub desc : DescAt bytes table (slot_at size p) addr len id flags
  pub round : Used flags (counter_at size p)
  pub write : bit_at WRITE_BIT flags ≡ wrote
  pub reserved : (k : ℕ) → Reserved k → bit_at k flags ≡ false

-- ---- what DESC waits for

-- 2.7.10: of the n slots from position p on, the descriptor at that offset in that round is one
pub record Reached (size p n off : ℕ) (wrap : Bool) : Type 0 where
  pub step : ℕ
  pub before : step < n
  pub slot : slot_at size (p + step) ≡ off
  pub round : counter_at size (p + step) ≡ wrap
