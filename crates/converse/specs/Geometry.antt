-- When a geometry is refused, in numbers and bytes (document 01, "When the ring says no", refusal 6; VIRTIO 1.1, 2.7.10.1).
use Rattle.std.specs.Prelude.{ℕ, ◌+◌, ◌*◌, ◌%◌, ◌≤◌, ◌<◌, ◌≡◌, ◌⊎◌}
use Rattle.layout.specs.declared.Layout.{Layout}

-- "two areas overlap": n bytes from a on, and m from b on, have a byte in common
abbrev pub Overlap : ℕ → ℕ → ℕ → ℕ → Type 0
Overlap a n b m = (k : ℕ) × (a ≤ k) × (k < a + n) × (b ≤ k) × (k < b + m)

-- refusal 6, and "stored geometry breaks 6, apart from fitting the lent bytes" of refusal 7: "size outside 1..32,768; table
-- offset not a multiple of 16; event offset not a multiple of 4; .. two areas overlap". A slot has 16 bytes, an event area 4
pub data Broken (l : Layout) : Type 0 where
  no_slots : l.size < 1 → Broken l
  too_many : 32768 < l.size → Broken l
  table_offset : ¬ (l.table % 16 ≡ 0) → Broken l
  driver_offset : ¬ (l.driver % 4 ≡ 0) → Broken l
  device_offset : ¬ (l.device % 4 ≡ 0) → Broken l
  table_driver : Overlap l.table (l.size * 16) l.driver 4 → Broken l
  table_device : Overlap l.table (l.size * 16) l.device 4 → Broken l
  driver_device : Overlap l.driver 4 l.device 4 → Broken l

-- refusal 6, "an area outside the lent bytes", and refusal 8, "bytes too short for the areas": an area ends after the last of them
pub data Outside (l : Layout) (bytes : ℕ) : Type 0 where
  table : bytes < l.table + l.size * 16 → Outside l bytes
  driver : bytes < l.driver + 4 → Outside l bytes
  device : bytes < l.device + 4 → Outside l bytes

-- refusal 6, InvalidLayout, at opening over so many lent bytes
abbrev pub InvalidLayout : Layout → ℕ → Type 0
InvalidLayout l bytes = Broken l ⊎ Outside l bytes
