-- The packed virtqueue as VIRTIO 1.1 has it, in the document's own order of fields, sections named. Nothing here knows the
-- ring's definitions; the theorems of this crate say that the ring's definitions agree with these.
use Rattle.std.specs.Prelude.{ℕ, zero, suc, ◌+◌, ◌*◌, ◌/◌, ◌%◌, ◌^◌, ◌<◌, ◌≡◌, List, [], ◌∷◌, ◌++◌, Bool, not, cond, eqb}

-- 1.4: fields are little-endian. Byte k of a number has the weight 256 to the k
unfoldable pub little_endian : ℕ → ℕ → ℕ → List ℕ
little_endian k zero n = []
little_endian k (suc w) n = n / 256 ^ k % 256 ∷ little_endian (suc k) w n

-- a field of w bytes
pub record Field : Type 0 where
  pub width : ℕ
  pub value : ℕ

abbrev pub le16 : ℕ → Field
le16 n = record { width = 2; value = n }

abbrev pub le32 : ℕ → Field
le32 n = record { width = 4; value = n }

abbrev pub le64 : ℕ → Field
le64 n = record { width = 8; value = n }

-- a structure's bytes: its fields one after the other
unfoldable pub image : List Field → List ℕ
image [] = []
image (f ∷ fs) = little_endian 0 f.width f.value ++ image fs

-- 2.7.13, the descriptor: 64-bit address, 32-bit length, 16-bit buffer ID, 16-bit flags
abbrev pub pvirtq_desc : ℕ → ℕ → ℕ → ℕ → List Field
pvirtq_desc addr len id flags = le64 addr ∷ le32 len ∷ le16 id ∷ le16 flags ∷ []

-- 2.7.14, the event suppression structure: 15 bits of offset and the wrap counter above them; 2 bits of flags and 14
-- reserved ones above them
abbrev pub pvirtq_event_suppress : ℕ → Bool → ℕ → ℕ → List Field
pvirtq_event_suppress off wrap flags reserved =
    le16 (off + 2 ^ 15 * cond wrap 1 0) ∷ le16 (flags + 2 ^ 2 * reserved) ∷ []

-- 2.7.14, how wide its bit fields are
pub record EventRanged (off flags reserved : ℕ) : Type 0 where
  pub fifteen : off < 2 ^ 15
  pub two : flags < 2 ^ 2
  pub fourteen : reserved < 2 ^ 14

-- 2.7.10, the flags of an event area: enable, disable, for one descriptor; 3 is reserved
abbrev pub RING_EVENT_FLAGS_ENABLE : ℕ
RING_EVENT_FLAGS_ENABLE = 0

abbrev pub RING_EVENT_FLAGS_DISABLE : ℕ
RING_EVENT_FLAGS_DISABLE = 1

abbrev pub RING_EVENT_FLAGS_DESC : ℕ
RING_EVENT_FLAGS_DESC = 2

-- bit k of a flags word
abbrev pub bit_at : ℕ → ℕ → Bool
bit_at k flags = eqb (flags / 2 ^ k % 2) 1

-- the flags' bits: NEXT (2.7.6), WRITE (2.7.3), INDIRECT (2.7.7), AVAIL and USED (2.7.1)
abbrev pub NEXT_BIT : ℕ
NEXT_BIT = 0

abbrev pub WRITE_BIT : ℕ
WRITE_BIT = 1

abbrev pub INDIRECT_BIT : ℕ
INDIRECT_BIT = 2

abbrev pub AVAIL_BIT : ℕ
AVAIL_BIT = 7

abbrev pub USED_BIT : ℕ
USED_BIT = 15

-- 2.7: every other bit is reserved, written 0 and ignored when read
pub record Reserved (k : ℕ) : Type 0 where
  pub next : k ≡ NEXT_BIT → ⊥
  pub write : k ≡ WRITE_BIT → ⊥
  pub indirect : k ≡ INDIRECT_BIT → ⊥
  pub avail : k ≡ AVAIL_BIT → ⊥
  pub used : k ≡ USED_BIT → ⊥

-- 2.7.1: available in the driver's round w, AVAIL equals w and USED is the inverse of w
pub record Available (flags : ℕ) (w : Bool) : Type 0 where
  pub avail : bit_at AVAIL_BIT flags ≡ w
  pub used : bit_at USED_BIT flags ≡ not w

-- 2.7.1: used in the device's round w, USED and AVAIL both equal w
pub record Used (flags : ℕ) (w : Bool) : Type 0 where
  pub avail : bit_at AVAIL_BIT flags ≡ w
  pub used : bit_at USED_BIT flags ≡ w

-- 2.7.1: marking a descriptor is no matter of its other flags: two flags words that differ in AVAIL and USED at most
abbrev pub SameOthers : ℕ → ℕ → Type 0
SameOthers f g = (k : ℕ) → (k ≡ AVAIL_BIT → ⊥) → (k ≡ USED_BIT → ⊥) → bit_at k f ≡ bit_at k g
