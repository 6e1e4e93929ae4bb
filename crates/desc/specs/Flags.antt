-- The flags of a descriptor (document 01, "Slots, flags and cursors"; VIRTIO 1.1, 2.7.1 on AVAIL and USED, 2.7.3 on WRITE,
-- 2.7.5 on NEXT).
use Rattle.std.specs.Prelude.{ℕ, ◌+◌, ◌*◌, ◌/◌, ◌%◌, Bool, not, ◌&&◌, eqb}
use Rattle.std.specs.Bool.{beq}

-- "NEXT 1, WRITE 2, INDIRECT 4, AVAIL 128, USED 32768"
abbrev pub NEXT : ℕ
NEXT = 1

abbrev pub WRITE : ℕ
WRITE = 2

abbrev pub INDIRECT : ℕ
INDIRECT = 4

abbrev pub AVAIL : ℕ
AVAIL = 128

abbrev pub USED : ℕ
USED = 32768

-- the flag of that number, a power of two, is set
abbrev pub has : ℕ → ℕ → Bool
has f m = eqb (f / m % 2) 1

-- "Others are ignored when read": the five flags alone
abbrev pub known : ℕ → ℕ
known f = f % 8 + f / AVAIL % 2 * AVAIL + f / USED * USED

-- what marking keeps, every bit but AVAIL and USED: the seven below AVAIL, and the seven between the two
abbrev pub others : ℕ → ℕ
others f = f % 128 + f / 256 % 128 * 256

-- "Available in round w: AVAIL equals w and USED differs from w."
unfoldable pub is_avail : ℕ → Bool → Bool
is_avail f w = beq (has f AVAIL) w && not (beq (has f USED) w)

-- "Used in round w: both equal w."
unfoldable pub is_used : ℕ → Bool → Bool
is_used f w = beq (has f AVAIL) w && beq (has f USED) w
