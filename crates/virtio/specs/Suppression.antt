-- Who writes an event suppression structure and who reads it (VIRTIO 1.1, 2.7.10): there are two areas, one that the driver
-- writes and the device reads, and one the other way round. Nothing here knows the ring's definitions.
use Rattle.std.specs.Prelude.{ℕ, ◌+◌, ◌≤◌, ◌<◌, ◌≡◌, ◌⊎◌, List, length, get_or}

-- an area is the four bytes from a place on (2.7.14): these bytes became those with no other byte changed
pub record WritesOnly (area : ℕ) (before after : List ℕ) : Type 0 where
  pub same_length : length after ≡ length before
  pub elsewhere : (k : ℕ) → (k < area) ⊎ (area + 4 ≤ k) → get_or after k 0 ≡ get_or before k 0

-- what is answered over some bytes is answered over any others, as many, that are the same in the area
abbrev pub ReadsOnly : {A : Type 0} → ℕ → (List ℕ → A) → Type 0
ReadsOnly area answer =
    (l m : List ℕ) → length l ≡ length m → ((k : ℕ) → k < 4 → get_or l (area + k) 0 ≡ get_or m (area + k) 0) → answer l ≡ answer m

-- 2.7.10, of one end: how it asks to be notified it writes into its own area alone, whatever it asks for; whether it notifies the
-- other it reads off the other's alone, whatever it did
pub record Suppression {N D A : Type 0} (own other : ℕ) (asks : N → List ℕ → List ℕ) (notifies : D → List ℕ → A) : Type 0 where
  pub writes : (n : N) (bytes : List ℕ) → WritesOnly own bytes (asks n bytes)
  pub reads : (d : D) → ReadsOnly other (notifies d)
