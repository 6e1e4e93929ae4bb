-- Unwrapped positions: position p is the cursor after p single steps from (0, false). So a fresh cursor, (0, true), stands at the position
-- `size`, and the zeroed slots before it are those of a round of their own.
-- Assumes nothing.
use Prim.Native.Nat.{ℕ, ◌+◌, ◌<◌}
use mathlib.Core.Path.{◌≡◌, ◌∙◌, ap}
use mathlib.Core.Bool.{Bool, false, not}
use mathlib.Core.List.{List}
use native.Mathlib.Omega.{arith}
use Rattle.cursor.specs.declared.RingCursor.{RingCursor}
use Rattle.cursor.specs.Cursor.{at, fresh, steps}
use Rattle.cursor.proofs.Laws.{steps_add, steps_below, steps_within, steps_round, heads_apart}
use Rattle.desc.specs.declared.Descriptor.{Descriptor}
use Rattle.ring.specs.Slots.{slot_of}
use Rattle.ring.proofs.Frames.{slot_by_head}

module _ (size : ℕ) where
  unfoldable pub pos : ℕ → RingCursor
  pos p = steps size p (at 0 false)

  abbrev pub round : ℕ → Bool
  round p = (pos p).wrap

  pub pos_add : (p n : ℕ) → pos (p + n) ≡ steps size n (pos p)
  unfolding pos
  pos_add p n = steps_add size p n (at 0 false)

  module _ (big : 0 < size) where
    pub pos_low : (p : ℕ) → (pos p).head < size
    unfolding pos
    pos_low p = steps_below size p (at 0 false) big

    around : (p : ℕ) → pos (p + size) ≡ at (pos p).head (not (pos p).wrap)
    around p = pos_add p size ∙ steps_round size (pos p) (pos_low p)

    pub head_around : (p : ℕ) → (pos (p + size)).head ≡ (pos p).head
    head_around p = ap (λ (c : RingCursor). c.head) (around p)

    pub round_around : (p : ℕ) → round (p + size) ≡ not (round p)
    round_around p = ap (λ (c : RingCursor). c.wrap) (around p)

    -- positions less than the size apart are of different slots
    pub apart : (p q : ℕ) → p < q → q < p + size → (pos p).head ≡ (pos q).head → ⊥
    unfolding pos
    apart p q l h e = heads_apart size p q (at 0 false) big l h e

    pub pos_start : pos size ≡ fresh
    unfolding pos
    pos_start = steps_round size (at 0 false) big

    pub round_early : (p : ℕ) → p < size → round p ≡ false
    unfolding pos
    round_early p h = ap (λ (c : RingCursor). c.wrap) (steps_within size p (at 0 false) (omega arith))

  -- the slot of a position
  module _ (table : ℕ) (ring : List ℕ) where
    abbrev pub view : ℕ → Descriptor
    view p = slot_of table (pos p) ring

    pub view_around : 0 < size → (p : ℕ) → view (p + size) ≡ view p
    view_around big p = slot_by_head table (pos (p + size)) (pos p) ring (head_around big p)
