-- A cursor of the ring (document 01, "Slots, flags and cursors"; VIRTIO 1.1, 2.7.1).
use Rattle.std.specs.Prelude.{ℕ, zero, suc, ◌+◌, List, [], ◌∷◌, Bool, true, not, cond, ◌||◌, ltb, leb, eqb, Result, ⊤}
use Rattle.base.specs.declared.RingError.{RingError}
use Rattle.base.specs.Answer.{Answer, done, refused, bit, answer_by}
use Rattle.cursor.specs.declared.RingCursor.{RingCursor}

-- "A cursor is (head, wrap)"
abbrev pub at : ℕ → Bool → RingCursor
at h w = record { head = h; wrap = w }

-- "fresh at (0, true)"
abbrev pub fresh : RingCursor
fresh = at 0 true

-- "One step past the last slot returns to 0 and flips wrap."
unfoldable pub step : ℕ → RingCursor → RingCursor
step size c = cond (ltb (c.head + 1) size) (at (c.head + 1) c.wrap) (at 0 (not c.wrap))

-- "Moving by n, at most the ring size, equals n single steps."
unfoldable pub steps : ℕ → ℕ → RingCursor → RingCursor
steps size zero c = c
steps size (suc n) c = steps size n (step size c)

-- refusal 7: "a cursor move called alone by more than the size, or with a size outside 6's range" (1 to 32,768);
-- "a head not below the size"
unfoldable pub bad_move : ℕ → ℕ → RingCursor → Bool
bad_move size n c = eqb size 0 || (ltb 32768 size || (leb size c.head || ltb size n))

-- what a move leaves: its answer, and the cursor
pub record Outcome : Type 0 where
  pub answer : Answer
  pub cursor : RingCursor

abbrev pub outcome : Answer → RingCursor → Outcome
outcome a c = record { answer = a; cursor = c }

-- a cursor's values: head, wrap
abbrev pub values_of : RingCursor → List ℕ
values_of c = c.head ∷ bit c.wrap ∷ []

-- a move called alone: "every refusal hands back its number and the record unchanged"
unfoldable pub advance_of : ℕ → ℕ → RingCursor → Outcome
advance_of size n c =
    cond (bad_move size n c)
    (outcome (refused 7) c)
    (outcome (done (values_of (steps size n c))) (steps size n c))

-- what a move hands back, the cursor that is left and whether it was refused, in the paper's number and values
abbrev pub answer_of : RingCursor × Result ⊤ RingError → Answer
answer_of r = answer_by (λ u. values_of r.0) r.1
