-- A list of IDs, and the table of each ID's chain length (document 01, "Rollback is refused with 9 exactly if ..").
use Rattle.std.specs.Prelude.{ℕ, ◌+◌, ◌-◌, ◌%◌, Bool, false, cond, ◌||◌, List, [], ◌∷◌, length, ◌==◌, nat_le, nat_lt, slice_index, slice_set, Result}
use Rattle.base.specs.declared.RingError.{RingError}
use Rattle.base.specs.Answer.{Answer, done, refused, answer_by}

-- an ID is named in a list
unfoldable pub named : ℕ → List ℕ → Bool
named id [] = false
named id (first ∷ ids) = id == first || named id ids

-- "an ID is not below the size, has count 0 or is named twice"
unfoldable pub bad_ids : ℕ → List ℕ → List ℕ → Bool
bad_ids size counts [] = false
bad_ids size counts (id ∷ ids) =
    nat_le size id || (slice_index counts id == 0 || (named id ids || bad_ids size counts ids))

-- "the sum of counts"
unfoldable pub total_of : List ℕ → List ℕ → ℕ
total_of counts [] = 0
total_of counts (id ∷ ids) = slice_index counts id + total_of counts ids

-- the sum, with bounds of this helper's own (01's rule is the consumer's `rollback_refusal`): 7 where the size is above 32,768 or
-- `most` above the size, 8 where the table is "shorter than the size", 9 where an ID is bad or the sum is above `most`; else the sum
unfoldable pub sum_of : ℕ → ℕ → List ℕ → List ℕ → Answer
sum_of size most counts ids =
    cond (nat_lt 32768 size || nat_lt size most) (refused 7)
    (cond (nat_lt (length counts) size) (refused 8)
    (cond (bad_ids size counts ids || nat_lt most (total_of counts ids)) (refused 9)
    (done (total_of counts ids ∷ []))))

-- the answer, in the paper's number and values
abbrev pub answer_of : Result ℕ RingError → Answer
answer_of r = answer_by (λ n. n ∷ []) r

-- what a call leaves that was lent the table: its answer and the table at exit
pub record Outcome : Type 0 where
  pub answer : Answer
  pub counts : List ℕ

abbrev pub outcome : Answer → List ℕ → Outcome
outcome a t = record { answer = a; counts = t }

-- what an accepted rollback leaves of the table: count 0 for each ID of the list
unfoldable pub cleared_of : List ℕ → List ℕ → List ℕ
cleared_of counts [] = counts
cleared_of counts (id ∷ ids) = cleared_of (slice_set counts id 0) ids

-- the marks of a sum's first pass, which nobody sees: the entry v becomes 65,536 - v, and 0 stays 0
abbrev pub mark : ℕ → ℕ
mark v = (65536 - v) % 65536

abbrev pub flip : List ℕ → ℕ → List ℕ
flip t id = slice_set t id (mark (slice_index t id))

unfoldable pub flipped : List ℕ → List ℕ → List ℕ
flipped t [] = t
flipped t (id ∷ ids) = flipped (flip t id) ids
