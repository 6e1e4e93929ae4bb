-- What is asked of an end's record (document 01: "7, 8 for all else"; these calls are lent nothing, so there is no 8).
use Rattle.std.specs.Prelude.{ℕ, List, [], ◌∷◌, Bool, cond, Result}
use Rattle.base.specs.declared.RingError.{RingError}
use Rattle.base.specs.Answer.{Answer, done, refused, bit, answer_by}
use Rattle.cursor.specs.declared.RingCursor.{RingCursor}
use Rattle.cursor.specs.Cursor as cursors
use Rattle.desc.specs.declared.DescTable.{DescTable}

-- the values asked for, or 7 where the record is bad
unfoldable pub ask_of : Bool → List ℕ → Answer
ask_of bad vs = cond bad (refused 7) (done vs)

-- the answers' cases, in the paper's number and values: a number, a yes or no, a cursor or the table of slots
abbrev pub count_answer : Result ℕ RingError → Answer
count_answer r = answer_by (λ n. n ∷ []) r

abbrev pub bool_answer : Result Bool RingError → Answer
bool_answer r = answer_by (λ b. bit b ∷ []) r

abbrev pub cursor_answer : Result RingCursor RingError → Answer
cursor_answer r = answer_by cursors.values_of r

abbrev pub table_answer : Result DescTable RingError → Answer
table_answer r = answer_by (λ t. t.base_addr ∷ t.len ∷ []) r
