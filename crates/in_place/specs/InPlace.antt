-- A cursor moved in place (document 01, "What must change shape": "After the core, a cursor is also moved in place, as the
-- Rust's `advance(&mut self)` does"). What a move does is said by `cursor`'s own definition, `advance_of`, refusal 7 too.
use Rattle.std.specs.Prelude.{Result, ⊤}
use Rattle.base.specs.declared.RingError.{RingError}
use Rattle.base.specs.Answer.{Answer}
use Rattle.cursor.specs.declared.RingCursor.{RingCursor}
use Rattle.cursor.specs.Cursor.{Outcome, outcome, answer_of}

-- "a definition gives, for each of its cases, this paper's number and values": the answer that a result tells beside the cursor
-- that is left. A success has the cursor's values
abbrev pub told_by : Result ⊤ RingError → RingCursor → Answer
told_by r c = answer_of (c, r)

-- what a move leaves: the answer that its result tells, and the cursor
abbrev pub outcome_of : Result ⊤ RingError → RingCursor → Outcome
outcome_of r c = outcome (told_by r c) c
