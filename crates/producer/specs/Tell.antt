-- A submission that says whether to tell the device (document 01, Notify).
use Rattle.std.specs.Prelude.{[], ◌∷◌, get_or, Result}
use Rattle.base.specs.declared.RingError.{RingError}
use Rattle.base.specs.Answer.{Answer, valued, bit, answer_by}
use Rattle.cursor.specs.declared.RingCursor.{RingCursor}
use Rattle.ring.specs.Events.{told}
use Rattle.producer.specs.declared.SubmitResult.{SubmitResult}
use Rattle.producer.specs.Outcome.{Outcome, outcome}

-- the submits with notify, of what the submission left: success has one value more, what the device's event area, in the bytes
-- that the submission left, asks of the move from the avail cursor before it to the one behind it
unfoldable pub tell_of : RingCursor → Outcome → Outcome
tell_of old o =
    let yes = told o.end.layout.device o.end.layout.size old o.end.avail o.ring in
    outcome (valued (get_or o.answer.values 0 0 ∷ bit yes ∷ []) o.answer) o.end o.ring o.ids o.counts

-- the answer's cases, in the paper's number and values
abbrev pub told_answer : Result SubmitResult RingError → Answer
told_answer r = answer_by (λ s. s.id ∷ bit s.notify ∷ []) r
