-- A call's answer as a line has it (docs/TRACE.md, "Output": "for each record `op status values... HASH`").
use Rattle.std.specs.Prelude.{ℕ, List, [], ◌∷◌, min, length, get_or, take, replicate, Result, Ok, Err}
use Rattle.std.proofs.lemmas.List.Edits.{sets}
use Rattle.base.specs.declared.RingError.{RingError}
use Rattle.base.specs.Answer as calls
use Rattle.lines.specs.declared.answer.Values.{Values}

abbrev pub Answer : Type 0
Answer = Result Values RingError

-- up to five values, with zeros where there are fewer
abbrev pub held : List ℕ → Values
held vs = record { list = sets (replicate 5 0) 0 (take 5 vs); count = min (length vs) 5 }

abbrev pub first_of : Values → ℕ
first_of v = get_or v.list 0 0

-- a call's answer: a success with the values that `f` reads off what it hands back, or the refusal
abbrev pub line_by : {A : Type 0} → (A → List ℕ) → Result A RingError → Answer
line_by f (Ok x) = Ok (held (f x))
line_by f (Err e) = Err e

-- "Status 0 is success; 1 to 9 are document 01's refusals, with no values": the status is the answer's number in document 01's
-- terms, and the values are its values
abbrev pub call_of : Answer → calls.Answer
call_of a = calls.answer_by (λ v. take v.count v.list) a

abbrev pub status_of : Answer → ℕ
status_of a = (call_of a).number

abbrev pub values_of : Answer → List ℕ
values_of a = (call_of a).values

-- ops 7 and 37, "the four": four answers of one value as one, or the first refusal among them
unfoldable pub four_of : Answer → Answer → Answer → Answer → Answer
four_of (Err e) x y z = Err e
four_of (Ok w) (Err e) y z = Err e
four_of (Ok w) (Ok x) (Err e) z = Err e
four_of (Ok w) (Ok x) (Ok y) (Err e) = Err e
four_of (Ok w) (Ok x) (Ok y) (Ok z) = Ok (held (first_of w ∷ first_of x ∷ first_of y ∷ first_of z ∷ []))
