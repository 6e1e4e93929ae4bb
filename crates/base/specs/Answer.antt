-- What a call answers, in document 01's terms: "a definition gives, for each of its cases, this paper's number and values".
use Rattle.std.specs.Prelude.{ℕ, List, [], Bool, cond, eqb, Result, Ok, Err, ⊤}
use Rattle.base.specs.declared.RingError.{RingError}
use Rattle.base.specs.Refusals.{number_of}

-- number 0 is success, 1 to 9 are the refusals; the values are those that a caller reads off the answer
pub record Answer : Type 0 where
  pub number : ℕ
  pub values : List ℕ

-- success, with its values
abbrev pub done : List ℕ → Answer
done vs = record { number = 0; values = vs }

-- a refusal has its number and no values
abbrev pub refused : ℕ → Answer
refused n = record { number = n; values = [] }

-- an answer with these values, where it is a success; a refusal stays as it is
abbrev pub valued : List ℕ → Answer → Answer
valued vs a = cond (eqb a.number 0) (done vs) a

-- a yes or no as a value: 1 or 0
abbrev pub bit : Bool → ℕ
bit b = cond b 1 0

-- the answer of a call: a success with the values that `f` reads off what it hands back, or the refusal's number alone
abbrev pub answer_by : {A : Type 0} → (A → List ℕ) → Result A RingError → Answer
answer_by f (Ok x) = done (f x)
answer_by f (Err e) = refused (number_of e)

-- the answer of a call that has nothing to hand back
abbrev pub answer_of : Result ⊤ RingError → Answer
answer_of r = answer_by (λ u. []) r

-- the number of what is refused, and 0 where nothing is
abbrev pub refusal : Result ⊤ RingError → ℕ
refusal (Ok u) = 0
refusal (Err e) = number_of e

-- what a call leaves that was lent bytes: its answer and the bytes at exit
pub record Outcome : Type 0 where
  pub answer : Answer
  pub bytes : List ℕ

abbrev pub outcome : Answer → List ℕ → Outcome
outcome a l = record { answer = a; bytes = l }
