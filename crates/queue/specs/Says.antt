-- An event, read off what a call asked for, its answer and its outputs at exit: for any ring whose answers are those of `base`.
use Rattle.std.specs.Prelude.{ℕ, zero, suc, List, [], ◌∷◌, cond, eqb, get_or}
use Rattle.base.specs.Answer.{Answer}
use Rattle.queue.specs.History.{Kind, Request, Event}
use Rattle.queue.specs.History.{submit, reclaim, next_id, poll, complete, peek, checkpoint, rollback, other, foreign}
use Rattle.queue.specs.History.{nexted, peeked, quiet, refused, foreign_answered}
use Rattle.queue.specs.History.{submitted, polled, completed, reclaimed, marked, rolled, unchanged}

-- the answer's value number i (a function's answer has its values by its type; one that is lacking would be read as 0)
abbrev pub value : ℕ → Answer → ℕ
value i a = get_or a.values i 0

-- the first n of a list, and 0 for each that it lacks: a poll that claims more elements than its outputs have does not hide it
abbrev pub first_of : ℕ → List ℕ → List ℕ
first_of zero l = []
first_of (suc n) [] = 0 ∷ first_of n []
first_of (suc n) (x ∷ l) = x ∷ first_of n l

-- how a checkpoint is read off an answer's values is the ring's own
module _ {C : Type 0} (checkpoint_in : List ℕ → C) where
  -- an accepted call: a submission's ID; a completion's ID and length; a poll's ID, how many elements it has and how many are readable, and the
  -- elements, which are the first of the outputs
  abbrev pub accepted : Kind C → Answer → List ℕ → List ℕ → Event C
  accepted (submit c) a addrs lens = submitted (record { id = value 0 a; chain = c })
  accepted reclaim a addrs lens = reclaimed (record { id = value 0 a; len = value 1 a })
  accepted next_id a addrs lens = unchanged (nexted (value 0 a))
  accepted poll a addrs lens =
      polled (record {
        id = value 0 a;
        chain = record { addrs = first_of (value 1 a) addrs; lens = first_of (value 1 a) lens; readable = value 2 a };
      })
  accepted (complete d) a addrs lens = completed d
  accepted peek a addrs lens = unchanged (peeked (eqb (value 0 a) 1))
  accepted checkpoint a addrs lens = marked (checkpoint_in a.values)
  accepted (rollback c js) a addrs lens = rolled c js
  accepted other a addrs lens = unchanged quiet
  accepted foreign a addrs lens = unchanged (foreign_answered 0)

  -- number 0 is success
  abbrev pub says : Request C → Answer → List ℕ → List ℕ → Event C
  says r a addrs lens =
      cond (eqb a.number 0) (accepted r.kind a addrs lens) (unchanged (refused r.kind r.valid a.number))
