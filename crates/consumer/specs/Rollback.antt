-- Checkpoints and rollbacks (document 01, "When the ring says no", Rollback).
use Rattle.std.specs.Prelude.{ℕ, ◌+◌, List, [], ◌∷◌, Bool, not, cond, ◌||◌, ◌&&◌, ltb, leb, eqb, length, Result}
use Rattle.std.specs.Bool.{beq}
use Rattle.base.specs.declared.RingError.{RingError}
use Rattle.base.specs.Answer.{Answer, done, refused, bit, answer_by}
use Rattle.cursor.specs.declared.RingCursor.{RingCursor}
use Rattle.cursor.specs.Cursor.{steps}
use Rattle.undo.specs.Undo.{bad_ids, total_of, cleared_of}
use Rattle.consumer.specs.declared.RingConsumer.{RingConsumer}
use Rattle.consumer.specs.declared.Checkpoint.{Checkpoint}
use Rattle.consumer.specs.Record.{bad_record}
use Rattle.consumer.specs.Outcome.{Rolled, rolled}

-- what is needed to undo the polls from here on
abbrev pub checkpoint_of : RingConsumer → Checkpoint
checkpoint_of p = record { avail = p.avail; used = p.used; inflight = p.inflight }

-- a checkpoint's values
abbrev pub checkpoint_values : Checkpoint → List ℕ
checkpoint_values cp =
    cp.avail.head ∷ bit cp.avail.wrap ∷ cp.used.head ∷ bit cp.used.wrap ∷ cp.inflight ∷ []

-- the answer, in the paper's number and values
abbrev pub checkpoint_answer : Result Checkpoint RingError → Answer
checkpoint_answer r = answer_by checkpoint_values r

-- 7 also for "a head not below the size, also in an old cursor or checkpoint that is handed in"; 8 for counts shorter than the
-- size; then the rest
unfoldable pub handed_refusal : RingConsumer → Checkpoint → ℕ → ℕ → ℕ
handed_refusal p cp counts rest =
    cond (bad_record p || (leb p.layout.size cp.avail.head || leb p.layout.size cp.used.head)) 7
    (cond (ltb counts p.layout.size) 8 rest)

-- the same slot in the same round
abbrev pub same_of : RingCursor → RingCursor → Bool
same_of a b = eqb a.head b.head && beq a.wrap b.wrap

-- "the used cursor differs from the checkpoint's, .. in-flight is not the checkpoint's plus the sum of counts, or the avail cursor is
-- not the checkpoint's moved by that sum", of a sum n
unfoldable pub stale_of : RingConsumer → Checkpoint → ℕ → Bool
stale_of p cp n =
    not (same_of p.used cp.used)
    || (not (eqb p.inflight (cp.inflight + n))
    || not (same_of p.avail (steps p.layout.size n cp.avail)))

-- "7, 8, then 9 for rollback": 9 also where "an ID is not below the size, has count 0 or is named twice"
unfoldable pub rollback_refusal : RingConsumer → List ℕ → Checkpoint → List ℕ → ℕ
rollback_refusal p counts cp ids =
    handed_refusal p cp (length counts)
    (cond (bad_ids p.layout.size counts ids || stale_of p cp (total_of counts ids)) 9 0)

-- the record behind it: the avail cursor and the in-flight count as they were
unfoldable pub back_of : RingConsumer → Checkpoint → RingConsumer
back_of p cp =
    record {
      layout = p.layout;
      avail = cp.avail;
      used = p.used;
      inflight = cp.inflight;
      shadow = p.shadow;
    }

-- rollback_polls: refused, and nothing changed, or the chains that the list names are polled no more
unfoldable pub rollback_of : RingConsumer → List ℕ → Checkpoint → List ℕ → Rolled
rollback_of p counts cp ids =
    let no = rollback_refusal p counts cp ids in
    cond (eqb no 0) (rolled (done []) (back_of p cp) (cleared_of counts ids)) (rolled (refused no) p counts)
