-- A completion (document 01, "What each end does", Consumer, and Notify).
use Rattle.std.specs.Prelude.{ℕ, ◌-◌, List, [], ◌∷◌, Bool, cond, ◌||◌, ltb, leb, eqb, length, get_or, set, Result}
use Rattle.base.specs.declared.RingError.{RingError}
use Rattle.base.specs.Answer.{Answer, done, refused, valued, bit, answer_by}
use Rattle.cursor.specs.declared.RingCursor.{RingCursor}
use Rattle.cursor.specs.Cursor.{steps}
use Rattle.desc.specs.Desc.{descriptor, mark_used}
use Rattle.ring.specs.Slots.{slot_put}
use Rattle.ring.specs.Events.{told}
use Rattle.consumer.specs.declared.RingConsumer.{RingConsumer}
use Rattle.consumer.specs.Record.{bad_record, bad_lent}
use Rattle.consumer.specs.Outcome.{Outcome, outcome}

-- "7, 8, then 5 for completions": 5 where the ID is not below the size or has count 0, or in-flight would fall below 0
unfoldable pub complete_refusal : RingConsumer → ℕ → ℕ → List ℕ → ℕ
complete_refusal p bytes id counts =
    cond (bad_record p) 7
    (cond (bad_lent p bytes (length counts)) 8
    (cond (leb p.layout.size id || (eqb (get_or counts id 0) 0 || ltb p.inflight (get_or counts id 0))) 5 0))

-- "writes address 0, the length and the ID at the used cursor", marked used in the cursor's round. WRITE is never set, as in the
-- Rust; VIRTIO 1.1, 2.7.3 sets it where data was written (docs/DIFFERENCES.md)
abbrev pub used_put : RingConsumer → ℕ → ℕ → List ℕ → List ℕ
used_put p id len ring = slot_put p.layout.table p.used (mark_used (descriptor 0 len id 0) p.used.wrap) ring

-- the record behind it: "moves by the chain's length"
unfoldable pub completed_of : RingConsumer → ℕ → RingConsumer
completed_of p n =
    record {
      layout = p.layout;
      avail = p.avail;
      used = steps p.layout.size n p.used;
      inflight = p.inflight - n;
      shadow = p.shadow;
    }

-- submit_used: refused, and nothing changed, or one used slot for the chain, which is held no more
unfoldable pub complete_of : RingConsumer → List ℕ → List ℕ → ℕ → ℕ → Outcome
complete_of p ring counts id len =
    let no = complete_refusal p (length ring) id counts in
    cond (eqb no 0)
    (outcome (done []) (completed_of p (get_or counts id 0)) (used_put p id len ring) (set counts id 0))
    (outcome (refused no) p ring counts)

-- submit_used_with_notify, of what submit_used left: success has one value, what the driver's event area, in the bytes that the
-- completion left, asks of the move from the used cursor before it to the one behind it
unfoldable pub tell_of : RingCursor → Outcome → Outcome
tell_of old o =
    let yes = told o.end.layout.driver o.end.layout.size old o.end.used o.ring in
    outcome (valued (bit yes ∷ []) o.answer) o.end o.ring o.counts

-- the answer, in the paper's number and values
abbrev pub told_answer : Result Bool RingError → Answer
told_answer r = answer_by (λ b. bit b ∷ []) r
