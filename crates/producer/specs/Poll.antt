-- A completion polled, and the next ID (document 01, "What each end does", Producer).
use Rattle.std.specs.Prelude.{ℕ, ◌+◌, List, [], ◌∷◌, not, cond, ◌||◌, ltb, leb, eqb, length, get_or, set, Result}
use Rattle.base.specs.declared.RingError.{RingError}
use Rattle.base.specs.Answer.{Answer, done, refused, answer_by}
use Rattle.cursor.specs.Cursor.{steps}
use Rattle.desc.specs.declared.Descriptor.{Descriptor}
use Rattle.desc.specs.Flags.{is_used}
use Rattle.ring.specs.Slots.{slot_of}
use Rattle.producer.specs.declared.RingProducer.{RingProducer}
use Rattle.producer.specs.declared.UsedBuffer.{UsedBuffer}
use Rattle.producer.specs.Record.{bad_record, bad_lent}
use Rattle.producer.specs.Outcome.{Outcome, outcome}
use Rattle.producer.specs.Submit.{top_of, top_refusal}

-- "7, 8, then 3, .. then 5 for polls": 3 where the looked-at slot is not used; 5 where its ID is not below the size, has count 0,
-- or in-flight would fall below 0, or the free stack would pass the size
unfoldable pub poll_refusal : RingProducer → ℕ → Descriptor → ℕ → List ℕ → ℕ
poll_refusal p bytes d ids counts =
    cond (bad_record p) 7
    (cond (bad_lent p bytes ids (length counts)) 8
    (cond (not (is_used d.flags p.used.wrap)) 3
    (cond (leb p.layout.size d.id
    || (eqb (get_or counts d.id 0) 0
    || (ltb p.layout.size (p.free + get_or counts d.id 0) || leb p.layout.size p.height))) 5 0)))

-- the record behind it: "frees that ID's recorded count and moves by it", and the ID is on the stack again
unfoldable pub freed_of : RingProducer → ℕ → RingProducer
freed_of p n =
    record {
      layout = p.layout;
      avail = p.avail;
      used = steps p.layout.size n p.used;
      free = p.free + n;
      height = p.height + 1;
      shadow = p.shadow;
    }

-- a completion that is found: its ID and length. The length is taken whether WRITE is set or not, as in the Rust; VIRTIO 1.1, 2.7.4
-- gives it a meaning with WRITE alone (docs/DIFFERENCES.md)
unfoldable pub polled_of : RingProducer → Descriptor → List ℕ → List ℕ → List ℕ → Outcome
polled_of p d ring ids counts =
    outcome (done (d.id ∷ d.len ∷ [])) (freed_of p (get_or counts d.id 0)) ring (set ids p.height d.id) (set counts d.id 0)

-- "poll_used looks at the used cursor, takes the ID found there": refused, and nothing changed, or the completion taken
unfoldable pub poll_of : RingProducer → List ℕ → List ℕ → List ℕ → Outcome
poll_of p ring ids counts =
    let d = slot_of p.layout.table p.used ring in
    let no = poll_refusal p (length ring) d (length ids) counts in
    cond (eqb no 0) (polled_of p d ring ids counts) (outcome (refused no) p ring ids counts)

-- the answer's cases, in the paper's number and values
abbrev pub polled_answer : Result UsedBuffer RingError → Answer
polled_answer r = answer_by (λ u. u.id ∷ u.len ∷ []) r

-- "7, 8, then 4, 5 for next_id"
unfoldable pub next_refusal : RingProducer → List ℕ → List ℕ → ℕ
next_refusal p ids counts =
    cond (bad_record p) 7
    (cond (ltb (length ids) p.layout.size || ltb (length counts) p.layout.size) 8 (top_refusal p ids counts))

-- next_id: the ID on top of the stack, which the next submission gets
unfoldable pub next_of : RingProducer → List ℕ → List ℕ → Answer
next_of p ids counts =
    let no = next_refusal p ids counts in
    cond (eqb no 0) (done (top_of p ids ∷ [])) (refused no)

-- the answer's cases, in the paper's number and values
abbrev pub next_answer : Result ℕ RingError → Answer
next_answer r = answer_by (λ id. id ∷ []) r
