-- A submission (document 01, "What each end does", Producer).
use Rattle.std.specs.Prelude.{ℕ, zero, suc, ◌+◌, ◌-◌, List, [], ◌∷◌, not, cond, ◌||◌, ltb, leb, eqb, length, get_or, set, Result}
use Rattle.base.specs.declared.RingError.{RingError}
use Rattle.base.specs.Answer.{Answer, done, refused, answer_by}
use Rattle.cursor.specs.declared.RingCursor.{RingCursor}
use Rattle.cursor.specs.Cursor.{step}
use Rattle.desc.specs.declared.Descriptor.{Descriptor}
use Rattle.desc.specs.Flags.{NEXT, WRITE}
use Rattle.desc.specs.Desc.{descriptor, mark_avail}
use Rattle.layout.specs.declared.Layout.{Layout}
use Rattle.chain.specs.Chain.{bad_slices}
use Rattle.ring.specs.Slots.{slot_put}
use Rattle.producer.specs.declared.RingProducer.{RingProducer}
use Rattle.producer.specs.Record.{bad_record, bad_lent}
use Rattle.producer.specs.Outcome.{Outcome, outcome}

-- "Free IDs form a stack": the one on top
abbrev pub top_of : RingProducer → List ℕ → ℕ
top_of p ids = get_or ids (p.height - 1) 0

-- 4 and 5 of submits and of next_id: no free ID, or one on top that is none of the ring's or has a count already
abbrev pub top_refusal : RingProducer → List ℕ → List ℕ → ℕ
top_refusal p ids counts =
    cond (eqb p.height 0) 4
    (cond (leb p.layout.size (top_of p ids) || not (eqb (get_or counts (top_of p ids) 0) 0)) 5 0)

-- "7, 8, then 1, 3, 4, 5 for submits", and 0 where none of them is given
unfoldable pub submit_refusal : RingProducer → ℕ → List ℕ → List ℕ → ℕ → ℕ → ℕ → ℕ
submit_refusal p bytes ids counts n lens readable =
    cond (bad_record p) 7
    (cond (bad_lent p bytes (length ids) (length counts) || bad_slices n lens readable) 8
    (cond (eqb n 0) 1
    (cond (ltb p.free n) 3 (top_refusal p ids counts))))

-- element i: "the same ID everywhere, NEXT on all but the last"; WRITE behind the readable ones
unfoldable pub element_of : ℕ → List ℕ → List ℕ → ℕ → ℕ → Descriptor
element_of id addrs lens readable i =
    descriptor (get_or addrs i 0) (get_or lens i 0) id
    (cond (ltb (i + 1) (length addrs)) NEXT 0 + cond (ltb i readable) 0 WRITE)

-- a descriptor in the cursor's slot, made available in the cursor's round
abbrev pub put_avail : Layout → RingCursor → Descriptor → List ℕ → List ℕ
put_avail l c d ring = slot_put l.table c (mark_avail d c.wrap) ring

-- the cursor past what was written, and the bytes
pub record Written : Type 0 where
  pub past : RingCursor
  pub bytes : List ℕ

abbrev pub written : RingCursor → List ℕ → Written
written c l = record { past = c; bytes = l }

-- k elements from element i on, at consecutive slots
unfoldable pub put_tails : Layout → (ℕ → Descriptor) → ℕ → ℕ → RingCursor → List ℕ → Written
put_tails l f zero i c ring = written c ring
put_tails l f (suc k) i c ring = put_tails l f k (suc i) (step l.size c) (put_avail l c (f i) ring)

-- "writes the tails and then the head"
unfoldable pub put_chain : Layout → (ℕ → Descriptor) → ℕ → RingCursor → List ℕ → Written
put_chain l f n c ring =
    let w = put_tails l f (n - 1) 1 (step l.size c) ring in
    written w.past (put_avail l c (f 0) w.bytes)

-- the record behind it: "A submission takes n free slots", and the ID off the stack
unfoldable pub taken_of : RingProducer → RingCursor → ℕ → RingProducer
taken_of p past n =
    record {
      layout = p.layout;
      avail = past;
      used = p.used;
      free = p.free - n;
      height = p.height - 1;
      shadow = p.shadow;
    }

-- a submission that is not refused: the ID, the record, the chain's bytes, and its length recorded
unfoldable pub submitted_of : RingProducer → List ℕ → List ℕ → ℕ → ℕ → Written → Outcome
submitted_of p ids counts n id w =
    outcome (done (id ∷ [])) (taken_of p w.past n) w.bytes ids (set counts id n)

-- a submission: refused, and nothing changed, or the chain written at the avail cursor under the ID on top of the stack
unfoldable pub submit_of : RingProducer → List ℕ → List ℕ → List ℕ → List ℕ → List ℕ → ℕ → Outcome
submit_of p ring ids counts addrs lens readable =
    let no = submit_refusal p (length ring) ids counts (length addrs) (length lens) readable in
    cond (eqb no 0)
    (submitted_of p ids counts (length addrs) (top_of p ids)
    (put_chain p.layout (element_of (top_of p ids) addrs lens readable) (length addrs) p.avail ring))
    (outcome (refused no) p ring ids counts)

-- the answer's cases, in the paper's number and values
abbrev pub submitted_answer : Result ℕ RingError → Answer
submitted_answer r = answer_by (λ id. id ∷ []) r
