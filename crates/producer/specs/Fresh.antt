-- Opening and reset (document 01, "What each end does").
use Rattle.std.specs.Prelude.{ℕ, ◌*◌, List, [], ◌∷◌, cond, ◌||◌, ltb, eqb, length, replicate, Result}
use Rattle.base.specs.declared.RingError.{RingError}
use Rattle.base.specs.Answer.{Answer, done, refused, bit, answer_by}
use Rattle.std.proofs.lemmas.List.Edits.{sets}
use Rattle.base.specs.Bytes.{put_of}
use Rattle.cursor.specs.Cursor.{fresh}
use Rattle.event.specs.Event.{ENABLE, event, encode_of}
use Rattle.layout.specs.declared.Layout.{Layout}
use Rattle.layout.specs.Layout.{layout, bad_layout, outside}
use Rattle.ring.specs.Tables.{up_to}
use Rattle.producer.specs.declared.RingProducer.{RingProducer}
use Rattle.producer.specs.Record.{lent_refusal}
use Rattle.producer.specs.Outcome.{Outcome, outcome}

-- everything fresh: both cursors, all slots and all IDs free, the shadow at ENABLE, whatever the event area holds
unfoldable pub fresh_of : Layout → RingProducer
fresh_of l =
    record {
      layout = l;
      avail = fresh;
      used = fresh;
      free = l.size;
      height = l.size;
      shadow = ENABLE;
    }

-- a record's values
abbrev pub record_values : RingProducer → List ℕ
record_values p =
    p.layout.size ∷ p.layout.table ∷ p.layout.driver ∷ p.layout.device
    ∷ p.avail.head ∷ bit p.avail.wrap ∷ p.used.head ∷ bit p.used.wrap
    ∷ p.free ∷ p.height ∷ p.shadow ∷ []

-- what an opening leaves: its answer and both tables
pub record Open : Type 0 where
  pub answer : Answer
  pub ids : List ℕ
  pub counts : List ℕ

abbrev pub opened : Answer → List ℕ → List ℕ → Open
opened a s k = record { answer = a; ids = s; counts = k }

-- "Opening fills the first ring-size entries of the lent tables (counts 0, the producer's stack 0 upward) and leaves later entries
-- and every ring byte alone"; "6, then 8 (tables only) at opening, which on refusal gives the number alone"
unfoldable pub open_of : ℕ → ℕ → ℕ → ℕ → List ℕ → List ℕ → List ℕ → Open
open_of size table driver device ring ids counts =
    let l = layout size table driver device in
    cond (bad_layout l || outside l (length ring)) (opened (refused 6) ids counts)
    (cond (ltb (length ids) size || ltb (length counts) size) (opened (refused 8) ids counts)
    (opened (done (record_values (fresh_of l))) (sets ids 0 (up_to size)) (sets counts 0 (replicate size 0))))

-- the answer's cases, in the paper's number and values: a refused opening "gives the number alone"
abbrev pub opened_answer : Result RingProducer RingError → Answer
opened_answer r = answer_by record_values r

-- "reset zeroes the table and the driver event, then everything is fresh"
abbrev pub zeroed_of : Layout → List ℕ → List ℕ
zeroed_of l ring =
    (put_of (put_of ring l.table (replicate (16 * l.size) 0)).bytes l.driver (encode_of (event 0 ENABLE))).bytes

-- the producer's reset: refused, and nothing changed, or zeroed and everything fresh
unfoldable pub reset_of : RingProducer → List ℕ → List ℕ → List ℕ → Outcome
reset_of p ring ids counts =
    let no = lent_refusal p (length ring) (length ids) (length counts) in
    cond (eqb no 0)
    (outcome (done []) (fresh_of p.layout) (zeroed_of p.layout ring)
    (sets ids 0 (up_to p.layout.size)) (sets counts 0 (replicate p.layout.size 0)))
    (outcome (refused no) p ring ids counts)
