-- Each answer of the producer, with the record that it hands back, is told by its number and values.
-- Assumes nothing.
use Prim.Native.Nat.{ℕ}
use mathlib.Core.Path.{◌≡◌, refl, ap}
use mathlib.Core.List.{List, [], ◌∷◌}
use lib.ListN.{get_or}
use Rattle.std.specs.Prelude.{Result, ⊤}
use Rattle.base.specs.declared.RingError.{RingError}
use Rattle.base.specs.Answer.{Answer, bit, answer_by, answer_of}
use Rattle.base.proofs.Refusals.{bit_same, result_same}
use Rattle.cursor.specs.Cursor.{at}
use Rattle.layout.specs.Layout.{layout}
use Rattle.producer.specs.declared.RingProducer.{RingProducer}
use Rattle.producer.specs.declared.SubmitResult.{SubmitResult}
use Rattle.producer.specs.declared.UsedBuffer.{UsedBuffer}
use Rattle.producer.specs.Outcome.{Outcome, outcome, Changed, changed}
use Rattle.producer.specs.Submit.{submitted_answer}
use Rattle.producer.specs.Tell.{told_answer}
use Rattle.producer.specs.Poll.{polled_answer, next_answer}
use Rattle.producer.specs.Fresh.{Open, record_values, opened, opened_answer}

-- ---- what is handed back is told by its values

abbrev pub entry : ℕ → List ℕ → ℕ
entry i l = get_or l i 0

pub id_known : (m n : ℕ) → m ∷ [] ≡ n ∷ [] → m ≡ n
id_known m n e = ap (entry 0) e

pub result_known : (a b : SubmitResult) → a.id ∷ bit a.notify ∷ [] ≡ b.id ∷ bit b.notify ∷ [] → a ≡ b
result_known a b e = λ i. record { id = entry 0 (e i); notify = bit_same a.notify b.notify (ap (entry 1) e) i }

pub used_known : (a b : UsedBuffer) → a.id ∷ a.len ∷ [] ≡ b.id ∷ b.len ∷ [] → a ≡ b
used_known a b e = λ i. record { id = entry 0 (e i); len = entry 1 (e i) }

record_known : (p q : RingProducer) → record_values p ≡ record_values q → p ≡ q
record_known p q e =
    λ i. record {
      layout = layout (entry 0 (e i)) (entry 1 (e i)) (entry 2 (e i)) (entry 3 (e i));
      avail = at (entry 4 (e i)) (bit_same p.avail.wrap q.avail.wrap (ap (entry 5) e) i);
      used = at (entry 6 (e i)) (bit_same p.used.wrap q.used.wrap (ap (entry 7) e) i);
      free = entry 8 (e i);
      height = entry 9 (e i);
      shadow = entry 10 (e i);
    }

pub next_same : (x y : Result ℕ RingError) → next_answer x ≡ next_answer y → x ≡ y
next_same x y h = result_same (λ n. n ∷ []) id_known x y h

pub opened_same : (x y : Result RingProducer RingError) → opened_answer x ≡ opened_answer y → x ≡ y
opened_same x y h = result_same record_values record_known x y h

-- ---- what is seen of a call: its result, and what it left of what it was lent

module _ {R : Type 0} (answer : R → Answer) (end : R → RingProducer) (same : (x y : R) → answer x ≡ answer y → end x ≡ end y → x ≡ y) where
  abbrev pub all_seen : R × (List ℕ × (List ℕ × List ℕ)) → Outcome
  all_seen x = outcome (answer x.0) (end x.0) x.1.0 x.1.1.0 x.1.1.1

  pub all_same : (x y : R × (List ℕ × (List ℕ × List ℕ))) → all_seen x ≡ all_seen y → x ≡ y
  all_same x y h i =
      (same x.0 y.0 (ap (λ (o : Outcome). o.answer) h) (ap (λ (o : Outcome). o.end) h) i, ((h i).ring, ((h i).ids, (h i).counts)))

-- ---- a call that hands the record back beside its result

module _ {A : Type 0} (f : A → List ℕ) (known : (a b : A) → f a ≡ f b → a ≡ b) where
  pub handed_same : (x y : RingProducer × Result A RingError) → answer_by f x.1 ≡ answer_by f y.1 → x.0 ≡ y.0 → x ≡ y
  handed_same x y h r i = (r i, result_same f known x.1 y.1 h i)

  abbrev pub handed_seen : (RingProducer × Result A RingError) × (List ℕ × (List ℕ × List ℕ)) → Outcome
  handed_seen = all_seen (λ x. answer_by f x.1) (λ x. x.0) handed_same

  pub handed_all :
      (x y : (RingProducer × Result A RingError) × (List ℕ × (List ℕ × List ℕ))) → handed_seen x ≡ handed_seen y → x ≡ y
  handed_all = all_same (λ x. answer_by f x.1) (λ x. x.0) handed_same

pub submitted_same :
    (x y : RingProducer × Result ℕ RingError) → submitted_answer x.1 ≡ submitted_answer y.1 → x.0 ≡ y.0 → x ≡ y
submitted_same x y h r = handed_same (λ n. n ∷ []) id_known x y h r

pub told_same : (x y : RingProducer × Result SubmitResult RingError) → told_answer x.1 ≡ told_answer y.1 → x.0 ≡ y.0 → x ≡ y
told_same x y h r = handed_same (λ s. s.id ∷ bit s.notify ∷ []) result_known x y h r

pub polled_same : (x y : RingProducer × Result UsedBuffer RingError) → polled_answer x.1 ≡ polled_answer y.1 → x.0 ≡ y.0 → x ≡ y
polled_same x y h r = handed_same (λ u. u.id ∷ u.len ∷ []) used_known x y h r

pub answered_same : (x y : RingProducer × Result ⊤ RingError) → answer_of x.1 ≡ answer_of y.1 → x.0 ≡ y.0 → x ≡ y
answered_same x y h r = handed_same (λ u. []) (λ u v e. refl) x y h r

-- what is lent as `&` cannot change, and is left out of what is seen
abbrev pub none : List ℕ
none = []

abbrev pub without_ids : Outcome → Outcome
without_ids o = outcome o.answer o.end o.ring none o.counts

abbrev pub without_ring : Outcome → Outcome
without_ring o = outcome o.answer o.end none o.ids o.counts

abbrev pub submitted_seen : (RingProducer × Result ℕ RingError) × (List ℕ × (List ℕ × List ℕ)) → Outcome
submitted_seen = handed_seen (λ n. n ∷ []) id_known

pub submitted_all : (x y : (RingProducer × Result ℕ RingError) × (List ℕ × (List ℕ × List ℕ))) → submitted_seen x ≡ submitted_seen y → x ≡ y
submitted_all = handed_all (λ n. n ∷ []) id_known

abbrev pub told_seen : (RingProducer × Result SubmitResult RingError) × (List ℕ × (List ℕ × List ℕ)) → Outcome
told_seen = handed_seen (λ s. s.id ∷ bit s.notify ∷ []) result_known

pub told_all : (x y : (RingProducer × Result SubmitResult RingError) × (List ℕ × (List ℕ × List ℕ))) → told_seen x ≡ told_seen y → x ≡ y
told_all = handed_all (λ s. s.id ∷ bit s.notify ∷ []) result_known

abbrev pub polled_seen : (RingProducer × Result UsedBuffer RingError) × (List ℕ × (List ℕ × List ℕ)) → Outcome
polled_seen = handed_seen (λ u. u.id ∷ u.len ∷ []) used_known

pub polled_all : (x y : (RingProducer × Result UsedBuffer RingError) × (List ℕ × (List ℕ × List ℕ))) → polled_seen x ≡ polled_seen y → x ≡ y
polled_all = handed_all (λ u. u.id ∷ u.len ∷ []) used_known

abbrev pub answered_seen : (RingProducer × Result ⊤ RingError) × (List ℕ × (List ℕ × List ℕ)) → Outcome
answered_seen = handed_seen (λ u. []) (λ u v e. refl)

pub answered_all : (x y : (RingProducer × Result ⊤ RingError) × (List ℕ × (List ℕ × List ℕ))) → answered_seen x ≡ answered_seen y → x ≡ y
answered_all = handed_all (λ u. []) (λ u v e. refl)

abbrev pub changed_seen : (RingProducer × Result ⊤ RingError) × List ℕ → Changed
changed_seen x = changed (answer_of x.0.1) x.0.0 x.1

pub changed_all : (x y : (RingProducer × Result ⊤ RingError) × List ℕ) → changed_seen x ≡ changed_seen y → x ≡ y
changed_all x y h i =
    (answered_same x.0 y.0 (ap (λ (o : Changed). o.answer) h) (ap (λ (o : Changed). o.end) h) i, (h i).ring)

abbrev pub opened_seen : Result RingProducer RingError × (List ℕ × List ℕ) → Open
opened_seen x = opened (opened_answer x.0) x.1.0 x.1.1

pub opened_all : (x y : Result RingProducer RingError × (List ℕ × List ℕ)) → opened_seen x ≡ opened_seen y → x ≡ y
opened_all x y h i = (opened_same x.0 y.0 (ap (λ (o : Open). o.answer) h) i, ((h i).ids, (h i).counts))
