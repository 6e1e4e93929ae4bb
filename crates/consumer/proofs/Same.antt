-- Each answer of the consumer, with the record that it hands back, is told by its number and values.
-- Assumes nothing.
use Prim.Native.Nat.{ℕ}
use mathlib.Core.Path.{◌≡◌, refl, ap}
use mathlib.Core.List.{List, [], ◌∷◌}
use mathlib.Core.Bool.{Bool}
use lib.ListN.{get_or}
use Rattle.std.specs.Prelude.{Result, ⊤}
use Rattle.base.specs.declared.RingError.{RingError}
use Rattle.base.specs.Answer.{Answer, bit, answer_by, answer_of}
use Rattle.base.proofs.Refusals.{bit_same, result_same}
use Rattle.cursor.specs.Cursor.{at}
use Rattle.layout.specs.Layout.{layout}
use Rattle.consumer.specs.declared.RingConsumer.{RingConsumer}
use Rattle.consumer.specs.declared.PolledChain.{PolledChain}
use Rattle.consumer.specs.declared.Checkpoint.{Checkpoint}
use Rattle.consumer.specs.Outcome.{Outcome, outcome, Changed, changed, Rolled, rolled}
use Rattle.consumer.specs.Poll.{Taken, taken, polled_answer}
use Rattle.consumer.specs.Complete.{told_answer}
use Rattle.consumer.specs.Rollback.{checkpoint_values, checkpoint_answer}
use Rattle.consumer.specs.Fresh.{Open, record_values, opened, opened_answer}

-- ---- what is handed back is told by its values

abbrev entry : ℕ → List ℕ → ℕ
entry i l = get_or l i 0

pub chain_known : (a b : PolledChain) → a.id ∷ a.count ∷ a.readable ∷ [] ≡ b.id ∷ b.count ∷ b.readable ∷ [] → a ≡ b
chain_known a b e = λ i. record { id = entry 0 (e i); count = entry 1 (e i); readable = entry 2 (e i) }

pub yes_known : (a b : Bool) → bit a ∷ [] ≡ bit b ∷ [] → a ≡ b
yes_known a b e = bit_same a b (ap (entry 0) e)

checkpoint_known : (a b : Checkpoint) → checkpoint_values a ≡ checkpoint_values b → a ≡ b
checkpoint_known a b e =
    λ i. record {
      avail = at (entry 0 (e i)) (bit_same a.avail.wrap b.avail.wrap (ap (entry 1) e) i);
      used = at (entry 2 (e i)) (bit_same a.used.wrap b.used.wrap (ap (entry 3) e) i);
      inflight = entry 4 (e i);
    }

record_known : (p q : RingConsumer) → record_values p ≡ record_values q → p ≡ q
record_known p q e =
    λ i. record {
      layout = layout (entry 0 (e i)) (entry 1 (e i)) (entry 2 (e i)) (entry 3 (e i));
      avail = at (entry 4 (e i)) (bit_same p.avail.wrap q.avail.wrap (ap (entry 5) e) i);
      used = at (entry 6 (e i)) (bit_same p.used.wrap q.used.wrap (ap (entry 7) e) i);
      inflight = entry 8 (e i);
      shadow = entry 9 (e i);
    }

pub checkpointed_same : (x y : Result Checkpoint RingError) → checkpoint_answer x ≡ checkpoint_answer y → x ≡ y
checkpointed_same x y h = result_same checkpoint_values checkpoint_known x y h

pub opened_same : (x y : Result RingConsumer RingError) → opened_answer x ≡ opened_answer y → x ≡ y
opened_same x y h = result_same record_values record_known x y h

-- ---- what is seen of a call: its result, and what it left of what it was lent

module _ {R : Type 0} (answer : R → Answer) (end : R → RingConsumer) (same : (x y : R) → answer x ≡ answer y → end x ≡ end y → x ≡ y) where
  abbrev pub all_seen : R × (List ℕ × List ℕ) → Outcome
  all_seen x = outcome (answer x.0) (end x.0) x.1.0 x.1.1

  pub all_same : (x y : R × (List ℕ × List ℕ)) → all_seen x ≡ all_seen y → x ≡ y
  all_same x y h i =
      (same x.0 y.0 (ap (λ (o : Outcome). o.answer) h) (ap (λ (o : Outcome). o.end) h) i, ((h i).ring, (h i).counts))

-- ---- a call that hands the record back beside its result

module _ {A : Type 0} (f : A → List ℕ) (known : (a b : A) → f a ≡ f b → a ≡ b) where
  pub handed_same : (x y : RingConsumer × Result A RingError) → answer_by f x.1 ≡ answer_by f y.1 → x.0 ≡ y.0 → x ≡ y
  handed_same x y h r i = (r i, result_same f known x.1 y.1 h i)

  abbrev pub handed_seen : (RingConsumer × Result A RingError) × (List ℕ × List ℕ) → Outcome
  handed_seen = all_seen (λ x. answer_by f x.1) (λ x. x.0) handed_same

  pub handed_all : (x y : (RingConsumer × Result A RingError) × (List ℕ × List ℕ)) → handed_seen x ≡ handed_seen y → x ≡ y
  handed_all = all_same (λ x. answer_by f x.1) (λ x. x.0) handed_same

pub polled_same : (x y : RingConsumer × Result PolledChain RingError) → polled_answer x.1 ≡ polled_answer y.1 → x.0 ≡ y.0 → x ≡ y
polled_same x y h r = handed_same (λ c. c.id ∷ c.count ∷ c.readable ∷ []) chain_known x y h r

pub answered_same : (x y : RingConsumer × Result ⊤ RingError) → answer_of x.1 ≡ answer_of y.1 → x.0 ≡ y.0 → x ≡ y
answered_same x y h r = handed_same (λ u. []) (λ u v e. refl) x y h r

pub told_same : (x y : RingConsumer × Result Bool RingError) → told_answer x.1 ≡ told_answer y.1 → x.0 ≡ y.0 → x ≡ y
told_same x y h r = handed_same (λ b. bit b ∷ []) yes_known x y h r

abbrev pub answered_seen : (RingConsumer × Result ⊤ RingError) × (List ℕ × List ℕ) → Outcome
answered_seen = handed_seen (λ u. []) (λ u v e. refl)

pub answered_all : (x y : (RingConsumer × Result ⊤ RingError) × (List ℕ × List ℕ)) → answered_seen x ≡ answered_seen y → x ≡ y
answered_all = handed_all (λ u. []) (λ u v e. refl)

abbrev pub told_seen : (RingConsumer × Result Bool RingError) × (List ℕ × List ℕ) → Outcome
told_seen = handed_seen (λ b. bit b ∷ []) yes_known

pub told_all : (x y : (RingConsumer × Result Bool RingError) × (List ℕ × List ℕ)) → told_seen x ≡ told_seen y → x ≡ y
told_all = handed_all (λ b. bit b ∷ []) yes_known

abbrev pub changed_seen : (RingConsumer × Result ⊤ RingError) × List ℕ → Changed
changed_seen x = changed (answer_of x.0.1) x.0.0 x.1

pub changed_all : (x y : (RingConsumer × Result ⊤ RingError) × List ℕ) → changed_seen x ≡ changed_seen y → x ≡ y
changed_all x y h i =
    (answered_same x.0 y.0 (ap (λ (o : Changed). o.answer) h) (ap (λ (o : Changed). o.end) h) i, (h i).ring)

abbrev pub rolled_seen : (RingConsumer × Result ⊤ RingError) × List ℕ → Rolled
rolled_seen x = rolled (answer_of x.0.1) x.0.0 x.1

pub rolled_all : (x y : (RingConsumer × Result ⊤ RingError) × List ℕ) → rolled_seen x ≡ rolled_seen y → x ≡ y
rolled_all x y h i =
    (answered_same x.0 y.0 (ap (λ (o : Rolled). o.answer) h) (ap (λ (o : Rolled). o.end) h) i, (h i).counts)

abbrev pub taken_seen : (RingConsumer × Result PolledChain RingError) × (List ℕ × (List ℕ × List ℕ)) → Taken
taken_seen x = taken (polled_answer x.0.1) x.0.0 x.1.0 x.1.1.0 x.1.1.1

pub taken_all : (x y : (RingConsumer × Result PolledChain RingError) × (List ℕ × (List ℕ × List ℕ))) → taken_seen x ≡ taken_seen y → x ≡ y
taken_all x y h i = (
  polled_same x.0 y.0 (ap (λ (o : Taken). o.answer) h) (ap (λ (o : Taken). o.end) h) i,
  ((h i).counts, ((h i).addrs, (h i).lens)),
)

abbrev pub opened_seen : Result RingConsumer RingError × List ℕ → Open
opened_seen x = opened (opened_answer x.0) x.1

pub opened_all : (x y : Result RingConsumer RingError × List ℕ) → opened_seen x ≡ opened_seen y → x ≡ y
opened_all x y h i = (opened_same x.0 y.0 (ap (λ (o : Open). o.answer) h) i, (h i).counts)
