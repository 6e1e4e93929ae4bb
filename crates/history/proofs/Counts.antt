-- What both ends answer of their counts (further/proofs/Counted.antt), applied at points of the history of Run.antt: c, d and e are out, of one slot
-- each; after two of three polls the consumer holds c and d.
-- Assumes nothing.
use Prim.Native.Nat.{ℕ, ◌+◌, ◌-◌}
use mathlib.Core.Path.{◌≡◌, refl, subst}
use mathlib.Core.List.{[], ◌∷◌}
use lib.Dec.{eqb}
use Rattle.base.specs.Answer.{bit}
use Rattle.base.specs.Answer as answer
use Rattle.queue.specs.History.{slots_in, items, pubs, polls, reclaims, held, out}
use Rattle.packed.specs.Calls.{ProducerQuestion, producer_num_free, producer_num_inflight, producer_is_full, producer_len}
use Rattle.packed.specs.Calls.{ConsumerQuestion, consumer_num_free, consumer_num_inflight, consumer_is_full, consumer_len}
use Rattle.packed.specs.Machine.{packed, producer_answers, consumer_answers}
use Rattle.packed.specs.Opening.{history_in}
use Rattle.further.proofs.Counted as counted
use Rattle.history.proofs.Ends.{done}
use Rattle.history.proofs.Run.{a}
use Rattle.history.proofs.Points.{until, world, first, spoken}
use Rattle.history.proofs.Shown.{second_is_of_a}

-- what is answered of the slots that are out, and of those that the consumer holds, after the first k calls
abbrev out_at : (k : ℕ) (q : ProducerQuestion) (f : ℕ → ℕ) → Type 0
out_at k q f = producer_answers (world k).producer.end q ≡ answer.done (f (slots_in (out (until k))) ∷ [])

abbrev held_at : (k : ℕ) (q : ConsumerQuestion) (f : ℕ → ℕ) → Type 0
held_at k q f = consumer_answers (world k).consumer.end q ≡ answer.done (f (slots_in (items (held (until k)))) ∷ [])

out_at_lem :
    (k : ℕ) (q : ProducerQuestion) (f : ℕ → ℕ)
    → producer_answers (world k).producer.end q ≡ answer.done (f (slots_in (out (history_in packed (first k)))) ∷ []) → out_at k q f
out_at_lem k q f z = subst (λ t. producer_answers (world k).producer.end q ≡ answer.done (f (slots_in (out t)) ∷ [])) (spoken k) z

held_at_lem :
    (k : ℕ) (q : ConsumerQuestion) (f : ℕ → ℕ)
    → consumer_answers (world k).consumer.end q ≡ answer.done (f (slots_in (items (held (history_in packed (first k))))) ∷ []) → held_at k q f
held_at_lem k q f z = subst (λ t. consumer_answers (world k).consumer.end q ≡ answer.done (f (slots_in (items (held t))) ∷ [])) (spoken k) z

-- `producer_num_free_lem`, `producer_num_inflight_lem`, `producer_is_full_lem`, `producer_len_lem`
pub producer_counts :
    (producer_answers (world 28).producer.end producer_num_free ≡ answer.done (0 ∷ []))
    × (producer_answers (world 28).producer.end producer_num_inflight ≡ answer.done (3 ∷ []))
    × (producer_answers (world 28).producer.end producer_is_full ≡ answer.done (1 ∷ []))
    × (producer_answers (world 28).producer.end producer_len ≡ answer.done (3 ∷ []))
unfolding out
producer_counts = (
  out_at_lem 28 producer_num_free (λ n. 3 - n) (counted.producer_num_free_lem (first 28)),
  out_at_lem 28 producer_num_inflight (λ n. n) (counted.producer_num_inflight_lem (first 28)),
  out_at_lem 28 producer_is_full (λ n. bit (eqb n 3)) (counted.producer_is_full_lem (first 28)),
  counted.producer_len_lem (first 28),
)

-- `consumer_num_free_lem`, `consumer_num_inflight_lem`, `consumer_is_full_lem`, `consumer_len_lem`
pub consumer_counts :
    (consumer_answers (world 32).consumer.end consumer_num_free ≡ answer.done (1 ∷ []))
    × (consumer_answers (world 32).consumer.end consumer_num_inflight ≡ answer.done (2 ∷ []))
    × (consumer_answers (world 32).consumer.end consumer_is_full ≡ answer.done (0 ∷ []))
    × (consumer_answers (world 32).consumer.end consumer_len ≡ answer.done (3 ∷ []))
unfolding held polls
consumer_counts = (
  held_at_lem 32 consumer_num_free (λ n. 3 - n) (counted.consumer_num_free_lem (first 32)),
  held_at_lem 32 consumer_num_inflight (λ n. n) (counted.consumer_num_inflight_lem (first 32)),
  held_at_lem 32 consumer_is_full (λ n. bit (eqb n 3)) (counted.consumer_is_full_lem (first 32)),
  counted.consumer_len_lem (first 32),
)

-- `num_free_grows`: before a's completion came back num_free answered 1, after it it answers 1 and the two slots of a
pub two_more_are_free : producer_answers (world 24).producer.end producer_num_free ≡ answer.done ((1 + 2) ∷ [])
unfolding pubs reclaims out
two_more_are_free =
    counted.num_free_grows (first 24) (until 23) (done 2 32) (spoken 24) 0 second_is_of_a a refl 1
    (out_at_lem 23 producer_num_free (λ n. 3 - n) (counted.producer_num_free_lem (first 23)))
