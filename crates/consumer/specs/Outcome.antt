-- What a call of the consumer leaves: its answer, the record, and what it was lent.
use Rattle.std.specs.Prelude.{ℕ, List}
use Rattle.base.specs.Answer.{Answer}
use Rattle.consumer.specs.declared.RingConsumer.{RingConsumer}

-- of a call that is lent the bytes and the counts
pub record Outcome : Type 0 where
  pub answer : Answer
  pub end : RingConsumer
  pub ring : List ℕ
  pub counts : List ℕ

abbrev pub outcome : Answer → RingConsumer → List ℕ → List ℕ → Outcome
outcome a p l k = record { answer = a; end = p; ring = l; counts = k }

-- of a call that is lent the bytes alone
pub record Changed : Type 0 where
  pub answer : Answer
  pub end : RingConsumer
  pub ring : List ℕ

abbrev pub changed : Answer → RingConsumer → List ℕ → Changed
changed a p l = record { answer = a; end = p; ring = l }

-- of a call that is lent the counts alone
pub record Rolled : Type 0 where
  pub answer : Answer
  pub end : RingConsumer
  pub counts : List ℕ

abbrev pub rolled : Answer → RingConsumer → List ℕ → Rolled
rolled a p k = record { answer = a; end = p; counts = k }
