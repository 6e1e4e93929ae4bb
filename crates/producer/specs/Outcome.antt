-- What a call of the producer leaves: its answer, the record, the ring's bytes and both tables.
use Rattle.std.specs.Prelude.{ℕ, List}
use Rattle.base.specs.Answer.{Answer}
use Rattle.producer.specs.declared.RingProducer.{RingProducer}

pub record Outcome : Type 0 where
  pub answer : Answer
  pub end : RingProducer
  pub ring : List ℕ
  pub ids : List ℕ
  pub counts : List ℕ

abbrev pub outcome : Answer → RingProducer → List ℕ → List ℕ → List ℕ → Outcome
outcome a p l s k = record { answer = a; end = p; ring = l; ids = s; counts = k }

-- the same of a call that is lent the bytes alone
pub record Changed : Type 0 where
  pub answer : Answer
  pub end : RingProducer
  pub ring : List ℕ

abbrev pub changed : Answer → RingProducer → List ℕ → Changed
changed a p l = record { answer = a; end = p; ring = l }
