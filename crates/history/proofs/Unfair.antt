-- What goes wrong where a call was not fair to make: for a reset, for another writer, and for an end that is not given back its own last record or
-- tables, a history, computed over bytes, that is not demand 3's. There is no rollback in any of them.
-- Assumes nothing.
use Prim.Native.Nat.{ℕ}
use mathlib.Core.Path.{◌≡◌, refl, sym, subst, ap}
use mathlib.Core.Logic.{◌⊎◌, inl, inr}
use mathlib.Core.List.{List, [], ◌∷◌}
use mathlib.Core.Bool.{true, false}
use native.Mathlib.Omega.{arith}
use lib.ListN.{length, get_or}
use Rattle.cursor.specs.Cursor.{at}
use Rattle.producer.specs.declared.RingProducer.{RingProducer}
use Rattle.consumer.specs.declared.Checkpoint.{Checkpoint}
use Rattle.queue.specs.History.{Item, History, items, pubs, standing, out}
use Rattle.queue.specs.History as said
use Rattle.queue.specs.Promise.{Each, MayFollow, Right}
use Rattle.queue.specs.Machine.{history_of, FairCalls}
use Rattle.queue.specs.Demand.{Demand3}
use Rattle.packed.specs.Calls.{Foreign, Given, one_of, submit_one, producer_reset, poll_available, its, another, to_producer, to_consumer}
use Rattle.packed.proofs.Packed.{demand_3}
use Rattle.history.proofs.Computing.{computing}
use Rattle.history.proofs.Ends.{zeros, geometry_of, item, makes, strays, submits_one, polls_for, nothing_asked}
use Rattle.history.proofs.Without.{two, world_two, machine_two, rules_two}

-- two chains of one element each: a gets ID 1, and b gets 0 if a is out
abbrev a : Item
a = item 1 (one_of 4096 16 false)

abbrev b : Item
b = item 0 (one_of 8192 16 false)

-- the chain of b with a's ID
abbrev b_too : Item
b_too = item 1 (one_of 8192 16 false)

-- a fresh record of a producer
abbrev fresh_record : RingProducer
fresh_record = record { layout = geometry_of 2; avail = at 0 true; used = at 0 true; free = 2; height = 2; shadow = 0 }

-- the address of the first chain's first element
first_address : List Item → ℕ
first_address [] = 0
first_address (x ∷ xs) = get_or x.chain.addrs 0 0

-- ---- (a) "no reset": the producer is reset while a is held

abbrev reset_calls : List Given
reset_calls = polls_for 2 ∷ submits_one 8192 16 false refl refl ∷ makes producer_reset tt ∷ polls_for 2 ∷ submits_one 4096 16 false refl refl ∷ []

abbrev reset_done : History Checkpoint
reset_done = said.unchanged said.quiet ∷ said.polled a ∷ said.submitted a ∷ []

-- b gets a's ID, in slot 0; the consumer looks at slot 1, and blocks
abbrev reset_waits : History Checkpoint
reset_waits = said.submitted b_too ∷ reset_done

abbrev reset : History Checkpoint
reset = said.unchanged (said.refused said.poll true 3) ∷ reset_waits

pub reset_answers : history_of machine_two world_two reset_calls ≡ reset
unfolding computing
reset_answers = refl

-- two answers after it are wrong: the ID is a's, which is out; and the poll blocks while b waits
pub record ResetWrong : Type 0 where
  pub same_id : Right rules_two reset_done (said.submitted b_too) → ⊥
  pub blocks : Right rules_two reset_waits (said.unchanged (said.refused said.poll true 3)) → ⊥

pub reset_wrong : ResetWrong
unfolding out pubs standing
reset_wrong = record { same_id = λ r. r.1.0.0 refl; blocks = λ r. blocked r.1 }
  where
    blocked : {A B C : Type 0} → (⊥ × A) ⊎ (B × (C × (a ∷ b_too ∷ [] ≡ a ∷ []))) → ⊥
    blocked (inl r) = r.0
    blocked (inr r) = omega (arith, ap length r.1.1)

-- so this is not demand 3's
pub reset_not_promised : Demand3 machine_two rules_two world_two reset_calls → ⊥
reset_not_promised f = reset_wrong.blocks (subst (Each (Right rules_two)) reset_answers f.answers).1

-- and so some call was not fair to make
pub reset_unfair : FairCalls machine_two world_two reset_calls → ⊥
reset_unfair f =
    reset_not_promised
    (demand_3
    (record {
      opening = two;
      calls = reset_calls;
      premise = record { fair = f; rollbacks = subst (Each (MayFollow rules_two)) (sym reset_answers) (nothing_asked rules_two reset tt) };
    }))

-- ---- (b) "no other writer": another producer, with a record and tables of its own, submits over the ring's bytes

abbrev writes_too : Foreign
writes_too =
    to_producer (record { end = another fresh_record; ids = another (0 ∷ 1 ∷ []); counts = another (zeros 2) }) its (submit_one 4096 16 false)

abbrev writer_calls : List Given
writer_calls = polls_for 2 ∷ strays writes_too ∷ []

-- it is accepted, and the consumer polls what its own producer never published
abbrev writer_before : History Checkpoint
writer_before = said.unchanged (said.foreign_answered 0) ∷ []

abbrev writer : History Checkpoint
writer = said.polled a ∷ writer_before

pub writer_answers : history_of machine_two world_two writer_calls ≡ writer
unfolding computing
writer_answers = refl

-- what was polled was not published
pub writer_wrong : Right rules_two writer_before (said.polled a) → ⊥
unfolding pubs standing
writer_wrong r = omega (arith, ap length r.1)

-- so this is not demand 3's
pub writer_not_promised : Demand3 machine_two rules_two world_two writer_calls → ⊥
writer_not_promised f = writer_wrong (subst (Each (Right rules_two)) writer_answers f.answers).1

-- and so some call was not fair to make
pub writer_unfair : FairCalls machine_two world_two writer_calls → ⊥
writer_unfair f =
    writer_not_promised
    (demand_3
    (record {
      opening = two;
      calls = writer_calls;
      premise = record { fair = f; rollbacks = subst (Each (MayFollow rules_two)) (sym writer_answers) (nothing_asked rules_two writer tt) };
    }))

-- ---- (c) "its own last record": a submission is made with a fresh record and the producer's own tables, and the next call is given the
-- producer's record from before it

abbrev record_calls : List Given
record_calls =
    submits_one 8192 16 false refl refl
    ∷ strays (to_producer (record { end = another fresh_record; ids = its; counts = its }) its (submit_one 4096 16 false))
    ∷ []

-- ID 1 is on that record's stack still, though its count says that it is out: a submission that finds slots is refused with 5
abbrev record_before : History Checkpoint
record_before = said.unchanged (said.foreign_answered 0) ∷ []

abbrev record_history : History Checkpoint
record_history = said.unchanged (said.refused (said.submit b.chain) true 5) ∷ record_before

pub record_answers : history_of machine_two world_two record_calls ≡ record_history
unfolding computing
record_answers = refl

-- a submission is refused only with 1 or 3
pub record_wrong : Right rules_two record_before (said.unchanged (said.refused (said.submit b.chain) true 5)) → ⊥
record_wrong r = neither r.1
  where
    neither : {A B C D : Type 0} → (⊥ × A) ⊎ (B × ((◌≡◌ {A = ℕ} 5 1 × C) ⊎ (◌≡◌ {A = ℕ} 5 3 × D))) → ⊥
    neither (inl y) = y.0
    neither (inr (y, inl z)) = omega (arith, z.0)
    neither (inr (y, inr z)) = omega (arith, z.0)

-- so this is not demand 3's
pub record_not_promised : Demand3 machine_two rules_two world_two record_calls → ⊥
record_not_promised f = record_wrong (subst (Each (Right rules_two)) record_answers f.answers).1

-- and so some call was not fair to make
pub record_unfair : FairCalls machine_two world_two record_calls → ⊥
record_unfair f =
    record_not_promised
    (demand_3
    (record {
      opening = two;
      calls = record_calls;
      premise =
          record { fair = f; rollbacks = subst (Each (MayFollow rules_two)) (sym record_answers) (nothing_asked rules_two record_history tt) };
    }))

-- ---- (d) "and tables": the consumer is given its own record and another table

abbrev table_calls : List Given
table_calls =
    polls_for 2
    ∷ strays (to_consumer (record { end = its; counts = another (zeros 2) }) its (poll_available (zeros 2) (zeros 2)))
    ∷ submits_one 8192 16 false refl refl
    ∷ submits_one 4096 16 false refl refl
    ∷ []

-- a is polled, but its count is in the other table; the end's own next poll gives b
abbrev table_before : History Checkpoint
table_before = said.unchanged (said.foreign_answered 0) ∷ said.submitted b ∷ said.submitted a ∷ []

abbrev table : History Checkpoint
table = said.polled b ∷ table_before

pub table_answers : history_of machine_two world_two table_calls ≡ table
unfolding computing
table_answers = refl

-- a was published first, and the polls that stand did not give it
pub table_wrong : Right rules_two table_before (said.polled b) → ⊥
unfolding pubs standing first_address
table_wrong r = omega (arith, ap first_address r.1)

-- so this is not demand 3's
pub table_not_promised : Demand3 machine_two rules_two world_two table_calls → ⊥
table_not_promised f = table_wrong (subst (Each (Right rules_two)) table_answers f.answers).1

-- and so some call was not fair to make
pub table_unfair : FairCalls machine_two world_two table_calls → ⊥
table_unfair f =
    table_not_promised
    (demand_3
    (record {
      opening = two;
      calls = table_calls;
      premise = record { fair = f; rollbacks = subst (Each (MayFollow rules_two)) (sym table_answers) (nothing_asked rules_two table tt) };
    }))
