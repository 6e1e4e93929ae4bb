-- A ring that answers 7 to a bad record, or any other number, and zeroes the bytes that it was lent with it. With 7 such a call does not leave all that
-- it was lent as it was; with any number, where the bytes were the ring's own, a poll then "blocks" while a chain waits.
-- Assumes nothing.
use Prim.Native.Nat.{ℕ}
use mathlib.Core.Path.{◌≡◌, refl, sym, ap, subst}
use mathlib.Core.Logic.{⊎_elim}
use mathlib.Core.Bool.{true, cond}
use mathlib.Core.List.{List, [], ◌∷◌}
use native.Mathlib.Omega.{arith}
use lib.Dec.{eqb}
use lib.ListN.{length, get_or, replicate}
use Rattle.base.specs.Answer.{refused}
use Rattle.cursor.specs.Cursor.{fresh}
use Rattle.layout.specs.Layout.{layout}
use Rattle.producer.specs.declared.RingProducer.{RingProducer}
use Rattle.consumer.specs.declared.Checkpoint.{Checkpoint}
use Rattle.queue.specs.History.{Item, Event, History, pubs, standing, out, promised}
use Rattle.queue.specs.History as said
use Rattle.queue.specs.Promise.{plain, Each, MayFollow, Right}
use Rattle.queue.specs.Machine.{history_of, FairCalls}
use Rattle.packed.specs.Calls.{Given, poll_used, its, another, to_producer}
use Rattle.packed.specs.Machine.{Lendings, Ring, packed, machine_of}
use Rattle.packed.specs.Opening.{Opening, opened_world, Demand}
use Rattle.history.proofs.Ends.{two_accepted, over_zeros, nothing_asked, strays, item}
use Rattle.wrong.proofs.Changed.{only_made, producer_by}
use Rattle.wrong.proofs.Calls.{a, submit_a, poll, computing, Broken}

-- THE WRONG RING: a call of the producer's that should be answered 7 is answered n, and zeroes the bytes
abbrev pub zeroes : ℕ → Ring
zeroes n =
    producer_by (λ c s r.
    let o = packed.producer c s r in
    cond (eqb o.answer.number 7) (only_made s (replicate (length r) 0) (refused n)) o)

abbrev opened : (n : ℕ) → Opening (zeroes n)
opened n = over_zeros (zeroes n) 2 two_accepted

-- a record of no slots, and poll_used given it, with the producer's own tables and the ring's own bytes
abbrev no_slots : RingProducer
no_slots = record { layout = layout 0 0 32 36; avail = fresh; used = fresh; free = 0; height = 0; shadow = 0 }

abbrev stray : Given
stray = strays (to_producer (record { end = another no_slots; ids = its; counts = its }) its poll_used)

-- a chain is submitted; the foreign call is answered n; the poll blocks while the chain waits
abbrev after_stray : ℕ → History Checkpoint
after_stray n = said.unchanged (said.foreign_answered n) ∷ said.submitted (item 1 a) ∷ []

abbrev blocked : Event Checkpoint
blocked = said.unchanged (said.refused said.poll true 3)

first_right : (n : ℕ) → Each (Right (plain 2)) (after_stray n)
unfolding out promised
first_right n = ((tt, (omega arith, (tt, ((omega arith, (refl, omega arith)), (omega arith, λ i e. cc e))))), tt)

one_waits : (n : ℕ) → Right (plain 2) (after_stray n) blocked → ⊥
unfolding pubs standing
one_waits n f = ⊎_elim (λ z. z.0) (λ z. omega (arith, ap (λ (l : List Item). length l) z.1.1)) f.1

pub zeroes_broken : Broken (zeroes 7)
unfolding computing
zeroes_broken =
    record {
      opening = opened 7;
      calls = poll ∷ stray ∷ submit_a ∷ [];
      before = after_stray 7;
      event = blocked;
      computed = refl;
      fair = (((tt, tt), tt), tt);
      meets = nothing_asked (plain 2) (blocked ∷ after_stray 7) tt;
      right_before = first_right 7;
      wrong = one_waits 7;
    }

pub zeroes_with_two_broken : Broken (zeroes 2)
unfolding computing
zeroes_with_two_broken =
    record {
      opening = opened 2;
      calls = poll ∷ stray ∷ submit_a ∷ [];
      before = after_stray 2;
      event = blocked;
      computed = refl;
      fair = (((tt, tt), tt), tt);
      meets = nothing_asked (plain 2) (blocked ∷ after_stray 2) tt;
      right_before = first_right 2;
      wrong = one_waits 2;
    }

-- ---- the same, one call earlier: the clause on what is lent is broken before anything is polled

-- the second byte of the submitted address, as the foreign call was lent it and as it left it
second_byte : Lendings → ℕ
second_byte x = get_or x.world.ring 1 0

so_far : history_of (machine_of (zeroes 7) 2) (opened_world (zeroes 7) (opened 7)) (stray ∷ submit_a ∷ []) ≡ after_stray 7
unfolding computing
so_far = refl

fair_so_far : FairCalls (machine_of (zeroes 7) 2) (opened_world (zeroes 7) (opened 7)) (stray ∷ submit_a ∷ [])
unfolding computing
fair_so_far = ((tt, tt), tt)

pub zeroes_what_was_lent : Demand (zeroes 7) → ⊥
unfolding computing second_byte
zeroes_what_was_lent d =
    let l =
    (d (record {
      opening = opened 7;
      calls = stray ∷ submit_a ∷ [];
      premise = record { fair = fair_so_far; rollbacks = subst (Each (MayFollow (plain 2))) (sym so_far) (nothing_asked (plain 2) (after_stray 7) tt) };
    })).left_alone [] (submit_a ∷ []) stray refl tt in
    let z : ◌≡◌ {A = ℕ} 0 16 = ap second_byte l in
    omega arith
