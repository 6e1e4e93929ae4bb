-- What goes wrong where the premise is not met: for each of its clauses on rollbacks a history, computed over bytes, that is not demand 3's. Its
-- other clauses: Unfair.antt.
-- Assumes nothing.
use Prim.Native.Nat.{ℕ}
use mathlib.Core.Path.{◌≡◌, refl, sym, subst, ap}
use mathlib.Core.Logic.{◌⊎◌, inl, inr}
use mathlib.Core.List.{List, [], ◌∷◌, ◌++◌}
use mathlib.Core.Bool.{Bool, true, false}
use native.Mathlib.Omega.{arith}
use lib.ListN.{length}
use Rattle.cursor.specs.Cursor.{at}
use Rattle.consumer.specs.declared.Checkpoint.{Checkpoint}
use Rattle.queue.specs.History.{Item, History, slots_of, items, ids, after, times, pubs, polls, comps, standing, held, finished, out}
use Rattle.queue.specs.History as said
use Rattle.queue.specs.Promise.{Has, Rules, Each, MayFollow, Right}
use Rattle.queue.specs.Machine.{Machine, history_of, FairCalls}
use Rattle.queue.specs.Demand.{Demand3}
use Rattle.packed.specs.Calls.{Given, one_of, poll_used, poll_checkpoint, rollback_polls}
use Rattle.packed.specs.Machine.{World, packed}
use Rattle.packed.specs.Opening.{Opening, opened_world, machine, rules}
use Rattle.packed.proofs.Packed.{demand_3}
use Rattle.history.proofs.Computing.{computing}
use Rattle.history.proofs.Ends.{over_zeros, two_accepted, three, world_three, item, done, chain, checkpoint, nothing_asked}
use Rattle.history.proofs.Ends.{makes, takes, submits, submits_one, completes, polls_for}
use Rattle.history.proofs.Run.{machine_three, rules_three}

-- a ring of two slots, opened by two fresh ends over zero bytes
abbrev pub two : Opening packed
two = over_zeros packed 2 two_accepted

abbrev pub world_two : World
world_two = opened_world packed two

abbrev pub machine_two : Machine Checkpoint
machine_two = machine packed two

abbrev pub rules_two : Rules Checkpoint
rules_two = rules packed two

-- by demand 3 poll_available and poll_used, where they are valid, are refused with 3 alone
not_five : {A B D : Type 0} → D × ((⊥ × A) ⊎ ((◌≡◌ {A = Bool} true true) × (◌≡◌ {A = ℕ} 5 3 × B))) → ⊥
not_five (z, inl r) = r.0
not_five (z, inr r) = omega (arith, r.1.0)

-- ---- (a) "undoing every poll since": an older chain of equal length is named instead

-- a and b are one element each, on a ring of two slots. a is polled; a checkpoint; b is polled; and the rollback names a
abbrev a : Item
a = item 1 (one_of 4096 16 false)

abbrev b : Item
b = item 0 (one_of 8192 16 false)

abbrev between : Checkpoint
between = checkpoint (at 1 true) (at 0 true) 1

abbrev older_calls : List Given
older_calls =
    makes poll_used tt
    ∷ completes 0 8 refl refl
    ∷ makes poll_used tt
    ∷ polls_for 2
    ∷ completes 0 7 refl refl
    ∷ completes 1 0 refl refl
    ∷ polls_for 2
    ∷ takes (rollback_polls between (1 ∷ [])) tt
    ∷ polls_for 2
    ∷ takes poll_checkpoint tt
    ∷ polls_for 2
    ∷ submits_one 8192 16 false refl refl
    ∷ submits_one 4096 16 false refl refl
    ∷ []

abbrev older_taken : History Checkpoint
older_taken = said.polled a ∷ said.submitted b ∷ said.submitted a ∷ []

abbrev older_polled : History Checkpoint
older_polled = said.polled b ∷ said.marked between ∷ older_taken

-- all of 9's tests pass: as many slots are undone as were polled since
abbrev older_rolled : History Checkpoint
older_rolled = said.rolled between (1 ∷ []) ∷ older_polled

-- b is to be polled again, and the poll is refused with 5
abbrev older_poll : History Checkpoint
older_poll = said.unchanged (said.refused said.poll true 5) ∷ older_rolled

-- a was not undone, and its completion is refused
abbrev older_lost : History Checkpoint
older_lost = said.unchanged (said.refused (said.complete (done 1 0)) true 5) ∷ older_poll

-- b was undone, and its completion is accepted
abbrev older_accepted : History Checkpoint
older_accepted = said.completed (done 0 7) ∷ older_lost

-- b is polled after it was completed, completed once more, and the producer comes to a completion of an ID that it has not out: 5. a never comes back
abbrev older_twice : History Checkpoint
older_twice = said.completed (done 0 8) ∷ said.reclaimed (done 0 7) ∷ said.polled b ∷ older_accepted

abbrev older : History Checkpoint
older = said.unchanged (said.refused said.reclaim true 5) ∷ older_twice

pub older_answers : history_of machine_two world_two older_calls ≡ older
unfolding computing
older_answers = refl

-- the other clauses hold: the checkpoint was taken, no completion came since, and the list names as many polls as came
-- since, one that is held
pub record OlderKept : Type 0 where
  pub took : older_polled ≡ (said.polled b ∷ []) ++ (said.marked between ∷ older_taken)
  pub none_completed : comps older_polled ≡ comps older_taken
  pub as_many : length {A = ℕ} (1 ∷ []) ≡ length (after (polls older_taken) (standing older_polled))
  pub is_held : Has 1 (held older_polled)
  -- the one poll since is of ID 0
  pub since : ids (after (polls older_taken) (standing older_polled)) ≡ 0 ∷ []

pub older_kept : OlderKept
unfolding comps polls standing held
older_kept = record { took = refl; none_completed = refl; as_many = refl; is_held = inl refl; since = refl }

-- four answers after it are wrong
pub record OlderWrong : Type 0 where
  pub poll_refused : Right rules_two older_rolled (said.unchanged (said.refused said.poll true 5)) → ⊥
  pub held_refused : Right rules_two older_poll (said.unchanged (said.refused (said.complete (done 1 0)) true 5)) → ⊥
  pub undone_accepted : Right rules_two older_lost (said.completed (done 0 7)) → ⊥
  pub stuck : Right rules_two older_twice (said.unchanged (said.refused said.reclaim true 5)) → ⊥

pub older_wrong : OlderWrong
unfolding held
older_wrong = record { poll_refused = not_five; held_refused = held_too; undone_accepted = other; stuck = not_five }
  where
    held_too : {A B D : Type 0} → D × ((⊥ × A) ⊎ ((◌≡◌ {A = Bool} true true) × (B × ((◌≡◌ {A = ℕ} 1 1 ⊎ ⊥) → ⊥)))) → ⊥
    held_too (z, inl r) = r.0
    held_too (z, inr r) = r.1.1 (inl refl)

    other : ◌≡◌ {A = ℕ} 1 0 ⊎ ⊥ → ⊥
    other (inl e) = omega (arith, e)
    other (inr z) = z

-- so this is not demand 3's
pub older_not_promised : Demand3 machine_two rules_two world_two older_calls → ⊥
older_not_promised f = older_wrong.stuck (subst (Each (Right rules_two)) older_answers f.answers).1

-- each call was fair to make
pub older_fair : FairCalls machine_two world_two older_calls
older_fair = (((((((((((((tt, tt), tt), tt), tt), tt), tt), tt), tt), tt), tt), tt), tt), tt)

-- and so the premise on rollbacks is not met
pub older_unmet : Each (MayFollow rules_two) (history_of machine_two world_two older_calls) → ⊥
older_unmet m =
    older_not_promised (demand_3 (record { opening = two; calls = older_calls; premise = record { fair = older_fair; rollbacks = m } }))

-- ---- (b) "with no completion between": a rollback after a completion, which the ring itself refuses

-- a checkpoint; a and b are polled; a is completed. A rollback that names what is still held, or all that was polled, is refused; and so is
-- one of nothing after b is completed too: the used cursor is at the same slot then, in another round
abbrev fresh : Checkpoint
fresh = checkpoint (at 0 true) (at 0 true) 0

abbrev between_calls : List Given
between_calls =
    takes (rollback_polls fresh []) tt
    ∷ completes 0 0 refl refl
    ∷ takes (rollback_polls fresh (0 ∷ 1 ∷ [])) tt
    ∷ takes (rollback_polls fresh (0 ∷ [])) tt
    ∷ completes 1 0 refl refl
    ∷ polls_for 2
    ∷ polls_for 2
    ∷ takes poll_checkpoint tt
    ∷ submits_one 8192 16 false refl refl
    ∷ submits_one 4096 16 false refl refl
    ∷ []

abbrev between_history : History Checkpoint
between_history =
    said.unchanged (said.refused (said.rollback fresh []) true 9)
    ∷ said.completed (done 0 0)
    ∷ said.unchanged (said.refused (said.rollback fresh (0 ∷ 1 ∷ [])) true 9)
    ∷ said.unchanged (said.refused (said.rollback fresh (0 ∷ [])) true 9)
    ∷ said.completed (done 1 0)
    ∷ said.polled b
    ∷ said.polled a
    ∷ said.marked fresh
    ∷ said.submitted b
    ∷ said.submitted a
    ∷ []

pub between_answers : history_of machine_two world_two between_calls ≡ between_history
unfolding computing
between_answers = refl

-- so nothing goes wrong: a rollback that is refused changes nothing, and nothing is asked of it
pub between_promised : Demand3 machine_two rules_two world_two between_calls
between_promised =
    demand_3
    (record {
      opening = two;
      calls = between_calls;
      premise =
          record {
            fair = ((((((((((tt, tt), tt), tt), tt), tt), tt), tt), tt), tt), tt);
            rollbacks = subst (Each (MayFollow rules_two)) (sym between_answers) (nothing_asked rules_two between_history tt);
          };
    })

-- ---- (c) "with no completion between": completions of exactly twice the ring's size, after which the ring does not refuse it

-- a checkpoint of the fresh ring. A chain of two and a chain of one are polled and completed. p and q are polled and q is completed: four
-- slots in all, and the used cursor is where it was. p alone is held, and the rollback names it
abbrev x : Item
x = item 1 (chain (4096 ∷ 8192 ∷ []) (16 ∷ 16 ∷ []) 1)

abbrev z : Item
z = item 1 (one_of 12288 16 false)

abbrev p : Item
p = item 1 (one_of 16384 16 false)

abbrev q : Item
q = item 0 (one_of 20480 16 false)

abbrev r : Item
r = item 0 (one_of 24576 16 false)

abbrev stale_calls : List Given
stale_calls =
    makes poll_used tt
    ∷ completes 0 7 refl refl
    ∷ polls_for 2
    ∷ makes poll_used tt
    ∷ completes 0 6 refl refl
    ∷ polls_for 2
    ∷ submits_one 24576 16 false refl refl
    ∷ makes poll_used tt
    ∷ takes (rollback_polls fresh (1 ∷ [])) tt
    ∷ completes 0 5 refl refl
    ∷ polls_for 2
    ∷ polls_for 2
    ∷ submits_one 20480 16 false refl refl
    ∷ submits_one 16384 16 false refl refl
    ∷ makes poll_used tt
    ∷ completes 1 0 refl refl
    ∷ polls_for 2
    ∷ submits_one 12288 16 false refl refl
    ∷ makes poll_used tt
    ∷ completes 1 0 refl refl
    ∷ polls_for 2
    ∷ submits x.chain refl refl
    ∷ takes poll_checkpoint tt
    ∷ []

abbrev stale_since : History Checkpoint
stale_since =
    said.completed (done 0 5)
    ∷ said.polled q
    ∷ said.polled p
    ∷ said.submitted q
    ∷ said.submitted p
    ∷ said.reclaimed (done 1 0)
    ∷ said.completed (done 1 0)
    ∷ said.polled z
    ∷ said.submitted z
    ∷ said.reclaimed (done 1 0)
    ∷ said.completed (done 1 0)
    ∷ said.polled x
    ∷ said.submitted x
    ∷ []

abbrev stale_polled : History Checkpoint
stale_polled = stale_since ++ (said.marked fresh ∷ [])

-- all of 9's tests pass; but q was polled last, and p, whose count is cleared, was not. q's completion comes back; r is submitted and gets
-- q's ID; then q is polled again, though it was completed, and completed again
abbrev stale_again : History Checkpoint
stale_again =
    said.completed (done 0 6)
    ∷ said.polled q
    ∷ said.submitted r
    ∷ said.reclaimed (done 0 5)
    ∷ said.rolled fresh (1 ∷ [])
    ∷ stale_polled

-- poll_used returns it as the completion of ID 0, which is r's: r is done for the producer before it was polled
abbrev stale_mistaken : History Checkpoint
stale_mistaken = said.reclaimed (done 0 6) ∷ stale_again

-- r is polled and completed, and its own completion reaches a producer that has no chain of that ID out: 5
abbrev stale_last : History Checkpoint
stale_last = said.completed (done 0 7) ∷ said.polled r ∷ stale_mistaken

abbrev stale : History Checkpoint
stale = said.unchanged (said.refused said.reclaim true 5) ∷ stale_last

pub stale_answers : history_of machine_two world_two stale_calls ≡ stale
unfolding computing
stale_answers = refl

-- the checkpoint was taken, and the list names exactly the polls since that are still held
pub record StaleKept : Type 0 where
  pub took : stale_polled ≡ stale_since ++ (said.marked fresh ∷ [])
  pub names_held : (y : ℕ) → times y (1 ∷ []) ≡ times y (ids (after 0 (held stale_polled)))
  -- three completions came since
  pub completions : comps stale_polled ≡ done 1 0 ∷ done 1 0 ∷ done 0 5 ∷ []

pub stale_kept : StaleKept
unfolding comps held polls
stale_kept = record { took = refl; names_held = λ y. refl; completions = refl }

-- a completion meets another chain's submission: q's second one is taken for r's
pub record StaleMistaken : Type 0 where
  -- q was published once and completed twice
  pub published : pubs stale_mistaken ≡ x ∷ z ∷ p ∷ q ∷ r ∷ []
  pub completed : items (finished stale_mistaken) ≡ x ∷ z ∷ q ∷ q ∷ []
  -- before poll_used returned it r was out, and after it is not; r was never polled
  pub out_before : out stale_again ≡ p ∷ r ∷ []
  pub out_after : out stale_mistaken ≡ p ∷ []
  pub polled : items (standing stale_mistaken) ≡ x ∷ z ∷ p ∷ q ∷ []

pub stale_mistakes : StaleMistaken
unfolding pubs finished held out standing polls
stale_mistakes = record { published = refl; completed = refl; out_before = refl; out_after = refl; polled = refl }

pub stale_wrong : Right rules_two stale_last (said.unchanged (said.refused said.reclaim true 5)) → ⊥
stale_wrong = not_five

-- so this is not demand 3's
pub stale_not_promised : Demand3 machine_two rules_two world_two stale_calls → ⊥
stale_not_promised f = stale_wrong (subst (Each (Right rules_two)) stale_answers f.answers).1

-- each call was fair to make
pub stale_fair : FairCalls machine_two world_two stale_calls
stale_fair =
    (((((((((((((((((((((((tt, tt), tt), tt), tt), tt), tt), tt), tt), tt), tt), tt), tt), tt), tt), tt), tt), tt), tt), tt), tt), tt), tt), tt)

-- and so the premise on rollbacks is not met
pub stale_unmet : Each (MayFollow rules_two) (history_of machine_two world_two stale_calls) → ⊥
stale_unmet m =
    stale_not_promised (demand_3 (record { opening = two; calls = stale_calls; premise = record { fair = stale_fair; rollbacks = m } }))

-- ---- (d) "a checkpoint that its end took": one that no poll_checkpoint answered, though it passes 9's tests

-- on a ring of three slots, s is one element and t two. Both are polled and t is completed; no checkpoint is ever taken. The one handed in is
-- one slot back, inside of t
abbrev s : Item
s = item 2 (one_of 4096 16 false)

abbrev t : Item
t = item 1 (chain (8192 ∷ 12288 ∷ []) (16 ∷ 32 ∷ []) 1)

abbrev inside : Checkpoint
inside = checkpoint (at 2 true) (at 2 true) 0

abbrev forged_calls : List Given
forged_calls =
    polls_for 3
    ∷ takes (rollback_polls inside (2 ∷ [])) tt
    ∷ completes 1 48 refl refl
    ∷ polls_for 3
    ∷ polls_for 3
    ∷ submits t.chain refl refl
    ∷ submits_one 4096 16 false refl refl
    ∷ []

abbrev forged_rolled : History Checkpoint
forged_rolled =
    said.rolled inside (2 ∷ [])
    ∷ said.completed (done 1 48)
    ∷ said.polled t
    ∷ said.polled s
    ∷ said.submitted t
    ∷ said.submitted s
    ∷ []

-- the next poll gives a chain that was never published: the second element of t alone
abbrev half : Item
half = item 1 (one_of 12288 32 true)

abbrev forged : History Checkpoint
forged = said.polled half ∷ forged_rolled

pub forged_answers : history_of machine_three world_three forged_calls ≡ forged
unfolding computing
forged_answers = refl

-- the slots of the second of some chains
slots_second : List Item → ℕ
slots_second [] = 0
slots_second (i ∷ []) = 0
slots_second (i ∷ j ∷ is) = slots_of j.chain

pub forged_wrong : Right rules_three forged_rolled (said.polled half) → ⊥
unfolding pubs standing slots_second
forged_wrong r = omega (arith, ap slots_second r.1)

-- so this is not demand 3's
pub forged_not_promised : Demand3 machine_three rules_three world_three forged_calls → ⊥
forged_not_promised f = forged_wrong (subst (Each (Right rules_three)) forged_answers f.answers).1

-- each call was fair to make
pub forged_fair : FairCalls machine_three world_three forged_calls
forged_fair = (((((((tt, tt), tt), tt), tt), tt), tt), tt)

-- and so the premise on rollbacks is not met
pub forged_unmet : Each (MayFollow rules_three) (history_of machine_three world_three forged_calls) → ⊥
forged_unmet m =
    forged_not_promised (demand_3 (record { opening = three; calls = forged_calls; premise = record { fair = forged_fair; rollbacks = m } }))

-- the same with no completion at all: the poll after it looks inside of t, whose ID is still held, and is refused with 5
abbrev within : Checkpoint
within = checkpoint (at 2 true) (at 0 true) 2

abbrev inner_calls : List Given
inner_calls =
    polls_for 3
    ∷ takes (rollback_polls within (2 ∷ [])) tt
    ∷ polls_for 3
    ∷ polls_for 3
    ∷ submits t.chain refl refl
    ∷ submits_one 4096 16 false refl refl
    ∷ []

abbrev inner_rolled : History Checkpoint
inner_rolled = said.rolled within (2 ∷ []) ∷ said.polled t ∷ said.polled s ∷ said.submitted t ∷ said.submitted s ∷ []

abbrev inner : History Checkpoint
inner = said.unchanged (said.refused said.poll true 5) ∷ inner_rolled

pub inner_answers : history_of machine_three world_three inner_calls ≡ inner
unfolding computing
inner_answers = refl

pub inner_wrong : Right rules_three inner_rolled (said.unchanged (said.refused said.poll true 5)) → ⊥
inner_wrong = not_five

-- so this is not demand 3's
pub inner_not_promised : Demand3 machine_three rules_three world_three inner_calls → ⊥
inner_not_promised f = inner_wrong (subst (Each (Right rules_three)) inner_answers f.answers).1

-- each call was fair to make
pub inner_fair : FairCalls machine_three world_three inner_calls
inner_fair = ((((((tt, tt), tt), tt), tt), tt), tt)

-- and so the premise on rollbacks is not met
pub inner_unmet : Each (MayFollow rules_three) (history_of machine_three world_three inner_calls) → ⊥
inner_unmet m =
    inner_not_promised (demand_3 (record { opening = three; calls = inner_calls; premise = record { fair = inner_fair; rollbacks = m } }))
