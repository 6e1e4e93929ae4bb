-- What is read off the answers of the packed ring's calls, and the worlds after them, written short.
-- Assumes nothing.
use Prim.Native.Nat.{ℕ, ◌<◌}
use mathlib.Core.Path.{◌≡◌, refl, sym}
use mathlib.Core.Bool.{Bool, true, false, not, ◌&&◌, ◌||◌}
use mathlib.Core.List.{List, []}
use lib.Dec.{eqb}
use lib.ListN.{length}
use borrow.Author.Tests.{lt-ltb, le-ltb, lt-leb, le-leb}
use Rattle.base.proofs.Tests.{by_lt}
use Rattle.chain.specs.Chain.{bad_slices}
use Rattle.base.specs.Answer.{Answer, refused}
use Rattle.producer.specs.Outcome as made
use Rattle.consumer.specs.declared.Checkpoint.{Checkpoint}
use Rattle.consumer.specs.Outcome as taken_outcome
use Rattle.consumer.specs.Poll.{Taken}
use Rattle.queue.specs.History.{Chain, Request, Event}
use Rattle.queue.specs.History as said
use Rattle.queue.specs.Says.{says}
use Rattle.queue.proofs.Says.{says_refused}
use Rattle.packed.specs.Calls.{asks, valid_chain, valid_outputs, valid_checkpoint}
use Rattle.packed.specs.Machine.{World, checkpoint_in, after_producer, after_consumer, made_all, made_changed}
use Rattle.packed.specs.Machine.{taken_chain, taken_all, taken_back, taken_changed}

-- ---- the event of each kind of call, by its answer

abbrev pub read : Request Checkpoint → Answer → Event Checkpoint
read r a = says checkpoint_in r a [] []

abbrev pub says_submitted : Chain → Answer → Event Checkpoint
says_submitted c = read (asks (said.submit c) (valid_chain c))

abbrev pub says_reclaimed : Answer → Event Checkpoint
says_reclaimed = read (asks said.reclaim true)

abbrev pub says_next : Answer → Event Checkpoint
says_next = read (asks said.next_id true)

abbrev pub says_quiet : Bool → Answer → Event Checkpoint
says_quiet v = read (asks said.other v)

abbrev pub says_polled : ℕ → List ℕ → List ℕ → Taken → Event Checkpoint
says_polled size outs louts t = says checkpoint_in (asks said.poll (valid_outputs size outs louts)) t.answer t.addrs t.lens

abbrev pub says_completed : ℕ → ℕ → Answer → Event Checkpoint
says_completed id len = read (asks (said.complete (record { id = id; len = len })) true)

abbrev pub says_peeked : Answer → Event Checkpoint
says_peeked = read (asks said.peek true)

abbrev pub says_marked : Answer → Event Checkpoint
says_marked = read (asks said.checkpoint true)

abbrev pub says_rolled : ℕ → Checkpoint → List ℕ → Answer → Event Checkpoint
says_rolled size c js = read (asks (said.rollback c js) (valid_checkpoint size c))

-- a refusal
pub read_refused :
    (a : Answer) (n : ℕ) (r : Request Checkpoint) → a ≡ refused n → 0 < n → read r a ≡ said.unchanged (said.refused r.kind r.valid n)
read_refused a n r e h = says_refused checkpoint_in r a n [] [] e h

-- ---- the world after each kind of outcome

abbrev pub after_made : World → made.Outcome → World
after_made w o = after_producer w (made_all o).side o.ring

abbrev pub after_used_turn : World → made.Changed → World
after_used_turn w o = after_producer w (made_changed w.producer o).side o.ring

abbrev pub after_taken : World → Taken → World
after_taken w t = after_consumer w (taken_chain w.ring t).side w.ring

abbrev pub after_completed : World → taken_outcome.Outcome → World
after_completed w o = after_consumer w (taken_all o).side o.ring

abbrev pub after_rolled : World → taken_outcome.Rolled → World
after_rolled w o = after_consumer w (taken_back w.ring o).side w.ring

abbrev pub after_avail_turn : World → taken_outcome.Changed → World
after_avail_turn w o = after_consumer w (taken_changed w.consumer o).side o.ring

-- ---- tests

-- a chain is valid exactly if no submission of it is refused for its slices
pub valid_is : (c : Chain) → valid_chain c ≡ not (bad_slices (length c.addrs) (length c.lens) c.readable)
unfolding bad_slices
valid_is c =
    by_lt (length c.addrs) c.readable
    (λ h. simp (lt-leb c.readable (length c.addrs) h, lt-ltb (length c.addrs) c.readable h) (both_false (eqb (length c.addrs) (length c.lens))))
    (λ h. simp (le-leb c.readable (length c.addrs) h, le-ltb (length c.addrs) c.readable h) (both_same (eqb (length c.addrs) (length c.lens))))
  where
    both_false : (b : Bool) → b && false ≡ not (not b || true)
    both_false true = refl
    both_false false = refl

    both_same : (b : Bool) → b && true ≡ not (not b || false)
    both_same true = refl
    both_same false = refl

pub and_true : (a b : Bool) → a ≡ true → b ≡ true → a && b ≡ true
and_true a b p q = simp (p, q)

pub and_false : (a b : Bool) → not a || not b ≡ true → a && b ≡ false
and_false true true h = sym h
and_false true false h = refl
and_false false b h = refl
