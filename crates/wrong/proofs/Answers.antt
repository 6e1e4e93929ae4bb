-- Wrong answers of single calls: a peek that always says no, a rollback that is never accepted, a poll that takes outputs that are too short, a completion
-- with another length or another chain's ID, a poll that hands out its elements in another order or claims one too many.
-- Assumes nothing.
use Prim.Native.Nat.{ℕ, ◌+◌, ◌-◌}
use mathlib.Core.Path.{◌≡◌, refl, sym, ap, subst}
use mathlib.Core.Logic.{⊎_elim}
use mathlib.Core.Bool.{true, false, false≢true}
use mathlib.Core.List.{List, [], ◌∷◌}
use native.Mathlib.Omega.{arith}
use lib.ListN.{length, get_or, take}
use Rattle.base.specs.Answer as answer
use Rattle.cursor.specs.Cursor.{at}
use Rattle.consumer.specs.declared.Checkpoint.{Checkpoint}
use Rattle.queue.specs.History.{Item, Done, Event, History, slots_in, pubs, polls, comps, reclaims, standing, waiting}
use Rattle.queue.specs.History as said
use Rattle.queue.specs.Promise.{plain, UndoesIntact, Each, MayFollow, Right}
use Rattle.queue.specs.Machine.{history_of}
use Rattle.packed.specs.Calls.{ConsumerCall, poll_available, submit_used, submit_used_with_notify, peek_available, poll_checkpoint, rollback_polls}
use Rattle.packed.specs.Calls.{consumer_asked, turn_avail, enable_avail_desc, enable_avail_for_next, consumer_reset}
use Rattle.packed.specs.Machine.{Ring, ConsumerSide, ConsumerLeaves, packed, machine_of}
use Rattle.packed.specs.Opening.{Opening, opened_world, Demand}
use Rattle.history.proofs.Ends.{zeros, two_accepted, over_zeros, nothing_asked, takes, item, done, checkpoint, polls_for}
use Rattle.wrong.proofs.Changed.{is_poll, is_peek, is_rollback, only_taken, consumer_by, with_consumer}
use Rattle.wrong.proofs.Calls.{a, b, both, submit_a, submit_b, submit_both, poll, complete_1, reclaim, peek, computing, ordinary_fair, Broken}
use Rattle.wrong.proofs.Calls.{broken}

-- ---- THE WRONG RING: peek_available always says no

abbrev pub peeks_no : Ring
peeks_no = with_consumer is_peek (λ c s r o. only_taken s r (answer.done (0 ∷ [])))

abbrev waits : History Checkpoint
waits = said.submitted (item 1 a) ∷ []

abbrev no_peek : Event Checkpoint
no_peek = said.unchanged (said.peeked false)

one_waits : Right (plain 2) waits no_peek → ⊥
unfolding pubs standing
one_waits f = ⊎_elim (λ z. false≢true z.0) (λ z. omega (arith, ap (λ (l : List Item). length l) z.1)) f

pub peeks_no_broken : Broken peeks_no
unfolding computing
peeks_no_broken = broken peeks_no two_accepted peek (submit_a ∷ []) waits no_peek tt tt tt tt refl refl one_waits

-- ---- THE WRONG RING: rollback_polls answers 9 to everything

abbrev pub never_rolls : Ring
never_rolls = with_consumer is_rollback (λ c s r o. only_taken s r (answer.refused 9))

-- a checkpoint is taken, a chain polled, and the rollback that names it is refused
abbrev taken_at : Checkpoint
taken_at = checkpoint (at 0 true) (at 0 true) 0

abbrev one_polled : History Checkpoint
one_polled = said.polled (item 1 a) ∷ said.marked taken_at ∷ said.submitted (item 1 a) ∷ []

abbrev not_undone : Event Checkpoint
not_undone = said.unchanged (said.refused (said.rollback taken_at (1 ∷ [])) true 9)

undoes : UndoesIntact one_polled taken_at (1 ∷ [])
unfolding comps polls standing
undoes =
    record {
      undoes = record {
        since = said.polled (item 1 a) ∷ [];
        before = said.submitted (item 1 a) ∷ [];
        took = refl;
        none_completed = refl;
        names = λ y. refl;
      };
      stand = refl;
    }

pub never_rolls_broken : Broken never_rolls
unfolding computing
never_rolls_broken =
    broken never_rolls two_accepted (takes (rollback_polls taken_at (1 ∷ [])) tt) (poll ∷ takes poll_checkpoint tt ∷ submit_a ∷ []) one_polled not_undone
    tt tt tt tt refl refl (λ f. f.0 undoes)

-- ---- THE WRONG RING: a completion with another length, and one of another chain's ID: "with their own ID and length"

-- a completion is the real one of another ID and length
abbrev completing : (ℕ → ℕ) → (ℕ → ℕ) → ConsumerCall → ConsumerSide → List ℕ → ConsumerLeaves
completing i l (poll_available x y) s r = packed.consumer (poll_available x y) s r
completing i l (submit_used id len) s r = packed.consumer (submit_used (i id) (l len)) s r
completing i l (submit_used_with_notify id len) s r = packed.consumer (submit_used_with_notify (i id) (l len)) s r
completing i l peek_available s r = packed.consumer peek_available s r
completing i l poll_checkpoint s r = packed.consumer poll_checkpoint s r
completing i l (rollback_polls c js) s r = packed.consumer (rollback_polls c js) s r
completing i l (consumer_asked q) s r = packed.consumer (consumer_asked q) s r
completing i l (turn_avail f) s r = packed.consumer (turn_avail f) s r
completing i l (enable_avail_desc o w) s r = packed.consumer (enable_avail_desc o w) s r
completing i l enable_avail_for_next s r = packed.consumer enable_avail_for_next s r
completing i l consumer_reset s r = packed.consumer consumer_reset s r

abbrev pub longer : Ring
longer = consumer_by (completing (λ id. id) (λ len. len + 1))

abbrev pub swaps : Ring
swaps = consumer_by (completing (λ id. 1 - id) (λ len. len))

-- two chains are polled, with IDs 1 and 0; ID 1 is completed with length 5, and what poll_used returns is of length 6, or of ID 0
abbrev one_done : History Checkpoint
one_done =
    said.completed (done 1 5) ∷ said.polled (item 0 b) ∷ said.polled (item 1 a) ∷ said.submitted (item 0 b) ∷ said.submitted (item 1 a) ∷ []

-- the first completion of a list
abbrev first_id : List Done → ℕ
first_id [] = 0
first_id (d ∷ l) = d.id

abbrev first_len : List Done → ℕ
first_len [] = 0
first_len (d ∷ l) = d.len

other_length : Right (plain 2) one_done (said.reclaimed (done 1 6)) → ⊥
unfolding comps reclaims
other_length f = omega (arith, ap first_len f.1)

other_chain : Right (plain 2) one_done (said.reclaimed (done 0 5)) → ⊥
unfolding comps reclaims
other_chain f = omega (arith, ap first_id f.1)

pub longer_broken : Broken longer
unfolding computing
longer_broken =
    broken longer two_accepted reclaim (complete_1 ∷ poll ∷ poll ∷ submit_b ∷ submit_a ∷ []) one_done (said.reclaimed (done 1 6))
    tt tt tt tt refl refl other_length

pub swaps_broken : Broken swaps
unfolding computing
swaps_broken =
    broken swaps two_accepted reclaim (complete_1 ∷ poll ∷ poll ∷ submit_b ∷ submit_a ∷ []) one_done (said.reclaimed (done 0 5))
    tt tt tt tt refl refl other_chain

-- ---- THE WRONG RING: a poll hands out its addresses in another order: "element for element"

-- the first two of a list exchanged
abbrev exchanged : List ℕ → List ℕ
exchanged [] = []
exchanged (x ∷ []) = x ∷ []
exchanged (x ∷ y ∷ l) = y ∷ x ∷ l

abbrev pub reorders : Ring
reorders =
    with_consumer is_poll (λ c s r o. record { answer = o.answer; side = o.side; ring = o.ring; addrs = exchanged o.addrs; lens = o.lens })

abbrev both_wait : History Checkpoint
both_wait = said.submitted (item 1 both) ∷ []

abbrev turned : Event Checkpoint
turned = said.polled (item 1 (record { addrs = 8192 ∷ 4096 ∷ []; lens = 16 ∷ 32 ∷ []; readable = 1 }))

-- the first address of the first chain of a list
abbrev first_addr : List Item → ℕ
first_addr [] = 0
first_addr (x ∷ l) = get_or x.chain.addrs 0 0

not_its_elements : Right (plain 2) both_wait turned → ⊥
unfolding pubs standing
not_its_elements f = omega (arith, ap first_addr f.1)

pub reorders_broken : Broken reorders
unfolding computing
reorders_broken = broken reorders two_accepted poll (submit_both ∷ []) both_wait turned tt tt tt tt refl refl not_its_elements

-- ---- THE WRONG RING: a poll that gives a chain claims one element more than it has: "element for element"

abbrev pub overcounts : Ring
overcounts =
    with_consumer is_poll (λ c s r o.
    record {
      answer = answer.valued (get_or o.answer.values 0 0 ∷ (get_or o.answer.values 1 0 + 1) ∷ get_or o.answer.values 2 0 ∷ []) o.answer;
      side = o.side;
      ring = o.ring;
      addrs = o.addrs;
      lens = o.lens;
    })

-- both outputs are full, so what is claimed is in neither
abbrev claimed : Event Checkpoint
claimed = said.polled (item 1 (record { addrs = 4096 ∷ 8192 ∷ 0 ∷ []; lens = 16 ∷ 32 ∷ 0 ∷ []; readable = 1 }))

one_too_many : Right (plain 2) both_wait claimed → ⊥
unfolding pubs standing
one_too_many f = omega (arith, ap (λ (l : List Item). slots_in (take 1 l)) f.1)

pub overcounts_broken : Broken overcounts
unfolding computing
overcounts_broken = broken overcounts two_accepted poll (submit_both ∷ []) both_wait claimed tt tt tt tt refl refl one_too_many

-- ---- THE WRONG RING: a poll takes outputs that are shorter than the ring, as if they had two entries: a call that is not valid is accepted

abbrev pub takes_short : Ring
takes_short = with_consumer is_poll (λ c s r o. packed.consumer (poll_available (zeros 2) (zeros 2)) s r)

abbrev opened : Opening takes_short
opened = over_zeros takes_short 2 two_accepted

-- a chain is submitted, and a poll with outputs of one entry gives it
so_far : history_of (machine_of takes_short 2) (opened_world takes_short opened) (polls_for 1 ∷ submit_a ∷ [])
    ≡ said.polled (item 1 a) ∷ said.submitted (item 1 a) ∷ []
unfolding computing
so_far = refl

pub takes_short_broken : Demand takes_short → ⊥
unfolding computing
takes_short_broken d =
    let k =
    (d (record {
      opening = opened;
      calls = polls_for 1 ∷ submit_a ∷ [];
      premise = record {
        fair = ordinary_fair takes_short 2 (opened_world takes_short opened) (polls_for 1 ∷ submit_a ∷ []) tt;
        rollbacks = subst (Each (MayFollow (plain 2))) (sym so_far) (nothing_asked (plain 2) (said.polled (item 1 a) ∷ said.submitted (item 1 a) ∷ []) tt);
      };
    })).kinds [] (submit_a ∷ []) (polls_for 1) refl in
    false≢true k.1
