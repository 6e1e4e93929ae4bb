-- Demand 3 applied at points of the history of Run.antt, each sentence where its premises hold: here those that say what an answer shows of what
-- stood before it. The answer is taken from Run.antt `answers`, and what it shows is not computed. What tells an answer: Applied.antt.
-- Assumes nothing.
use Prim.Native.Nat.{ℕ, zero, suc, ◌+◌, ◌-◌, ◌≤◌, ◌<◌}
use mathlib.Core.Path.{◌≡◌, refl, sym, ap, ◌∙◌, subst}
use mathlib.Core.Logic.{◌⊎◌, inl, inr}
use mathlib.Core.List.{List, [], ◌∷◌, ◌++◌}
use mathlib.Core.Bool.{Bool, true}
use native.Mathlib.Omega.{arith}
use lib.Dec.{T}
use lib.ListN.{length, take, drop}
use Rattle.consumer.specs.declared.Checkpoint.{Checkpoint}
use Rattle.queue.specs.History.{Item, Event, History, Poll, slots_in, items, ids, times}
use Rattle.queue.specs.History.{pubs, polls, comps, reclaims, standing, held, finished, out, waiting}
use Rattle.queue.specs.History as said
use Rattle.queue.specs.Promise.{Unlike, Fine, Right, for_handed}
use Rattle.queue.specs.Sentences.{At, Stands, Oldest, ItsOwn, ItsOwnBefore, RolledBack}
use Rattle.queue.specs.Machine.{world_of, number_of}
use Rattle.queue.proofs.Machine.{each_at}
use Rattle.queue.proofs.Promises as shown
use Rattle.packed.specs.Calls.{Given}
use Rattle.history.proofs.Ends.{world_three, strays, polls_for, done}
use Rattle.history.proofs.Run.{a, b, c, d, e, f, g, h, i, c2, machine_three, rules_three, calls, answers, promised, undoes_two}
use Rattle.history.proofs.Run.{poll_used_of_another, poll_over_others, open_producer, open_consumer, reset_producer, reset_consumer}
use Rattle.history.proofs.Points.{until, later, calls_to, world, demand, answered, spoken}

-- ---- polls

-- `oldest`: the poll after the rollback gave a, publication 0, of which no poll stood
pub again_the_oldest : Oldest (until 10) a 0
unfolding pubs
again_the_oldest = promised.oldest a (later 11) (until 10) answers

-- `oldest`: g and h were both undone; the next poll gave g, publication 6, of which no poll stood, and of each of the six older ones a poll did
pub g_again : Oldest (until 57) g 6
unfolding pubs
g_again = promised.oldest g (later 58) (until 57) answers

-- `blocks`: when the fourth poll blocked, of each of the five publications a poll stood
pub all_stand : (j : ℕ) → j < 5 → Stands (until 33) j
unfolding pubs
all_stand = (promised.blocks true 3 (later 34) (until 33) answers tt).1

-- `answers`: so the polls that stood gave all five chains, in that order
pub none_waits : a ∷ b ∷ c ∷ d ∷ e ∷ [] ≡ items (standing (until 33))
unfolding pubs
none_waits = go (each_at (Right rules_three) _ (later 34) (until 33) (said.unchanged (said.refused said.poll true 3)) answers promised.answers).1
  where
    go : {A : Type 0} → (⊥ × A) ⊎ ((◌≡◌ {A = Bool} true true) × ((◌≡◌ {A = ℕ} 3 3) × (a ∷ b ∷ c ∷ d ∷ e ∷ [] ≡ items (standing (until 33)))))
        → a ∷ b ∷ c ∷ d ∷ e ∷ [] ≡ items (standing (until 33))
    go (inl y) = absurd y.0
    go (inr y) = y.1.1

-- `as_submitted`: the poll of f gave one of the published chains, readables first, as many lengths as addresses
pub as_published : (p : ℕ) × (At (pubs (until 47)) p f × Fine f.chain)
as_published = shown.as_submitted machine_three rules_three world_three calls promised f (later 48) (until 47) answers

-- ---- completions

-- `returns_block`: poll_used blocked, so what it had returned is what was completed
pub none_owed : done 1 64 ∷ done 2 32 ∷ [] ≡ reclaims (until 24)
unfolding comps
none_owed = (promised.returns_block true 3 (later 25) (until 24) answers tt).1

owns : (j : ℕ) → j < length (reclaims (until 24)) → (p : ℕ) × (p < length (pubs (until 24))) × ItsOwn (until 24) j p
owns = subst (λ t. (j : ℕ) → j < length (reclaims t) → (p : ℕ) × (p < length (pubs t)) × ItsOwn t j p) (spoken 24) (demand 24).own

-- `own`: of two completions that came back the first is of the second submission, b, and the second of the first, a
pub first_is_of_b : ItsOwn (until 24) 0 1
unfolding pubs reclaims finished held standing polls
first_is_of_b = let k = owns 0 (omega arith) in go k.0 k.1 k.2
  where
    go : (p : ℕ) → p < 2 → ItsOwn (until 24) 0 p → ItsOwn (until 24) 0 1
    go zero l o = absurd (omega (arith, ap (λ (x : Poll). x.no) (o.completed ∙ sym o.stands)))
    go (suc zero) l o = o
    go (suc (suc p)) l o = absurd (omega arith)

pub second_is_of_a : ItsOwn (until 24) 1 0
unfolding pubs reclaims finished held standing polls
second_is_of_a = let k = owns 1 (omega arith) in go k.0 k.1 k.2
  where
    go : (p : ℕ) → p < 2 → ItsOwn (until 24) 1 p → ItsOwn (until 24) 1 0
    go zero l o = o
    go (suc zero) l o = absurd (omega (arith, ap (λ (x : Poll). x.no) (o.completed ∙ sym o.stands)))
    go (suc (suc p)) l o = absurd (omega arith)

-- `once`: no other completion is of b
pub no_other : (j : ℕ) → ItsOwn (until 24) j 1 → j ≡ 0
no_other j o = subst (λ t. (i j p : ℕ) → ItsOwn t i p → ItsOwn t j p → i ≡ j) (spoken 24) (demand 24).once j 0 1 o first_is_of_b

-- `own_before`: when poll_used returned b's completion, b was submitted, a poll of it stood, and it was completed
pub before_it_came_back : ItsOwnBefore (until 22) (done 1 64) 1
unfolding comps reclaims finished held standing polls pubs
before_it_came_back = let k = promised.own_before (done 1 64) (later 23) (until 22) answers in go k.0 k.1
  where
    go : (p : ℕ) → ItsOwnBefore (until 22) (done 1 64) p → ItsOwnBefore (until 22) (done 1 64) 1
    go zero o = absurd (omega (arith, ap (λ (x : Poll). x.no) (o.completed ∙ sym o.stands)))
    go (suc zero) o = o
    go (suc (suc p)) o = absurd o.published

-- `frees_its_own`: a's completion, which came back as the second, freed the two slots of a
pub frees_two : slots_in (out (until 23)) ≡ slots_in (out (until 24)) + 2
unfolding pubs reclaims
frees_two = shown.frees_its_own machine_three rules_three world_three calls promised (done 2 32) (later 24) (until 23) answers 0 second_is_of_a a refl

-- ---- submissions and IDs

abbrev owed : History Checkpoint → List Item
owed t = items (drop (length (reclaims t)) (finished t))

-- `new_id`: i's ID is that of no chain that is completed and not yet returned, nor of one that is held, nor of one that waits
pub new_id_of_i : Unlike i.id (owed (until 66)) × Unlike i.id (items (held (until 66))) × Unlike i.id (waiting (until 66))
new_id_of_i = shown.new_id machine_three rules_three world_three calls promised i (later 67) (until 66) answers

-- which are g, h and none
these : (owed (until 66) ≡ g ∷ []) × (items (held (until 66)) ≡ h ∷ []) × (waiting (until 66) ≡ [])
unfolding pubs reclaims finished held standing polls
these = (refl, refl, refl)

-- `submit_fits`: f has three elements and was accepted, so all three slots were free
pub all_were_free : slots_in (out (until 46)) ≡ 0
all_were_free = omega (arith, shown.submit_fits machine_three rules_three world_three calls promised f (later 47) (until 46) answers)

-- `never_over`: with c, d and e out, no more slots are out than three, nor more chains than slots
pub three_out : (slots_in (out (until 28)) ≤ 3) × (length (c ∷ d ∷ e ∷ []) ≤ slots_in (out (until 28)))
unfolding out
three_out = shown.never_over machine_three rules_three world_three calls promised (later 28) (until 28) answers

-- ---- rollbacks

-- the polls since c2's checkpoint, which was taken after seven polls, are g's and h's (Run.antt `undoes_two`)
undone : RolledBack (until 56) c2 (2 ∷ 1 ∷ []) undoes_two.undoes
undone = (promised.rollbacks c2 (2 ∷ 1 ∷ []) (later 57) (until 56) answers).1 undoes_two.undoes

-- `rollbacks`: the rollback that names h and g undid these two, and they wait again, the older one first
pub wait_again : waiting (until 57) ≡ g ∷ h ∷ []
unfolding undoes_two polls pubs standing
wait_again = undone.wait_again

-- no other poll was undone: after it the polls stand that stood at its checkpoint, and none is held
pub stand_again : standing (until 57) ≡ standing (until 53)
unfolding undoes_two polls standing
stand_again = undone.stand

pub none_held_again : held (until 57) ≡ []
unfolding undoes_two polls held standing
none_held_again = undone.still_held

-- ---- "Calls refused for bad records or buffers aren't counted"

latest : History Checkpoint → Event Checkpoint
latest [] = said.unchanged said.quiet
latest (v ∷ t) = v

-- `left_alone`: a call that was answered 6, 7 or 8 left all that it was lent
left :
    (k : ℕ) (x : Given) → calls_to (suc k) ≡ x ∷ calls_to k → calls ≡ take (79 - suc k) calls ++ (x ∷ calls_to k)
    → T (for_handed (number_of (latest (until (suc k))))) → machine_three.exit (world k) x ≡ machine_three.entry (world k) x
unfolding latest
left k x here there t =
    promised.left_alone (take (79 - suc k) calls) (calls_to k) x there
    (subst (λ v. T (for_handed (number_of v))) (sym (ap latest (sym (answered k x here) ∙ spoken (suc k)))) t)

-- the poll with outputs of two entries: the outputs, the consumer's record and table, and the bytes
pub short_outputs_left : machine_three.exit (world 9) (polls_for 2) ≡ machine_three.entry (world 9) (polls_for 2)
unfolding latest
short_outputs_left = left 9 (polls_for 2) refl refl tt

-- `unharmed`: each of the six foreign calls was refused, and both ends and the bytes are as they were
harms_none :
    (k : ℕ) (x : Given) → calls_to (suc k) ≡ x ∷ calls_to k → calls ≡ take (79 - suc k) calls ++ (x ∷ calls_to k)
    → (machine_three.request x).kind ≡ said.foreign → (number_of (latest (until (suc k))) ≡ 0 → ⊥) → world (suc k) ≡ world k
unfolding latest world_of
harms_none k x here there f t =
    ap (world_of machine_three world_three) here
    ∙ promised.unharmed (take (79 - suc k) calls) (calls_to k) x there f
    (λ z. t (ap (λ (v : History Checkpoint). number_of (latest v)) (sym (sym (answered k x here) ∙ spoken (suc k))) ∙ z))

pub another_record_left : world 35 ≡ world 34
unfolding latest
another_record_left = harms_none 34 (strays poll_used_of_another) refl refl refl (λ z. omega (arith, z))

pub other_bytes_left : world 36 ≡ world 35
unfolding latest
other_bytes_left = harms_none 35 (strays poll_over_others) refl refl refl (λ z. omega (arith, z))

pub new_producer_left : world 37 ≡ world 36
unfolding latest
new_producer_left = harms_none 36 (strays open_producer) refl refl refl (λ z. omega (arith, z))

pub new_consumer_left : world 38 ≡ world 37
unfolding latest
new_consumer_left = harms_none 37 (strays open_consumer) refl refl refl (λ z. omega (arith, z))

pub producer_reset_left : world 39 ≡ world 38
unfolding latest
producer_reset_left = harms_none 38 (strays reset_producer) refl refl refl (λ z. omega (arith, z))

pub consumer_reset_left : world 40 ≡ world 39
unfolding latest
consumer_reset_left = harms_none 39 (strays reset_consumer) refl refl refl (λ z. omega (arith, z))
