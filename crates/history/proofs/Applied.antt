-- Demand 3 applied at points of the history of Run.antt, each sentence where its premises hold: here those that tell the answer of a call from
-- what was said before it. `answer k x`, what the call x is answered after the first k calls, is not computed here (Points.antt). What an
-- answer shows of what stood before it: Shown.antt.
-- Assumes nothing.
use Prim.Native.Nat.{ℕ, suc, ◌+◌, ◌≤◌, ◌<◌}
use mathlib.Core.Path.{◌≡◌, refl, sym, ap, ◌∙◌, subst}
use mathlib.Core.Logic.{◌⊎◌, inl, inr}
use mathlib.Core.List.{List, [], ◌∷◌}
use mathlib.Core.Bool.{Bool, true, false, false≢true}
use native.Mathlib.Omega.{arith}
use lib.Dec.{T}
use lib.ListN.{length}
use Rattle.cursor.specs.Cursor.{at}
use Rattle.chain.specs.Chain.{bad_slices}
use Rattle.consumer.specs.declared.Checkpoint.{Checkpoint}
use Rattle.queue.specs.History.{Chain, Done, slots_of, pubs, comps, reclaims, standing, held, out, promised, waiting}
use Rattle.queue.specs.History as said
use Rattle.queue.specs.Promise.{Has, for_handed}
use Rattle.queue.specs.Sentences.{is_poll, is_reclaim}
use Rattle.queue.proofs.Promises as shown
use Rattle.packed.specs.Calls.{ConsumerCall, Given, one_of, submit_available, submit_one, poll_used, next_id, should_notify_since}
use Rattle.packed.specs.Calls.{poll_available, submit_used, submit_used_with_notify, peek_available, poll_checkpoint, rollback_polls, by_producer, by_consumer}
use Rattle.history.proofs.Ends.{zeros, world_three, typed, ids_fit, done, chain, checkpoint}
use Rattle.history.proofs.Ends.{makes, takes, submits, submits_one, completes, polls_for}
use Rattle.history.proofs.Run.{a, c, d, e, i, c2, machine_three, rules_three, undoes_two}
use Rattle.history.proofs.Points.{until, calls_to, demand, answer, answered, not_so, reads, tells, counts, of_kind, shows}

-- a call of a kind that is never refused
never : (n : ℕ) → (T (for_handed n) × ⊥) ⊎ ((◌≡◌ {A = Bool} true true) × ⊥) → ⊥
never n (inl y) = y.1
never n (inr y) = y.1

-- ---- polls

abbrev polls_three : ConsumerCall
polls_three = poll_available (zeros 3) (zeros 3)

-- `valid_counts`: outputs of three entries are long enough, so a poll with them counts, whatever it is answered
pub poll_counts : (k : ℕ) → calls_to (suc k) ≡ polls_for 3 ∷ calls_to k → T (is_poll (answer k (polls_for 3)))
poll_counts k here =
    tells k (by_consumer polls_three) tt here (λ z. subst (λ v. T (is_poll v)) (sym z) tt)
    (λ n z. subst (λ v. T (is_poll v)) (sym z) (not_so (for_handed n) (counts k (by_consumer polls_three) tt here refl n z)))

-- `arrives`: c, d and e wait; two polls later, the third poll gives e
pub third_poll : answer 32 (polls_for 3) ≡ said.polled e
unfolding pubs standing
third_poll =
    (demand 33).arrives (c ∷ d ∷ []) [] e [] (said.polled d ∷ said.polled c ∷ []) (until 30) (answer 32 (polls_for 3))
    (answered 32 (polls_for 3) refl) refl (tt, (tt, tt)) refl (poll_counts 32 refl)

-- `arrives`: a's poll was rolled back, and a waits with none ahead; the poll with short outputs is not counted, and the next gives a
pub not_counted : answer 10 (polls_for 3) ≡ said.polled a
unfolding pubs standing
not_counted =
    (demand 11).arrives [] [] a [] (said.unchanged (said.refused said.poll false 8) ∷ []) (until 9) (answer 10 (polls_for 3))
    (answered 10 (polls_for 3) refl) refl (tt, tt) refl (poll_counts 10 refl)

-- `oldest`, `blocks`: nothing was published, so the first poll gives no chain, and its refusal is 3
pub first_poll : answer 2 (polls_for 3) ≡ said.unchanged (said.refused said.poll true 3)
unfolding pubs
first_poll =
    tells 2 (by_consumer polls_three) tt refl
    (λ z. absurd ((demand 3).oldest _ [] (until 2) (reads 2 (by_consumer polls_three) tt refl _ z)).0)
    (λ n z. z ∙ ap (λ (m : ℕ). said.unchanged (said.refused said.poll true m))
    ((demand 3).blocks true n [] (until 2) (reads 2 (by_consumer polls_three) tt refl _ z)
    (not_so (for_handed n) (counts 2 (by_consumer polls_three) tt refl refl n z))).0)

-- `peeks`: nothing is published, and peek_available says no; a waits, and it says yes
abbrev peek : Given
peek = takes peek_available tt

pub peeks_no : answer 1 peek ≡ said.unchanged (said.peeked false)
unfolding pubs standing
peeks_no =
    tells 1 (by_consumer peek_available) tt refl (λ z. no _ z (shown.peeks machine_three rules_three world_three (calls_to 2) (demand 2) _ [] (until 1)
    (reads 1 (by_consumer peek_available) tt refl _ z)))
    (λ n z. absurd (never n (shows 1 (by_consumer peek_available) tt refl _ z).1))
  where
    no : (v : Bool) → answer 1 peek ≡ said.unchanged (said.peeked v)
        → ((v ≡ true) × (0 < length (waiting (until 1)))) ⊎ ((v ≡ false) × (waiting (until 1) ≡ []))
        → answer 1 peek ≡ said.unchanged (said.peeked false)
    no v z (inl y) = absurd (omega (arith, y.1))
    no v z (inr y) = z ∙ ap (λ (w : Bool). said.unchanged (said.peeked w)) y.0

pub peeks_yes : answer 5 peek ≡ said.unchanged (said.peeked true)
unfolding pubs standing
peeks_yes =
    tells 5 (by_consumer peek_available) tt refl (λ z. yes _ z (shown.peeks machine_three rules_three world_three (calls_to 6) (demand 6) _ [] (until 5)
    (reads 5 (by_consumer peek_available) tt refl _ z)))
    (λ n z. absurd (never n (shows 5 (by_consumer peek_available) tt refl _ z).1))
  where
    yes : (v : Bool) → answer 5 peek ≡ said.unchanged (said.peeked v)
        → ((v ≡ true) × (0 < length (waiting (until 5)))) ⊎ ((v ≡ false) × (waiting (until 5) ≡ []))
        → answer 5 peek ≡ said.unchanged (said.peeked true)
    yes v z (inl y) = z ∙ ap (λ (w : Bool). said.unchanged (said.peeked w)) y.0
    yes v z (inr y) = absurd (omega (arith, ap length y.1))

-- ---- completions

-- `held_accepted`: a and b are held, and the completion of ID 1, which is b's, is accepted
abbrev complete_b : Given
complete_b = takes (submit_used_with_notify 1 64) (ids_fit 1 64 refl refl)

pub held_is_accepted : answer 19 complete_b ≡ said.completed (done 1 64)
unfolding held
held_is_accepted =
    tells 19 (by_consumer (submit_used_with_notify 1 64)) (ids_fit 1 64 refl refl) refl (λ z. z)
    (λ n z. absurd (shown.held_accepted machine_three rules_three world_three (calls_to 20) (demand 20) (done 1 64) true n [] (until 19)
    (reads 19 (by_consumer (submit_used_with_notify 1 64)) (ids_fit 1 64 refl refl) refl _ z)
    (counts 19 (by_consumer (submit_used_with_notify 1 64)) (ids_fit 1 64 refl refl) refl refl n z) (inr (inl refl))))

-- `only_held`, `answers`: ID 0 is not held, and its completion is refused with 5
pub other_is_not : answer 17 (completes 0 5 refl refl) ≡ said.unchanged (said.refused (said.complete (done 0 5)) true 5)
unfolding held
other_is_not =
    tells 17 (by_consumer (submit_used 0 5)) (ids_fit 0 5 refl refl) refl
    (λ z. absurd (none (shown.only_held machine_three rules_three world_three (calls_to 18) (demand 18) (done 0 5) [] (until 17)
    (reads 17 (by_consumer (submit_used 0 5)) (ids_fit 0 5 refl refl) refl _ z))))
    (λ n z. five n z (shows 17 (by_consumer (submit_used 0 5)) (ids_fit 0 5 refl refl) refl _ z).1)
  where
    none : Has 0 (held (until 17)) → ⊥
    none (inl y) = omega (arith, y)
    none (inr (inl y)) = omega (arith, y)
    none (inr (inr y)) = y

    five : (n : ℕ) → answer 17 (completes 0 5 refl refl) ≡ said.unchanged (said.refused (said.complete (done 0 5)) true n)
        → (T (for_handed n) × ⊥) ⊎ ((◌≡◌ {A = Bool} true true) × ((n ≡ 5) × (Has 0 (held (until 17)) → ⊥)))
        → answer 17 (completes 0 5 refl refl) ≡ said.unchanged (said.refused (said.complete (done 0 5)) true 5)
    five n z (inl y) = absurd y.1
    five n z (inr y) = z ∙ ap (λ (m : ℕ). said.unchanged (said.refused (said.complete (done 0 5)) true m)) y.1.0

-- `comes_back`: e, c and d were completed in that order; the third poll_used returns d's completion, ID 1 and length 0
abbrev reclaim : Given
reclaim = makes poll_used tt

reclaim_counts : T (is_reclaim (answer 45 reclaim))
reclaim_counts =
    tells 45 (by_producer poll_used) tt refl (λ z. subst (λ v. T (is_reclaim v)) (sym z) tt)
    (λ n z. subst (λ v. T (is_reclaim v)) (sym z) (not_so (for_handed n) (counts 45 (by_producer poll_used) tt refl refl n z)))

pub third_return : answer 45 reclaim ≡ said.reclaimed (done 1 0)
unfolding comps reclaims
third_return =
    (demand 46).comes_back (done 0 3 ∷ done 2 0 ∷ []) [] (done 1 0) [] (said.reclaimed (done 2 0) ∷ said.reclaimed (done 0 3) ∷ [])
    (until 43) (answer 45 reclaim) (answered 45 reclaim refl) refl refl reclaim_counts

-- `in_order`: b's completion came back, and a's was made next; poll_used returns no other
second_of : List Done → Done
second_of [] = done 0 0
second_of (x ∷ []) = x
second_of (x ∷ y ∷ ys) = y

pub the_next_made : (x : Done) → answer 23 reclaim ≡ said.reclaimed x → x ≡ done 2 32
unfolding comps reclaims second_of
the_next_made x z = sym (ap second_of ((demand 24).in_order x [] (until 23) (reads 23 (by_producer poll_used) tt refl _ z)).1)

-- `returns_block`, `own_before`: both completions came back, so there is none for the third poll_used, and its refusal is 3
pub blocked_return : answer 24 reclaim ≡ said.unchanged (said.refused said.reclaim true 3)
unfolding comps reclaims
blocked_return =
    tells 24 (by_producer poll_used) tt refl
    (λ z. absurd ((demand 25).own_before _ [] (until 24) (reads 24 (by_producer poll_used) tt refl _ z)).1.made)
    (λ n z. z ∙ ap (λ (m : ℕ). said.unchanged (said.refused said.reclaim true m))
    ((demand 25).returns_block true n [] (until 24) (reads 24 (by_producer poll_used) tt refl _ z)
    (not_so (for_handed n) (counts 24 (by_producer poll_used) tt refl refl n z))).0)

-- ---- submissions and IDs

-- `next_is_free`, `none_is_free`: with g and h out next_id answers 0
abbrev next : Given
next = makes next_id tt

pub next_is_zero : answer 64 next ≡ said.unchanged (said.nexted 0)
unfolding out
next_is_zero =
    tells 64 (by_producer next_id) tt refl
    (λ z. let k = shown.next_is_free machine_three rules_three world_three (calls_to 65) (demand 65) _ [] (until 64)
    (reads 64 (by_producer next_id) tt refl _ z) in
    z ∙ ap (λ (n : ℕ). said.unchanged (said.nexted n)) (omega (arith, k.0, k.1.0.0, k.1.0.1.0)))
    (λ n z. absurd (some (shown.none_is_free machine_three rules_three world_three (calls_to 65) (demand 65) true n [] (until 64)
    (reads 64 (by_producer next_id) tt refl _ z) (counts 64 (by_producer next_id) tt refl refl n z)).1))
  where
    some : ◌≡◌ {A = ℕ} 2 3 → ⊥
    some y = omega (arith, y)

-- `none_is_free`, `next_is_free`: three chains are out, so next_id answers no ID, and its refusal is 4
pub no_next : answer 28 next ≡ said.unchanged (said.refused said.next_id true 4)
unfolding out
no_next =
    tells 28 (by_producer next_id) tt refl
    (λ z. absurd (not_below (shown.next_is_free machine_three rules_three world_three (calls_to 29) (demand 29) _ [] (until 28)
    (reads 28 (by_producer next_id) tt refl _ z)).1.1))
    (λ n z. z ∙ ap (λ (m : ℕ). said.unchanged (said.refused said.next_id true m))
    (shown.none_is_free machine_three rules_three world_three (calls_to 29) (demand 29) true n [] (until 28)
    (reads 28 (by_producer next_id) tt refl _ z) (counts 28 (by_producer next_id) tt refl refl n z)).0)
  where
    not_below : 3 < 3 → ⊥
    not_below y = omega (arith, y)

-- `next_is_given`, `submit_refused`: next_id answered 0; i has one element and one slot is free, so i is accepted, and its ID is 0
abbrev submit_i : Given
submit_i = submits_one 49152 6 true refl refl

pub gets_the_next : answer 66 submit_i ≡ said.submitted i
unfolding out promised bad_slices
gets_the_next =
    tells 66 (by_producer (submit_one 49152 6 true)) (typed i.chain refl refl) refl
    (λ z. z ∙ ap (λ (n : ℕ). said.submitted (record { id = n; chain = i.chain }))
    (shown.next_is_given machine_three rules_three world_three (calls_to 67) (demand 67) _ 0 [] (until 66)
    (reads 66 (by_producer (submit_one 49152 6 true)) (typed i.chain refl refl) refl _ z) refl))
    (λ n z. absurd (fits n (shown.submit_refused machine_three rules_three world_three (calls_to 67) (demand 67) i.chain true n [] (until 66)
    (reads 66 (by_producer (submit_one 49152 6 true)) (typed i.chain refl refl) refl _ z)
    (counts 66 (by_producer (submit_one 49152 6 true)) (typed i.chain refl refl) refl refl n z))))
  where
    fits : (n : ℕ) → ((n ≡ 1) × (slots_of i.chain ≡ 0)) ⊎ ((n ≡ 3) × ((0 < 1) × (3 < 2 + 1))) → ⊥
    fits n (inl y) = omega (arith, y.1)
    fits n (inr y) = omega (arith, y.1.1)

-- `submit_fits`, `submit_refused`: the ring is full, so one more element is refused with 3
abbrev one_more : Given
one_more = submits_one 4096 8 false refl refl

pub full : answer 12 one_more ≡ said.unchanged (said.refused (said.submit (one_of 4096 8 false)) true 3)
unfolding out bad_slices
full =
    tells 12 (by_producer (submit_one 4096 8 false)) (typed (one_of 4096 8 false) refl refl) refl
    (λ z. absurd (over (shown.submit_fits machine_three rules_three world_three (calls_to 13) (demand 13) _ [] (until 12)
    (reads 12 (by_producer (submit_one 4096 8 false)) (typed (one_of 4096 8 false) refl refl) refl _ z))))
    (λ n z. three n z (shown.submit_refused machine_three rules_three world_three (calls_to 13) (demand 13) (one_of 4096 8 false) true n [] (until 12)
    (reads 12 (by_producer (submit_one 4096 8 false)) (typed (one_of 4096 8 false) refl refl) refl _ z)
    (counts 12 (by_producer (submit_one 4096 8 false)) (typed (one_of 4096 8 false) refl refl) refl refl n z)))
  where
    over : 3 + 1 ≤ 3 → ⊥
    over y = omega (arith, y)

    three : (n : ℕ) → answer 12 one_more ≡ said.unchanged (said.refused (said.submit (one_of 4096 8 false)) true n)
        → ((n ≡ 1) × (slots_of (one_of 4096 8 false) ≡ 0)) ⊎ ((n ≡ 3) × ((0 < 1) × (3 < 3 + 1)))
        → answer 12 one_more ≡ said.unchanged (said.refused (said.submit (one_of 4096 8 false)) true 3)
    three n z (inl y) = absurd (omega (arith, y.1))
    three n z (inr y) = z ∙ ap (λ (m : ℕ). said.unchanged (said.refused (said.submit (one_of 4096 8 false)) true m)) y.0

-- `answers`, `submit_refused`: a chain of no elements is refused with 1
abbrev nothing : Given
nothing = submits (chain [] [] 0) refl refl

pub no_elements : answer 65 nothing ≡ said.unchanged (said.refused (said.submit (chain [] [] 0)) true 1)
unfolding out bad_slices
no_elements =
    tells 65 (by_producer (submit_available (chain [] [] 0))) (typed (chain [] [] 0) refl refl) refl
    (λ z. absurd (none (shows 65 (by_producer (submit_available (chain [] [] 0))) (typed (chain [] [] 0) refl refl) refl _ z).1.1.0.0))
    (λ n z. one n z (shown.submit_refused machine_three rules_three world_three (calls_to 66) (demand 66) (chain [] [] 0) true n [] (until 65)
    (reads 65 (by_producer (submit_available (chain [] [] 0))) (typed (chain [] [] 0) refl refl) refl _ z)
    (counts 65 (by_producer (submit_available (chain [] [] 0))) (typed (chain [] [] 0) refl refl) refl refl n z)))
  where
    none : 0 < 0 → ⊥
    none y = omega (arith, y)

    one : (n : ℕ) → answer 65 nothing ≡ said.unchanged (said.refused (said.submit (chain [] [] 0)) true n)
        → ((n ≡ 1) × (slots_of (chain [] [] 0) ≡ 0)) ⊎ ((n ≡ 3) × ((0 < 0) × (3 < 2 + 0)))
        → answer 65 nothing ≡ said.unchanged (said.refused (said.submit (chain [] [] 0)) true 1)
    one n z (inl y) = z ∙ ap (λ (m : ℕ). said.unchanged (said.refused (said.submit (chain [] [] 0)) true m)) y.0
    one n z (inr y) = absurd (omega (arith, y.1.0))

-- ---- checkpoints and rollbacks

-- `answers`: poll_checkpoint is never refused, so it answers a checkpoint
pub marks : (x : Checkpoint) × (answer 6 (takes poll_checkpoint tt) ≡ said.marked x)
marks =
    tells 6 (by_consumer poll_checkpoint) tt refl (λ z. (_, z))
    (λ n z. absurd (never n (shows 6 (by_consumer poll_checkpoint) tt refl _ z).1))

-- `rollback_accepted`: two polls came since the checkpoint, and the rollback that names both is accepted
abbrev roll_two : Given
roll_two = takes (rollback_polls c2 (2 ∷ 1 ∷ [])) tt

pub rolls_back : answer 56 roll_two ≡ said.rolled c2 (2 ∷ 1 ∷ [])
rolls_back =
    tells 56 (by_consumer (rollback_polls c2 (2 ∷ 1 ∷ []))) tt refl (λ z. z)
    (λ n z. absurd (shown.rollback_accepted machine_three rules_three world_three (calls_to 57) (demand 57) c2 (2 ∷ 1 ∷ []) true n [] (until 56)
    (reads 56 (by_consumer (rollback_polls c2 (2 ∷ 1 ∷ []))) tt refl _ z) undoes_two))

-- ---- 7 and 8: a call that is handed something invalid is not accepted (`kinds`), and is refused for that (`answers`, `refusals`)

handed : (v : Bool) (n : ℕ) (A B : Type 0) → (T (for_handed n) × A) ⊎ ((v ≡ true) × B) → v ≡ false → T (for_handed n)
handed v n A B (inl y) z = y.0
handed v n A B (inr y) z = absurd (false≢true (sym z ∙ y.0))

-- outputs of two entries are 8
pub short_outputs : answer 9 (polls_for 2) ≡ said.unchanged (said.refused said.poll false 8)
short_outputs =
    tells 9 (by_consumer (poll_available (zeros 2) (zeros 2))) tt refl
    (λ z. absurd (false≢true (of_kind 9 (by_consumer (poll_available (zeros 2) (zeros 2))) tt refl _ z).1))
    (λ n z. z ∙ ap (λ (m : ℕ). said.unchanged (said.refused said.poll false m))
    ((demand 10).refusals said.poll false n [] (until 9) (reads 9 (by_consumer (poll_available (zeros 2) (zeros 2))) tt refl _ z)
    (handed false n _ _ (shows 9 (by_consumer (poll_available (zeros 2) (zeros 2))) tt refl _ z).1 refl)).1)

-- slices of unequal length are 8
abbrev unequal : Chain
unequal = chain (4096 ∷ []) [] 0

pub unequal_slices : answer 4 (submits unequal refl refl) ≡ said.unchanged (said.refused (said.submit unequal) false 8)
unfolding bad_slices
unequal_slices =
    tells 4 (by_producer (submit_available unequal)) (typed unequal refl refl) refl
    (λ z. absurd (false≢true (of_kind 4 (by_producer (submit_available unequal)) (typed unequal refl refl) refl _ z).1))
    (λ n z. z ∙ ap (λ (m : ℕ). said.unchanged (said.refused (said.submit unequal) false m))
    ((demand 5).refusals (said.submit unequal) false n [] (until 4) (reads 4 (by_producer (submit_available unequal)) (typed unequal refl refl) refl _ z)
    (handed false n _ _ (shows 4 (by_producer (submit_available unequal)) (typed unequal refl refl) refl _ z).1 refl)).1)

-- a checkpoint off the ring is 7
abbrev off : Checkpoint
off = checkpoint (at 3 true) (at 0 true) 0

pub off_checkpoint : answer 16 (takes (rollback_polls off []) tt) ≡ said.unchanged (said.refused (said.rollback off []) false 7)
off_checkpoint =
    tells 16 (by_consumer (rollback_polls off [])) tt refl
    (λ z. absurd (false≢true (of_kind 16 (by_consumer (rollback_polls off [])) tt refl _ z).1))
    (λ n z. z ∙ ap (λ (m : ℕ). said.unchanged (said.refused (said.rollback off []) false m))
    ((demand 17).refusals (said.rollback off []) false n [] (until 16) (reads 16 (by_consumer (rollback_polls off [])) tt refl _ z)
    (handed false n _ _ (shows 16 (by_consumer (rollback_polls off [])) tt refl _ z).1 refl)).1)

-- a cursor off the ring is 7
pub off_cursor : answer 59 (makes (should_notify_since (at 3 false)) tt) ≡ said.unchanged (said.refused said.other false 7)
off_cursor =
    tells 59 (by_producer (should_notify_since (at 3 false))) tt refl
    (λ z. absurd (false≢true (of_kind 59 (by_producer (should_notify_since (at 3 false))) tt refl _ z).1))
    (λ n z. z ∙ ap (λ (m : ℕ). said.unchanged (said.refused said.other false m))
    ((demand 60).refusals said.other false n [] (until 59) (reads 59 (by_producer (should_notify_since (at 3 false))) tt refl _ z)
    (handed false n _ _ (shows 59 (by_producer (should_notify_since (at 3 false))) tt refl _ z).1 refl)).1)

-- `refusals`: poll_used is handed nothing that can be invalid, and is not refused for it
pub nothing_handed : (v : Bool) (n : ℕ) → answer 24 reclaim ≡ said.unchanged (said.refused said.reclaim v n) → T (for_handed n) → ⊥
nothing_handed v n z t = (demand 25).refusals said.reclaim v n [] (until 24) (reads 24 (by_producer poll_used) tt refl _ z) t
