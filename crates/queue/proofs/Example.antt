-- A history computed: two chains, a rollback, completions out of order. It meets the premise of every theorem, so none is empty.
-- Assumes nothing.
use mathlib.Core.Path.{◌≡◌, refl, ap}
use mathlib.Core.Logic.{◌⊎◌, inl, inr}
use mathlib.Core.Bool.{true, false}
use Prim.Native.Nat.{ℕ}
use native.Mathlib.Omega.{arith}
use mathlib.Core.List.{[], ◌∷◌, ◌++◌}
use lib.Dec.{T}
use Rattle.queue.specs.History.{Item, Done, Event, History, slots_in, items, pubs, polls, comps, reclaims, standing, held, out, finished}
use Rattle.queue.specs.History.{poll, reclaim, rollback, nexted, refused, submitted, polled, completed, reclaimed, marked, rolled, unchanged}
use Rattle.queue.specs.Promise.{Undoes, UndoesIntact, plain, Each, MayFollow, Right}
use Rattle.queue.specs.Sentences.{All, is_poll, UndoesNothing, is_reclaim, ItsOwn, sources, Oldest}
use Rattle.queue.proofs.Model.{Mark, next, model, Undo, UndoIntact, AllOk}
use Rattle.queue.proofs.Trace.{rightly, undo_intact_of}
use Rattle.queue.proofs.Ahead.{ahead}
use Rattle.queue.proofs.Returned.{returned}
use Rattle.queue.proofs.Literal.{oldest_at}

-- a chain of one element and one of two, on a ring of four slots
abbrev a : Item
a = record { id = 3; chain = record { addrs = 100 ∷ []; lens = 8 ∷ []; readable = 1 } }

abbrev b : Item
b = record { id = 2; chain = record { addrs = 200 ∷ 300 ∷ []; lens = 16 ∷ 16 ∷ []; readable = 1 } }

abbrev da : Done
da = record { id = 3; len = 8 }

abbrev db : Done
db = record { id = 2; len = 16 }

-- next_id answers 3; both are submitted; a checkpoint, 7, is taken; the first is polled and rolled back
abbrev begun : History ℕ
begun = submitted b ∷ submitted a ∷ unchanged (nexted 3) ∷ []

abbrev rolled_back : History ℕ
rolled_back = rolled 7 (3 ∷ []) ∷ polled a ∷ marked 7 ∷ begun

-- a poll with outputs too short; the first is polled again; a rollback of nothing; the second is polled; a poll blocks
abbrev pollings : History ℕ
pollings = polled a ∷ rolled 7 [] ∷ unchanged (refused poll false 8) ∷ []

abbrev polled_both : History ℕ
polled_both = unchanged (refused poll true 3) ∷ polled b ∷ (pollings ++ rolled_back)

-- the second is completed first; a rollback after it is refused; both come back in the order of completion; poll_used blocks
abbrev completed_both : History ℕ
completed_both = completed da ∷ completed db ∷ polled_both

abbrev reclaimings : History ℕ
reclaimings = reclaimed db ∷ unchanged (refused (rollback 7 (2 ∷ 3 ∷ [])) true 9) ∷ []

abbrev run : History ℕ
run = unchanged (refused reclaim true 3) ∷ reclaimed da ∷ (reclaimings ++ completed_both)

-- ---- the queue allows it

ok_begun : AllOk (plain 4) begun
unfolding model next
ok_begun = (
  ((tt, (omega arith, (tt, (omega arith, λ j e. cc e)))), (omega arith, (tt, ((omega arith, (refl, omega arith)), (omega arith, λ i e. cc e))))),
  (omega arith, ((omega arith, tt), ((omega arith, (refl, omega arith)), (omega arith, λ i e. cc e)))),
)

-- the premise of the rollback, by the queue: the list names the one poll since the checkpoint
undo_first : Undo (model (polled a ∷ marked 7 ∷ begun)) 7 (3 ∷ [])
unfolding model next
undo_first = record { mark = record { value = 7; polls = 0; comps = 0; stood = [] }; taken = inl refl; value = refl; same_comps = refl; names = λ y. refl }

ok_rolled : AllOk (plain 4) rolled_back
unfolding model next
ok_rolled = (((ok_begun, tt), (b ∷ [], refl)), undo_first)

undo_none : Undo (model (unchanged (refused poll false 8) ∷ rolled_back)) 7 []
unfolding model next
undo_none = record { mark = record { value = 7; polls = 0; comps = 0; stood = [] }; taken = inl refl; value = refl; same_comps = refl; names = λ y. refl }

ok_polled : AllOk (plain 4) polled_both
unfolding model next
ok_polled = (((((ok_rolled, (λ z. z, inl (tt, (refl, refl)))), undo_none), (b ∷ [], refl)), ([], refl)), (λ z. z, inr (refl, (refl, refl))))

no_undo : UndoIntact (model completed_both) 7 (2 ∷ 3 ∷ []) → ⊥
unfolding model next
no_undo u = go u.undo.taken
  where
    go : (record { value = 7; polls = 0; comps = 0; stood = [] } ≡ u.undo.mark) ⊎ ⊥ → ⊥
    go (inl e) = omega (arith, ap (λ (m : Mark ℕ). m.comps) e, u.undo.same_comps)
    go (inr z) = z

ok_completed : AllOk (plain 4) completed_both
unfolding model next
ok_completed = ((ok_polled, inr (inl refl)), inl refl)

-- a rollback after a completion need not be accepted
not_due : UndoesIntact completed_both 7 (2 ∷ 3 ∷ []) → ⊥
not_due u = no_undo (undo_intact_of (plain 4) completed_both ok_completed 7 (2 ∷ 3 ∷ []) u)

ok_run : AllOk (plain 4) run
unfolding model next
ok_run = ((((ok_completed, (not_due, inr (refl, refl))), (da ∷ [], refl)), ([], refl)), (λ z. z, inr (refl, (refl, refl))))

-- ---- what it says

says : (pubs run ≡ a ∷ b ∷ []) × (items (standing run) ≡ a ∷ b ∷ []) × (items (finished run) ≡ b ∷ a ∷ []) × (comps run ≡ db ∷ da ∷ [])
    × (reclaims run ≡ db ∷ da ∷ []) × (out run ≡ []) × (sources run ≡ 0 ∷ 1 ∷ [])
unfolding pubs standing finished comps reclaims out sources held
says = (refl, refl, refl, refl, refl, refl, refl)

-- ---- the premise of the promise

undoes_first : UndoesIntact (polled a ∷ marked 7 ∷ begun) 7 (3 ∷ [])
unfolding comps standing polls
undoes_first =
    record { undoes = record { since = polled a ∷ []; before = begun; took = refl; none_completed = refl; names = λ y. refl }; stand = refl }

undoes_none : Undoes (unchanged (refused poll false 8) ∷ rolled_back) 7 []
unfolding comps standing polls
undoes_none =
    record {
      since = unchanged (refused poll false 8) ∷ rolled 7 (3 ∷ []) ∷ polled a ∷ [];
      before = begun;
      took = refl;
      none_completed = refl;
      names = λ y. refl;
    }

meets : Each (MayFollow (plain 4)) run
meets = (((((((((((((((((tt, tt), tt), tt), tt), tt), undoes_first.undoes), tt), undoes_none), tt), tt), tt), tt), tt), tt), tt), tt), tt)

answered_run : Each (Right (plain 4)) run
answered_run = rightly (plain 4) run ok_run

-- ---- `ahead`: b waits after a; a poll that is not counted, a rollback of nothing and one poll later, the next poll gives b

behind : pubs rolled_back ≡ items (standing rolled_back) ++ ((a ∷ []) ++ (b ∷ []))
unfolding pubs standing
behind = refl

nothing_undone : All UndoesNothing pollings
nothing_undone = (tt, (refl, (tt, tt)))

arrives : (e : Event ℕ) → Each (Right (plain 4)) (e ∷ (pollings ++ rolled_back)) → T (is_poll e) → e ≡ polled b
arrives e f t = ahead (plain 4) rolled_back (a ∷ []) [] b behind pollings e f nothing_undone refl t

arrived : Each (Right (plain 4)) (polled b ∷ (pollings ++ rolled_back))
arrived = answered_run.0.0.0.0.0.0.0

-- ---- `returned`: the completion of a is after that of b

behind_done : comps completed_both ≡ reclaims completed_both ++ ((db ∷ []) ++ (da ∷ []))
unfolding comps reclaims
behind_done = refl

comes_back : (e : Event ℕ) → Each (Right (plain 4)) (e ∷ (reclaimings ++ completed_both)) → T (is_reclaim e) → e ≡ reclaimed da
comes_back e f t = returned (plain 4) completed_both (db ∷ []) [] da behind_done reclaimings e f refl t

came_back : Each (Right (plain 4)) (reclaimed da ∷ (reclaimings ++ completed_both))
came_back = answered_run.0

-- ---- `oldest_at`, and the reader's

-- the last poll is of publication 1, and a poll of publication 0 stands
oldest_b : Oldest (pollings ++ rolled_back) b 1
unfolding pubs
oldest_b = oldest_at (plain 4) (pollings ++ rolled_back) ok_polled.0.0 b ok_polled.0.1

-- the first completion that came back is of the second submission
own_first : ItsOwn run 0 1
unfolding pubs polls standing finished comps reclaims held
own_first =
    record {
      done = db;
      poll = record { no = 3; item = b };
      came_back = refl;
      made = refl;
      completed = refl;
      stands = refl;
      published = refl;
      own_id = refl;
    }

-- and it freed two slots of three
freed : (slots_in (out completed_both) ≡ 3) × (slots_in (out (reclaimings ++ completed_both)) ≡ 1)
unfolding out
freed = (refl, refl)
