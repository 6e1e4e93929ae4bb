-- What a ring owes to the queue, call by call, and what it gets for it: demand 3. A ring is any machine that takes calls.
-- Assumes nothing.
use Prim.Native.Nat.{ℕ, zero, suc}
use mathlib.Core.Path.{◌≡◌, refl, subst}
use mathlib.Core.Logic.{⊎_elim}
use mathlib.Core.Bool.{Bool, true, false, not}
use mathlib.Core.List.{List, [], ◌∷◌, ◌++◌}
use lib.Dec.{T}
use lib.ListN.{drop}
use Rattle.queue.specs.History.{Kind, Event, History}
use Rattle.queue.specs.History.{submit, reclaim, next_id, poll, complete, peek, checkpoint, rollback, other, foreign}
use Rattle.queue.specs.Promise.{Rules, for_handed, Each, MayFollow, Refusal, Right}
use Rattle.queue.specs.Machine.{Machine, world_of, history_of, number_of, OfKind}
use Rattle.queue.specs.Demand.{Premise, Demand3}
use Rattle.queue.proofs.Model.{Queue, start, next, model, Ok, AllOk}
use Rattle.queue.proofs.Trace.{rightly, all_ok_before, undoes_of}
use Rattle.queue.proofs.Ahead.{ahead}
use Rattle.queue.proofs.Returned.{returned}
use Rattle.queue.proofs.Literal.{oldest_at, none_waits}
use Rattle.queue.proofs.Reader.{own_completion, own_before, once_each}
use Rattle.queue.proofs.Undone.{undone, undone_held, wait_again}

-- not both
pub never_both : (b : Bool) → T b → T (not b) → ⊥
never_both true t f = f
never_both false t f = t

module _ {C : Type 0} where
  -- what is said of each event is said of this one, and of each before it
  pub each_before : (P : History C → Event C → Type 0) (later before : History C) → Each P (later ++ before) → Each P before
  each_before P [] before a = a
  each_before P (e ∷ later) before a = each_before P later before a.0

  pub each_at : (P : History C → Event C → Type 0) (h later before : History C) (e : Event C) → h ≡ later ++ (e ∷ before) → Each P h → P before e
  each_at P h later before e s a = (each_before P later (e ∷ before) (subst (Each P) s a)).1

  -- a valid call that is refused for what the ring holds is not refused for what it was handed
  held_not_handed : (rules : Rules C) (h : History C) (k : Kind C) (n : ℕ) → Refusal rules h k n → T (for_handed n) → ⊥
  held_not_handed rules h (submit c) n r t =
      ⊎_elim (λ z. subst (λ (m : ℕ). T (for_handed m)) z.0 t) (λ z. subst (λ (m : ℕ). T (for_handed m)) z.0 t) r
  held_not_handed rules h reclaim n r t = subst (λ (m : ℕ). T (for_handed m)) r.0 t
  held_not_handed rules h next_id n r t = subst (λ (m : ℕ). T (for_handed m)) r.0 t
  held_not_handed rules h poll n r t = subst (λ (m : ℕ). T (for_handed m)) r.0 t
  held_not_handed rules h (complete d) n r t = subst (λ (m : ℕ). T (for_handed m)) r.0 t
  held_not_handed rules h peek n r t = r
  held_not_handed rules h checkpoint n r t = r
  held_not_handed rules h (rollback c js) n r t = subst (λ (m : ℕ). T (for_handed m)) r t
  held_not_handed rules h other n r t = r
  held_not_handed rules h foreign n r t = r

module _ {C : Type 0} (M : Machine C) (rules : Rules C) (w : M.World) where
  -- the premise of a run is that of each shorter one
  pub premise_before : (later before : List M.Call) → Premise M rules w (later ++ before) → Premise M rules w before
  unfolding history_of
  premise_before [] before p = p
  premise_before (c ∷ later) before p = premise_before later before (record { fair = p.fair.0; rollbacks = p.rollbacks.0 })

  -- a run without its last n calls is a run, and said the first of what was said
  pub premise_drop : (n : ℕ) (cs : List M.Call) → Premise M rules w cs → Premise M rules w (drop n cs)
  unfolding history_of
  premise_drop zero cs p = p
  premise_drop (suc n) [] p = p
  premise_drop (suc n) (c ∷ cs) p = premise_drop n cs (record { fair = p.fair.0; rollbacks = p.rollbacks.0 })

  pub history_drop : (n : ℕ) (cs : List M.Call) → history_of M w (drop n cs) ≡ drop n (history_of M w cs)
  unfolding history_of
  history_drop zero cs = refl
  history_drop (suc n) [] = refl
  history_drop (suc n) (c ∷ cs) = history_drop n cs

  -- what a ring owes: a likeness to the queue that every fair call keeps, and an answer that the queue allows, of the call's kind; and a call that is
  -- refused for what it was handed leaves all that it was lent
  pub record Matches : Type 1 where
    pub Like : M.World → Queue C → Type 0
    pub first : Like w start
    pub step : (h : History C) → AllOk rules h → (v : M.World) (c : M.Call) → Like v (model h) → M.Fair v c → MayFollow rules h (M.say v c)
        → Ok rules h (model h) (M.say v c) × Like (M.go v c) (next (model h) (M.say v c))
    pub kind : (v : M.World) (q : Queue C) (c : M.Call) → Like v q → M.Fair v c → OfKind (M.request c) (M.say v c)
    pub unharmed : (v : M.World) (c : M.Call) → M.Fair v c → (M.request c).kind ≡ foreign → (number_of (M.say v c) ≡ 0 → ⊥) → M.go v c ≡ v
    pub keeps : (v : M.World) (c : M.Call) → M.Fair v c → T (for_handed (number_of (M.say v c))) → M.exit v c ≡ M.entry v c

  module _ (m : Matches) where
    pub matched : (cs : List M.Call) → Premise M rules w cs → AllOk rules (history_of M w cs) × m.Like (world_of M w cs) (model (history_of M w cs))
    unfolding world_of history_of model
    matched [] p = (tt, m.first)
    matched (c ∷ cs) p =
        let ih : AllOk rules (history_of M w cs) × m.Like (world_of M w cs) (model (history_of M w cs)) =
        matched cs (record { fair = p.fair.0; rollbacks = p.rollbacks.0 }) in
        let s = m.step (history_of M w cs) ih.0 (world_of M w cs) c ih.1 p.fair.1 p.rollbacks.1 in
        ((ih.0, s.0), s.1)

    module _ (cs : List M.Call) (p : Premise M rules w cs) where
      abbrev h : History C
      h = history_of M w cs

      ok : AllOk rules h
      ok = (matched cs p).0

      right : Each (Right rules) h
      right = rightly rules h ok

      -- up to an event of the history, and at it
      ok_to : (later before : History C) (e : Event C) → h ≡ later ++ (e ∷ before) → AllOk rules (e ∷ before)
      ok_to later before e s = all_ok_before rules later (e ∷ before) (subst (AllOk rules) s ok)

      right_at : (later before : History C) (e : Event C) → h ≡ later ++ (e ∷ before) → Right rules before e
      right_at later before e s = each_at (Right rules) h later before e s right

      right_to : (later before : History C) → h ≡ later ++ before → Each (Right rules) before
      right_to later before s = each_before (Right rules) later before (subst (Each (Right rules)) s right)

      -- up to a call
      premise_to : (later before : List M.Call) (c : M.Call) → cs ≡ later ++ (c ∷ before) → Premise M rules w (c ∷ before)
      premise_to later before c s = premise_before later (c ∷ before) (subst (Premise M rules w) s p)

      like_at : (later before : List M.Call) (c : M.Call) → cs ≡ later ++ (c ∷ before) → m.Like (world_of M w before) (model (history_of M w before))
      like_at later before c s = (matched before (premise_before (c ∷ []) before (premise_to later before c s))).1

      -- DEMAND 3 of this machine, whatever calls it is given, if what is asked of them holds
      pub demanded : Demand3 M rules w cs
      demanded =
          record {
            oldest = λ x later before s.
                let o = ok_to later before _ s in
                oldest_at rules before o.0 x o.1;
            blocks = λ v n later before s t.
                ⊎_elim (λ z. absurd (never_both (for_handed n) z.0 t))
                (λ z. (z.1.0, none_waits rules before (ok_to later before _ s).0 z.1.1)) (right_at later before _ s).1;
            arrives = λ front rest x later between before e s a u n t.
                ahead rules before front rest x a between e (right_to later (e ∷ (between ++ before)) s) u n t;
            in_order = λ d later before s. right_at later before _ s;
            returns_block = λ v n later before s t.
                ⊎_elim (λ z. absurd (never_both (for_handed n) z.0 t)) (λ z. z.1) (right_at later before _ s).1;
            comes_back = λ front rest d later between before e s a n t.
                returned rules before front rest d a between e (right_to later (e ∷ (between ++ before)) s) n t;
            own_before = λ d later before s. own_before rules before d (ok_to later before _ s);
            own = own_completion rules h ok;
            once = once_each rules h ok;
            refusals = λ k v n later before s t.
                ⊎_elim (λ z. z.1) (λ z. absurd (held_not_handed rules before k n z.1 t)) (right_at later before _ s).1;
            left_alone = λ later before c s t. m.keeps (world_of M w before) c (premise_to later before c s).fair.1 t;
            unharmed = λ later before c s k n. m.unharmed (world_of M w before) c (premise_to later before c s).fair.1 k n;
            kinds = λ later before c s.
                m.kind (world_of M w before) (model (history_of M w before)) c (like_at later before c s) (premise_to later before c s).fair.1;
            rollbacks = λ c js later before s.
                let o = ok_to later before _ s in (
                  undoes_of rules before o.0 c js o.1,
                  λ u.
                      record {
                        stand = undone before c js u;
                        still_held = undone_held before c js u rules o.0;
                        wait_again = wait_again before c js u rules o.0;
                      },
                );
            answers = right;
          }
