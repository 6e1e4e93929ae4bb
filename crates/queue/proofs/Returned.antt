-- "Completions reach the producer the same way": they stand in a line for the producer's polls.
-- Assumes nothing.
use mathlib.Core.Path.{◌≡◌, refl, sym, ap, ◌∙◌, subst}
use mathlib.Core.Logic.{⊎_elim}
use mathlib.Core.Bool.{Bool, false, not}
use Prim.Native.Nat.{ℕ}
use mathlib.Core.List.{List, [], ◌∷◌, ◌++◌, append-nil}
use lib.ListN.{length}
use lib.Dec.{T}
use Rattle.base.proofs.Tests.{split}
use Rattle.queue.specs.History.{Done, Event, History, comps, reclaims}
use Rattle.queue.specs.History.{submit, reclaim, next_id, poll, complete, peek, checkpoint, rollback, other, foreign}
use Rattle.queue.specs.History.{nexted, peeked, quiet, refused, foreign_answered, submitted, polled, completed, reclaimed, marked, rolled}
use Rattle.queue.specs.History.{unchanged}
use Rattle.queue.specs.Promise.{Rules, for_handed, Each, RightRefusal, Right}
use Rattle.queue.specs.Sentences.{counted, is_reclaim}
use Rattle.queue.proofs.Line.{Moves, AllMove, in_line}
use Rattle.queue.proofs.Line as line

module _ {C : Type 0} (rules : Rules C) where
  -- completed, and returned
  abbrev Step : History C → Event C → Type 0
  Step h e = Moves is_reclaim reclaimed comps reclaims h e

  -- an event that is no poll_used that counts, and completes nothing
  same : (h : History C) (e : Event C) → is_reclaim e ≡ false → comps (e ∷ h) ≡ comps h → reclaims (e ∷ h) ≡ reclaims h → Step h e
  same h e c a b = line.other [] c (a ∙ sym (append-nil (comps h))) b

  -- a poll_used that is refused counts, unless it is refused for what it was handed; where it counts, every completion was returned
  refused_reclaim : (h : History C) (v : Bool) (n : ℕ) → RightRefusal rules h reclaim v n → Step h (unchanged (refused reclaim v n))
  unfolding comps reclaims
  refused_reclaim h v n r =
      split (for_handed n)
      (λ t. same h (unchanged (refused reclaim v n)) (ap not t) refl refl)
      (λ f. ⊎_elim (λ z. absurd (subst T f z.0)) (λ z. line.none (ap not f) z.1.1) r.1)

  step : (h : History C) (e : Event C) → Right rules h e → Step h e
  unfolding comps reclaims
  step h (submitted x) r = same h (submitted x) refl refl refl
  step h (polled x) r = same h (polled x) refl refl refl
  step h (completed d) r = line.other (d ∷ []) refl refl refl
  step h (reclaimed d) r = line.given d r.0 refl refl r.1 refl refl
  step h (marked c) r = same h (marked c) refl refl refl
  step h (rolled c js) r = same h (rolled c js) refl refl refl
  step h (unchanged (nexted i)) r = same h (unchanged (nexted i)) refl refl refl
  step h (unchanged (peeked b)) r = same h (unchanged (peeked b)) refl refl refl
  step h (unchanged quiet) r = same h (unchanged quiet) refl refl refl
  step h (unchanged (refused (submit c) v n)) r = same h (unchanged (refused (submit c) v n)) refl refl refl
  step h (unchanged (refused reclaim v n)) r = refused_reclaim h v n r
  step h (unchanged (refused next_id v n)) r = same h (unchanged (refused next_id v n)) refl refl refl
  step h (unchanged (refused poll v n)) r = same h (unchanged (refused poll v n)) refl refl refl
  step h (unchanged (refused (complete d) v n)) r = same h (unchanged (refused (complete d) v n)) refl refl refl
  step h (unchanged (refused peek v n)) r = same h (unchanged (refused peek v n)) refl refl refl
  step h (unchanged (refused checkpoint v n)) r = same h (unchanged (refused checkpoint v n)) refl refl refl
  step h (unchanged (refused (rollback c js) v n)) r = same h (unchanged (refused (rollback c js) v n)) refl refl refl
  step h (unchanged (refused other v n)) r = same h (unchanged (refused other v n)) refl refl refl
  step h (unchanged (refused foreign v n)) r = same h (unchanged (refused foreign v n)) refl refl refl
  step h (unchanged (foreign_answered n)) r = same h (unchanged (foreign_answered n)) refl refl refl

  steps : (h g : History C) → Each (Right rules) (g ++ h) → AllMove is_reclaim reclaimed comps reclaims h g
  steps h [] f = tt
  steps h (e ∷ g) f = (steps h g f.0, step (g ++ h) e f.1)

  -- "Completions reach the producer the same way: in order, once each, with their own ID and length": the completion x was made and not
  -- yet returned after h, after the completions `front`; g follows, with as many producer's polls as `front` has completions; then
  -- the next one returns x. Rollbacks may stand in g.
  pub returned :
      (h : History C) (front later : List Done) (x : Done) → comps h ≡ reclaims h ++ (front ++ (x ∷ later))
      → (g : History C) (e : Event C) → Each (Right rules) (e ∷ (g ++ h)) → counted is_reclaim g ≡ length front → T (is_reclaim e) → e ≡ reclaimed x
  returned h front later x waits g e f n t =
      in_line is_reclaim reclaimed comps reclaims h front later x waits g e (steps h (e ∷ g) f) n t
