-- "With k ahead it arrives at poll k+1 if nothing is rolled back meanwhile": chains stand in a line for the consumer's polls.
-- Assumes nothing.
use mathlib.Core.Path.{◌≡◌, refl, sym, ap, ◌∙◌, subst}
use mathlib.Core.Logic.{⊎_elim}
use mathlib.Core.Bool.{Bool, false, not}
use Prim.Native.Nat.{ℕ, suc}
use mathlib.Core.List.{List, [], ◌∷◌, ◌++◌, append-nil}
use lib.ListN.{length}
use lib.Dec.{T}
use Rattle.base.proofs.Tests.{split}
use Rattle.queue.specs.History.{Item, Event, History, items, but_last, pubs, polls, standing}
use Rattle.queue.specs.History.{submit, reclaim, next_id, poll, complete, peek, checkpoint, rollback, other, foreign}
use Rattle.queue.specs.History.{nexted, peeked, quiet, refused, foreign_answered, submitted, polled, completed, reclaimed, marked, rolled}
use Rattle.queue.specs.History.{unchanged}
use Rattle.queue.specs.Promise.{Rules, for_handed, Each, RightRefusal, Right}
use Rattle.queue.specs.Sentences.{All, counted, is_poll, UndoesNothing}
use Rattle.queue.proofs.Listing.{items_append, but_last_none}
use Rattle.queue.proofs.Line.{Moves, AllMove, in_line}
use Rattle.queue.proofs.Line as line

module _ {C : Type 0} (rules : Rules C) where
  abbrev given_to : History C → List Item
  given_to h = items (standing h)

  -- published, and given to polls that stand
  abbrev Step : History C → Event C → Type 0
  Step h e = Moves is_poll polled pubs given_to h e

  -- an event that is no poll that counts, publishes nothing and leaves the polls that stand
  same : (h : History C) (e : Event C) → is_poll e ≡ false → pubs (e ∷ h) ≡ pubs h → standing (e ∷ h) ≡ standing h → Step h e
  same h e c a b = line.other [] c (a ∙ sym (append-nil (pubs h))) (ap items b)

  -- a poll that is refused counts, unless it is refused for what it was handed; where it counts, none waits
  refused_poll : (h : History C) (v : Bool) (n : ℕ) → RightRefusal rules h poll v n → Step h (unchanged (refused poll v n))
  unfolding pubs standing
  refused_poll h v n r =
      split (for_handed n)
      (λ t. same h (unchanged (refused poll v n)) (ap not t) refl refl)
      (λ f. ⊎_elim (λ z. absurd (subst T f z.0)) (λ z. line.none (ap not f) z.1.1) r.1)

  step : (h : History C) (e : Event C) → Right rules h e → UndoesNothing e → Step h e
  unfolding pubs standing
  step h (submitted x) r s = line.other (x ∷ []) refl refl refl
  step h (polled x) r s = line.given x r.0 refl refl r.1 refl (items_append (standing h) (record { no = suc (polls h); item = x } ∷ []))
  step h (completed d) r s = same h (completed d) refl refl refl
  step h (reclaimed d) r s = same h (reclaimed d) refl refl refl
  step h (marked c) r s = same h (marked c) refl refl refl
  step h (rolled c js) r s = same h (rolled c js) refl refl (ap (λ (l : List ℕ). but_last (length l) (standing h)) s ∙ but_last_none (standing h))
  step h (unchanged (nexted i)) r s = same h (unchanged (nexted i)) refl refl refl
  step h (unchanged (peeked b)) r s = same h (unchanged (peeked b)) refl refl refl
  step h (unchanged quiet) r s = same h (unchanged quiet) refl refl refl
  step h (unchanged (refused (submit c) v n)) r s = same h (unchanged (refused (submit c) v n)) refl refl refl
  step h (unchanged (refused reclaim v n)) r s = same h (unchanged (refused reclaim v n)) refl refl refl
  step h (unchanged (refused next_id v n)) r s = same h (unchanged (refused next_id v n)) refl refl refl
  step h (unchanged (refused poll v n)) r s = refused_poll h v n r
  step h (unchanged (refused (complete d) v n)) r s = same h (unchanged (refused (complete d) v n)) refl refl refl
  step h (unchanged (refused peek v n)) r s = same h (unchanged (refused peek v n)) refl refl refl
  step h (unchanged (refused checkpoint v n)) r s = same h (unchanged (refused checkpoint v n)) refl refl refl
  step h (unchanged (refused (rollback c js) v n)) r s = same h (unchanged (refused (rollback c js) v n)) refl refl refl
  step h (unchanged (refused other v n)) r s = same h (unchanged (refused other v n)) refl refl refl
  step h (unchanged (refused foreign v n)) r s = same h (unchanged (refused foreign v n)) refl refl refl
  step h (unchanged (foreign_answered n)) r s = same h (unchanged (foreign_answered n)) refl refl refl

  steps : (h g : History C) → Each (Right rules) (g ++ h) → All UndoesNothing g → AllMove is_poll polled pubs given_to h g
  steps h [] f s = tt
  steps h (e ∷ g) f s = (steps h g f.0 s.1, step (g ++ h) e f.1 s.0)

  -- no poll that counts is a rollback
  still : (e : Event C) → T (is_poll e) → UndoesNothing e
  still (submitted x) t = tt
  still (polled x) t = tt
  still (completed d) t = tt
  still (reclaimed d) t = tt
  still (marked c) t = tt
  still (rolled c js) t = absurd t
  still (unchanged u) t = tt

  -- "With k ahead it arrives at poll k+1 if nothing is rolled back meanwhile": x waits after h after the chains `front`; g follows, in
  -- which no poll is rolled back and as many polls are made as `front` has chains; then the next poll gives x
  pub ahead :
      (h : History C) (front later : List Item) (x : Item) → pubs h ≡ items (standing h) ++ (front ++ (x ∷ later))
      → (g : History C) (e : Event C) → Each (Right rules) (e ∷ (g ++ h)) → All UndoesNothing g → counted is_poll g ≡ length front → T (is_poll e) → e ≡ polled x
  ahead h front later x waits g e f s n t =
      in_line is_poll polled pubs given_to h front later x waits g e (steps h (e ∷ g) f (still e t, s)) n t
