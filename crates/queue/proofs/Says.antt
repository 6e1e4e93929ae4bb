-- What is read off an answer: success or a refusal, and always an event of the call's kind.
-- Assumes nothing.
use Prim.Native.Nat.{ℕ, zero, suc, ◌≤◌, ◌<◌}
use mathlib.Core.Path.{◌≡◌, refl, sym, ap, ◌∙◌}
use mathlib.Core.Bool.{Bool, true, false, cond}
use mathlib.Core.List.{List, [], ◌∷◌}
use native.Mathlib.Omega.{arith}
use lib.Dec.{eqb}
use lib.ListN.{length, take}
use borrow.Author.Tests.{eqb-true, eq-eqb, ne_eqb}
use Rattle.base.specs.Answer.{Answer}
use Rattle.base.specs.Answer as answer
use Rattle.base.proofs.Tests.{split}
use Rattle.queue.specs.History.{Kind, Request, Event}
use Rattle.queue.specs.History.{submit, reclaim, next_id, poll, complete, peek, checkpoint, rollback, other, foreign, refused, unchanged}
use Rattle.queue.specs.Machine.{number_of, Accepts, OfKind}
use Rattle.queue.specs.Says.{first_of, accepted, says}

-- of a list that is long enough, its first n
pub first_of_lem : (n : ℕ) (l : List ℕ) → n ≤ length l → first_of n l ≡ take n l
first_of_lem zero l h = refl
first_of_lem (suc n) [] h = absurd (omega arith)
first_of_lem (suc n) (x ∷ l) h = ap (λ (t : List ℕ). x ∷ t) (first_of_lem n l (omega arith))

module _ {C : Type 0} (checkpoint_in : List ℕ → C) where
  -- an accepted call and a refused one
  pub says_accepted : (r : Request C) (a : Answer) (xs ys : List ℕ) → a.number ≡ 0 → says checkpoint_in r a xs ys ≡ accepted checkpoint_in r.kind a xs ys
  says_accepted r a xs ys e = simp (eq-eqb a.number 0 e)

  pub says_refused :
      (r : Request C) (a : Answer) (n : ℕ) (xs ys : List ℕ) → a ≡ answer.refused n → 0 < n
      → says checkpoint_in r a xs ys ≡ unchanged (refused r.kind r.valid n)
  says_refused r a n xs ys e h = ap (λ (b : Answer). says checkpoint_in r b xs ys) e ∙ simp (ne_eqb n 0 (λ z. omega arith))

  -- what holds of both holds of it
  pub says_keeps :
      (P : Event C → Type 0) (r : Request C) (a : Answer) (xs ys : List ℕ)
      → P (accepted checkpoint_in r.kind a xs ys) → P (unchanged (refused r.kind r.valid a.number)) → P (says checkpoint_in r a xs ys)
  says_keeps P r a xs ys p q = go (eqb a.number 0)
    where
      go : (b : Bool) → P (cond b (accepted checkpoint_in r.kind a xs ys) (unchanged (refused r.kind r.valid a.number)))
      go true = p
      go false = q

  -- the event's number is the answer's
  accepted_number : (k : Kind C) (a : Answer) (xs ys : List ℕ) → number_of (accepted checkpoint_in k a xs ys) ≡ 0
  accepted_number (submit c) a xs ys = refl
  accepted_number reclaim a xs ys = refl
  accepted_number next_id a xs ys = refl
  accepted_number poll a xs ys = refl
  accepted_number (complete d) a xs ys = refl
  accepted_number peek a xs ys = refl
  accepted_number checkpoint a xs ys = refl
  accepted_number (rollback c js) a xs ys = refl
  accepted_number other a xs ys = refl
  accepted_number foreign a xs ys = refl

  pub says_number : (r : Request C) (a : Answer) (xs ys : List ℕ) → number_of (says checkpoint_in r a xs ys) ≡ a.number
  says_number r a xs ys =
      split (eqb a.number 0)
      (λ t. simp t (accepted_number r.kind a xs ys ∙ sym (eqb-true a.number 0 t)))
      (λ f. simp f)

  -- an event so read is of the call's kind, if only a valid call is accepted
  accepted_kind : (r : Request C) (k : Kind C) (a : Answer) (xs ys : List ℕ) → Accepts r k → OfKind r (accepted checkpoint_in k a xs ys)
  accepted_kind r (submit c) a xs ys z = z
  accepted_kind r reclaim a xs ys z = z
  accepted_kind r next_id a xs ys z = z
  accepted_kind r poll a xs ys z = z
  accepted_kind r (complete d) a xs ys z = z
  accepted_kind r peek a xs ys z = z
  accepted_kind r checkpoint a xs ys z = z
  accepted_kind r (rollback c js) a xs ys z = z
  accepted_kind r other a xs ys z = z
  accepted_kind r foreign a xs ys z = z.0

  pub says_kind : (r : Request C) (a : Answer) (xs ys : List ℕ) → (a.number ≡ 0 → r.valid ≡ true) → OfKind r (says checkpoint_in r a xs ys)
  says_kind r a xs ys v =
      split (eqb a.number 0)
      (λ t. simp t (accepted_kind r r.kind a xs ys (refl, v (eqb-true a.number 0 t))))
      (λ f. simp f (refl, refl))
