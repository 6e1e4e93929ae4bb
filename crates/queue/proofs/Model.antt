-- The queue under demand 3: a state for each history, and which answer it allows to each call. A ring is shown to match it.
-- Assumes nothing.
use Prim.Native.Nat.{ℕ, suc, ◌+◌, ◌-◌, ◌≤◌, ◌<◌}
use mathlib.Core.Path.{◌≡◌}
use mathlib.Core.Logic.{◌⊎◌}
use mathlib.Core.List.{List, [], ◌∷◌, ◌++◌}
use mathlib.Core.Bool.{true, false}
use lib.ListN.{length, drop}
use Rattle.queue.specs.History.{Item, Done, Kind, Unchanged, Event, History, Poll, slots_of, slots_in, items, ids, upto, after, but_last, without}
use Rattle.queue.specs.History.{without_item, times}
use Rattle.queue.specs.History.{submit, reclaim, next_id, poll, complete, peek, checkpoint, rollback, other, foreign}
use Rattle.queue.specs.History.{nexted, peeked, quiet, refused, foreign_answered, submitted, polled, completed, reclaimed, marked, rolled}
use Rattle.queue.specs.History.{unchanged}
use lib.Dec.{T}
use Rattle.queue.specs.Promise.{Has, Unlike, Fine, for_handed, Rules, Due}

-- a checkpoint that was taken: its value, how many polls and completions came before it, and the polls that a rollback could have undone
pub record Mark (C : Type 0) : Type 0 where
  pub value : C
  pub polls : ℕ
  pub comps : ℕ
  pub stood : List Poll

pub record Queue (C : Type 0) : Type 0 where
  -- published, and with no poll that stands: the oldest first
  pub waiting : List Item
  -- polled and not completed: before the last completion, and since (what a rollback may still undo)
  pub old : List Poll
  pub fresh : List Poll
  -- completed, and not yet returned by poll_used
  pub done : List Done
  -- published, and not yet returned
  pub out : List Item
  -- what next_id answered, if nothing was submitted or returned since
  pub promised : List ℕ
  pub polls : ℕ
  pub comps : ℕ
  -- polls before the last completion
  pub since : ℕ
  pub marks : List (Mark C)

abbrev pub start : {C : Type 0} → Queue C
start = record { waiting = []; old = []; fresh = []; done = []; out = []; promised = []; polls = 0; comps = 0; since = 0; marks = [] }

abbrev pub tail : {A : Type 0} → List A → List A
tail [] = []
tail (x ∷ xs) = xs

-- one of a list
abbrev pub Member : {A : Type 0} → A → List A → Type 0
Member x [] = ⊥
Member x (y ∷ ys) = (y ≡ x) ⊎ Member x ys

module _ {C : Type 0} where
  abbrev pub mark_of : Queue C → C → Mark C
  mark_of q c = record { value = c; polls = q.polls; comps = q.comps; stood = q.fresh }

  abbrev pub promised_by : Queue C → Unchanged C → List ℕ
  promised_by q (nexted i) = i ∷ []
  promised_by q (peeked b) = q.promised
  promised_by q quiet = q.promised
  promised_by q (refused k v n) = q.promised
  promised_by q (foreign_answered n) = q.promised

  unfoldable pub next : Queue C → Event C → Queue C
  next q (submitted x) =
      record { waiting = q.waiting ++ (x ∷ []); old = q.old; fresh = q.fresh; done = q.done; out = q.out ++ (x ∷ []); promised = []; polls = q.polls; comps = q.comps; since = q.since; marks = q.marks }
  next q (polled x) =
      record { waiting = tail q.waiting; old = q.old; fresh = q.fresh ++ (record { no = suc q.polls; item = x } ∷ []); done = q.done; out = q.out; promised = q.promised; polls = suc q.polls; comps = q.comps; since = q.since; marks = q.marks }
  next q (completed d) =
      record { waiting = q.waiting; old = without d.id (q.old ++ q.fresh); fresh = []; done = q.done ++ (d ∷ []); out = q.out; promised = q.promised; polls = q.polls; comps = suc q.comps; since = q.polls; marks = q.marks }
  next q (reclaimed d) =
      record { waiting = q.waiting; old = q.old; fresh = q.fresh; done = tail q.done; out = without_item d.id q.out; promised = []; polls = q.polls; comps = q.comps; since = q.since; marks = q.marks }
  next q (marked c) =
      record { waiting = q.waiting; old = q.old; fresh = q.fresh; done = q.done; out = q.out; promised = q.promised; polls = q.polls; comps = q.comps; since = q.since; marks = q.marks ++ (mark_of q c ∷ []) }
  next q (rolled c js) =
      record { waiting = items (drop (length q.fresh - length js) q.fresh) ++ q.waiting; old = q.old; fresh = but_last (length js) q.fresh; done = q.done; out = q.out; promised = q.promised; polls = q.polls; comps = q.comps; since = q.since; marks = q.marks }
  next q (unchanged l) =
      record { waiting = q.waiting; old = q.old; fresh = q.fresh; done = q.done; out = q.out; promised = promised_by q l; polls = q.polls; comps = q.comps; since = q.since; marks = q.marks }

  unfoldable pub model : History C → Queue C
  model [] = start
  model (e ∷ h) = next (model h) e

  -- this rollback undoes every poll since a checkpoint that was taken, with no completion between
  pub record Undo (q : Queue C) (c : C) (js : List ℕ) : Type 0 where
    pub mark : Mark C
    pub taken : Member mark q.marks
    pub value : mark.value ≡ c
    pub same_comps : mark.comps ≡ q.comps
    pub names : (y : ℕ) → times y js ≡ times y (ids (after mark.polls q.fresh))

  pub record UndoIntact (q : Queue C) (c : C) (js : List ℕ) : Type 0 where
    pub undo : Undo q c js
    pub stand : upto undo.mark.polls q.fresh ≡ undo.mark.stood

  -- which answers the queue allows, after the history h that led to it. What differs from ring to ring is said over the history
  module _ (rules : Rules C) where
    abbrev size : ℕ
    size = rules.size

    abbrev pub OkRefusal : Queue C → Kind C → ℕ → Type 0
    OkRefusal q (submit c) n =
        ((n ≡ 1) × (slots_of c ≡ 0)) ⊎ ((n ≡ 3) × ((0 < slots_of c) × (size < slots_in q.out + slots_of c)))
    OkRefusal q reclaim n = (n ≡ 3) × (q.done ≡ [])
    OkRefusal q next_id n = (n ≡ 4) × (rules.ids_taken q.out ≡ size)
    OkRefusal q poll n = (n ≡ 3) × (q.waiting ≡ [])
    OkRefusal q (complete d) n = (n ≡ 5) × (Has d.id (q.old ++ q.fresh) → ⊥)
    OkRefusal q peek n = ⊥
    OkRefusal q checkpoint n = ⊥
    OkRefusal q (rollback c js) n = n ≡ 9
    OkRefusal q other n = ⊥
    OkRefusal q foreign n = ⊥

    abbrev pub OkUnchanged : History C → Queue C → Unchanged C → Type 0
    OkUnchanged h q (nexted i) =
        (i < size) × (Unlike i q.out × ((rules.ids_taken q.out < size) × ((j : ℕ) → q.promised ≡ j ∷ [] → i ≡ j)))
    OkUnchanged h q (peeked b) = ((b ≡ true) × (0 < length q.waiting)) ⊎ ((b ≡ false) × (q.waiting ≡ []))
    OkUnchanged h q quiet = Unit
    OkUnchanged h q (refused k v n) =
        (Due rules h k → ⊥) × ((T (for_handed n) × rules.MayRefuse h k v n) ⊎ ((v ≡ true) × OkRefusal q k n))
    OkUnchanged h q (foreign_answered n) = Unit

    abbrev pub Ok : History C → Queue C → Event C → Type 0
    Ok h q (submitted x) =
        (x.id < size)
        × (Unlike x.id q.out
        × (Fine x.chain
        × ((slots_in q.out + slots_of x.chain ≤ size)
        × ((i : ℕ) → q.promised ≡ i ∷ [] → x.id ≡ i))))
    Ok h q (polled x) = (later : List Item) × (q.waiting ≡ x ∷ later)
    Ok h q (completed d) = Has d.id (q.old ++ q.fresh)
    Ok h q (reclaimed d) = (later : List Done) × (q.done ≡ d ∷ later)
    Ok h q (marked c) = Unit
    Ok h q (rolled c js) = Undo q c js
    Ok h q (unchanged u) = OkUnchanged h q u

    abbrev pub AllOk : History C → Type 0
    AllOk [] = Unit
    AllOk (e ∷ h) = AllOk h × Ok h (model h) e
