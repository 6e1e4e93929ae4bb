-- The words of demand 3's sentences: which calls count, which publication a poll is of, which submission a completion is of.
use Rattle.std.specs.Prelude.{ℕ, zero, suc, ◌<◌, ◌≡◌, List, [], ◌∷◌, ◌++◌, Bool, true, false, cond, not, ◌&&◌, ◌||◌, eqb, length}
use Rattle.queue.specs.History.{Item, Done, Kind, Unchanged, Event, History, Poll, items, upto, after, but_last, times}
use Rattle.queue.specs.History.{pubs, polls, comps, reclaims, standing, held, finished, waiting}
use Rattle.queue.specs.History.{submit, reclaim, next_id, poll, complete, peek, checkpoint, rollback, other, foreign}
use Rattle.queue.specs.History.{nexted, peeked, quiet, refused, foreign_answered}
use Rattle.queue.specs.History.{submitted, polled, completed, reclaimed, marked, rolled, unchanged}
use Rattle.queue.specs.Promise.{Undoes, for_handed}

-- of each of a list
abbrev pub All : {A : Type 0} → (A → Type 0) → List A → Type 0
All P [] = Unit
All P (x ∷ xs) = P x × All P xs

-- the j-th of a list, the first being number 0, is this one
abbrev pub At : {A : Type 0} → List A → ℕ → A → Type 0
At [] j x = ⊥
At (y ∷ ys) zero x = y ≡ x
At (y ∷ ys) (suc j) x = At ys j x

-- how many of a list are such
abbrev pub counted : {A : Type 0} → (A → Bool) → List A → ℕ
counted P [] = 0
counted P (x ∷ xs) = cond (P x) (suc (counted P xs)) (counted P xs)

-- ---- which publication a poll is of: the latest one that got its ID. The first publication of a history is number 0.

-- whether an item of that ID is in the list, and the place of the last one (0 where there is none)
abbrev pub hasb : ℕ → List Item → Bool
hasb x [] = false
hasb x (y ∷ ys) = eqb y.id x || hasb x ys

abbrev pub latest : ℕ → List Item → ℕ
latest x [] = 0
latest x (y ∷ ys) = cond (hasb x ys) (suc (latest x ys)) 0

module _ {C : Type 0} where
  -- ---- which calls count: "Calls refused for bad records or buffers aren't counted"

  -- whether this is poll_available; whether it is poll_used
  abbrev pub of_poll : Kind C → Bool
  of_poll (submit c) = false
  of_poll reclaim = false
  of_poll next_id = false
  of_poll poll = true
  of_poll (complete d) = false
  of_poll peek = false
  of_poll checkpoint = false
  of_poll (rollback c js) = false
  of_poll other = false
  of_poll foreign = false

  abbrev pub of_reclaim : Kind C → Bool
  of_reclaim (submit c) = false
  of_reclaim reclaim = true
  of_reclaim next_id = false
  of_reclaim poll = false
  of_reclaim (complete d) = false
  of_reclaim peek = false
  of_reclaim checkpoint = false
  of_reclaim (rollback c js) = false
  of_reclaim other = false
  of_reclaim foreign = false

  -- a refusal of such a call, and not for what was handed in
  abbrev pub refused_such : (Kind C → Bool) → Unchanged C → Bool
  refused_such such (nexted i) = false
  refused_such such (peeked b) = false
  refused_such such quiet = false
  refused_such such (refused k v n) = such k && not (for_handed n)
  refused_such such (foreign_answered n) = false

  -- a poll counts if it gave a chain, or was refused, but not for what it was handed
  abbrev pub is_poll : Event C → Bool
  is_poll (submitted x) = false
  is_poll (polled x) = true
  is_poll (completed d) = false
  is_poll (reclaimed d) = false
  is_poll (marked c) = false
  is_poll (rolled c js) = false
  is_poll (unchanged u) = refused_such of_poll u

  -- a poll_used counts if it returned a completion, or was refused, but not for what it was handed
  abbrev pub is_reclaim : Event C → Bool
  is_reclaim (submitted x) = false
  is_reclaim (polled x) = false
  is_reclaim (completed d) = false
  is_reclaim (reclaimed d) = true
  is_reclaim (marked c) = false
  is_reclaim (rolled c js) = false
  is_reclaim (unchanged u) = refused_such of_reclaim u

  -- "if nothing is rolled back meanwhile": no rollback, or one of no polls
  abbrev pub UndoesNothing : Event C → Type 0
  UndoesNothing (submitted x) = Unit
  UndoesNothing (polled x) = Unit
  UndoesNothing (completed d) = Unit
  UndoesNothing (reclaimed d) = Unit
  UndoesNothing (marked c) = Unit
  UndoesNothing (rolled c js) = js ≡ []
  UndoesNothing (unchanged u) = Unit

  -- ---- polls, by the numbers of publications

  -- the publications that the standing polls are of, by their numbers
  unfoldable pub sources : History C → List ℕ
  sources [] = []
  sources (submitted x ∷ h) = sources h
  sources (polled x ∷ h) = sources h ++ (latest x.id (pubs h) ∷ [])
  sources (completed d ∷ h) = sources h
  sources (reclaimed d ∷ h) = sources h
  sources (marked c ∷ h) = sources h
  sources (rolled c js ∷ h) = but_last (length js) (sources h)
  sources (unchanged u ∷ h) = sources h

  -- publication j has a poll that was not rolled back
  abbrev pub Stands : History C → ℕ → Type 0
  Stands h j = 0 < times j (sources h)

  -- "the oldest published chain whose polls, if any, were all rolled back, element for element": publication j gave this very chain, no poll of it
  -- stands, and of each older one a poll does
  abbrev pub Oldest : History C → Item → ℕ → Type 0
  Oldest h x j = At (pubs h) j x × ((Stands h j → ⊥) × ((i : ℕ) → i < j → Stands h i))

  -- "none waits": of each publication a poll stands
  abbrev pub NoneWaits : History C → Type 0
  NoneWaits h = (i : ℕ) → i < length (pubs h) → Stands h i

  -- ---- completions

  -- completions meet their own submissions: the j-th completion that poll_used returned is of the p-th submission, both counted from 0
  pub record ItsOwn (h : History C) (j p : ℕ) : Type 0 where
    pub done : Done
    pub poll : Poll
    -- it is the j-th that the consumer made
    pub came_back : At (reclaims h) j done
    pub made : At (comps h) j done
    -- it completed this poll, which stands and gave the very chain that submission p published, under the ID that it got
    pub completed : At (finished h) j poll
    pub stands : At (standing h) p poll
    pub published : At (pubs h) p poll.item
    pub own_id : poll.item.id ≡ done.id

  -- the same, seen as poll_used returns this completion after this history: its submission, the poll of it that stands and its completion
  -- were there before
  pub record ItsOwnBefore (h : History C) (d : Done) (p : ℕ) : Type 0 where
    pub poll : Poll
    pub made : At (comps h) (length (reclaims h)) d
    pub completed : At (finished h) (length (reclaims h)) poll
    pub stands : At (standing h) p poll
    pub published : At (pubs h) p poll.item
    pub own_id : poll.item.id ≡ d.id

  -- ---- rollbacks

  -- "undoing every poll since": after this rollback the polls stand that stood and came before its checkpoint, those of them that are not completed
  -- are held, and the chains of the others wait again, the oldest first, before those that waited. So `standing` and `held` (History.antt)
  -- say it rightly.
  pub record RolledBack (h : History C) (c : C) (js : List ℕ) (u : Undoes h c js) : Type 0 where
    pub stand : standing (rolled c js ∷ h) ≡ upto (polls u.before) (standing h)
    pub still_held : held (rolled c js ∷ h) ≡ upto (polls u.before) (held h)
    pub wait_again : waiting (rolled c js ∷ h) ≡ items (after (polls u.before) (standing h)) ++ waiting h
