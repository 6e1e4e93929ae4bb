-- What each call may be answered after a history, said over calls and answers alone. The customer's words stand in quotation marks; the
-- customer's whole sentence, and the statement that is proved of a ring, are in Demand.antt.
use Rattle.std.specs.Prelude.{ℕ, ◌+◌, ◌≤◌, ◌<◌, ◌≡◌, ◌≢◌, ◌⊎◌, List, [], ◌∷◌, ◌++◌, Bool, true, false, ◌&&◌, T, leb, length}
use Rattle.queue.specs.History.{Chain, Item, Done, Kind, Unchanged, Event, History, Poll, slots_of, slots_in, items, ids, upto, after, times}
use Rattle.queue.specs.History.{pubs, polls, comps, reclaims, standing, held, out, promised, waiting}
use Rattle.queue.specs.History.{submit, reclaim, next_id, poll, complete, peek, checkpoint, rollback, other, foreign}
use Rattle.queue.specs.History.{nexted, peeked, quiet, refused, foreign_answered}
use Rattle.queue.specs.History.{submitted, polled, completed, reclaimed, marked, rolled, unchanged}

-- a poll of that ID is in the list; no item of that ID is
abbrev pub Has : ℕ → List Poll → Type 0
Has x [] = ⊥
Has x (p ∷ ps) = (p.item.id ≡ x) ⊎ Has x ps

abbrev pub Unlike : ℕ → List Item → Type 0
Unlike x [] = Unit
Unlike x (y ∷ ys) = (y.id ≢ x) × Unlike x ys

-- a chain that may be published: one element at least, as many lengths as addresses, a readable count within them
abbrev pub Fine : Chain → Type 0
Fine c = (0 < slots_of c) × ((length c.addrs ≡ length c.lens) × (c.readable ≤ slots_of c))

-- 6, 7 and 8 are the refusals of what was handed in: a geometry, a record (or cursor or checkpoint), bytes and slices
abbrev pub for_handed : ℕ → Bool
for_handed n = leb 6 n && leb n 8

module _ {C : Type 0} where
  -- of each event of a history, given what came before it
  abbrev pub Each : (History C → Event C → Type 0) → History C → Type 0
  Each P [] = Unit
  Each P (e ∷ h) = Each P h × P h e

  -- ---- rollbacks

  -- "each rollback using a checkpoint that its end took and undoing every poll since, with no completion between": somewhere in the
  -- history poll_checkpoint answered this very checkpoint; no completion came since; and the list names exactly the polls that stand and
  -- came since, each once, in any order
  pub record Undoes (h : History C) (c : C) (js : List ℕ) : Type 0 where
    pub since : History C
    pub before : History C
    pub took : h ≡ since ++ (marked c ∷ before)
    pub none_completed : comps h ≡ comps before
    pub names : (y : ℕ) → times y js ≡ times y (ids (after (polls before) (standing h)))

  -- the same, where besides the checkpoint is intact: every poll that stood when it was taken stands still (no rollback reached below it since)
  pub record UndoesIntact (h : History C) (c : C) (js : List ℕ) : Type 0 where
    pub undoes : Undoes h c js
    pub stand : upto (polls undoes.before) (standing h) ≡ standing undoes.before

  -- ---- what a ring is handed and may refuse for it, whether the call was valid, and the number

  -- 8 for a submission's slices and a poll's outputs, 7 for a rollback's checkpoint and the cursor of a question; the other calls are handed nothing
  -- that can be invalid
  abbrev pub HandedInvalid : Kind C → Bool → ℕ → Type 0
  HandedInvalid (submit c) v n = (v ≡ false) × (n ≡ 8)
  HandedInvalid reclaim v n = ⊥
  HandedInvalid next_id v n = ⊥
  HandedInvalid poll v n = (v ≡ false) × (n ≡ 8)
  HandedInvalid (complete d) v n = ⊥
  HandedInvalid peek v n = ⊥
  HandedInvalid checkpoint v n = ⊥
  HandedInvalid (rollback c js) v n = (v ≡ false) × (n ≡ 7)
  HandedInvalid other v n = (v ≡ false) × (n ≡ 7)
  HandedInvalid foreign v n = ⊥

-- ---- what differs from ring to ring; `plain` is what the packed ring has

pub record Rules (C : Type 0) : Type 1 where
  -- its slots
  pub size : ℕ
  -- how many of its IDs the chains that are out have taken, of as many as it has slots
  pub ids_taken : List Item → ℕ
  -- what is asked of the callers where a rollback is accepted (premise)
  pub MayUndo : History C → C → List ℕ → Type 0
  -- which rollbacks must be accepted (promise)
  pub MustUndo : History C → C → List ℕ → Type 0
  -- when a refusal of what was handed in is right: the kind of call, whether it was valid, the number
  pub MayRefuse : History C → Kind C → Bool → ℕ → Type 0

-- one ID a chain; the premise of demand 3 on rollbacks; refused for what that call was handed, and for nothing else
abbrev pub plain : {C : Type 0} → ℕ → Rules C
plain size = record { size = size; ids_taken = length; MayUndo = Undoes; MustUndo = UndoesIntact; MayRefuse = λ h. HandedInvalid }

module _ {C : Type 0} (rules : Rules C) where
  abbrev size : ℕ
  size = rules.size

  -- ---- what is asked of the callers

  abbrev pub MayFollow : History C → Event C → Type 0
  MayFollow h (submitted x) = Unit
  MayFollow h (polled x) = Unit
  MayFollow h (completed d) = Unit
  MayFollow h (reclaimed d) = Unit
  MayFollow h (marked c) = Unit
  MayFollow h (rolled c js) = rules.MayUndo h c js
  MayFollow h (unchanged u) = Unit

  -- ---- what is promised

  -- a refusal of a valid call for what the ring holds, with the number n
  abbrev pub Refusal : History C → Kind C → ℕ → Type 0
  -- refused only with 1, or with 3 exactly when the free slots are fewer than its elements, never 4 or 5
  Refusal h (submit c) n = ((n ≡ 1) × (slots_of c ≡ 0)) ⊎ ((n ≡ 3) × ((0 < slots_of c) × (size < slots_in (out h) + slots_of c)))
  -- "Completions reach the producer the same way": blocked only when every completion was given back
  Refusal h reclaim n = (n ≡ 3) × (comps h ≡ reclaims h)
  -- 4 exactly if none is free
  Refusal h next_id n = (n ≡ 4) × (rules.ids_taken (out h) ≡ size)
  -- "blocks only when none waits": every published chain has a poll that stands
  Refusal h poll n = (n ≡ 3) × (pubs h ≡ items (standing h))
  -- a completion of a held chain is accepted, and of nothing else
  Refusal h (complete d) n = (n ≡ 5) × (Has d.id (held h) → ⊥)
  Refusal h peek n = ⊥
  Refusal h checkpoint n = ⊥
  -- a rollback that is not due may be refused
  Refusal h (rollback c js) n = n ≡ 9
  -- nothing else is ever refused (of the packed ring: so no run has a reset of an end given its own)
  Refusal h other n = ⊥
  Refusal h foreign n = ⊥

  -- a call that must be accepted
  abbrev pub Due : History C → Kind C → Type 0
  Due h (submit c) = ⊥
  Due h reclaim = ⊥
  Due h next_id = ⊥
  Due h poll = ⊥
  Due h (complete d) = ⊥
  Due h peek = ⊥
  Due h checkpoint = ⊥
  Due h (rollback c js) = rules.MustUndo h c js
  Due h other = ⊥
  Due h foreign = ⊥

  -- a refusal: the call need not be accepted, and it is refused for what was handed in, or it was valid and is refused for what the ring holds
  abbrev pub RightRefusal : History C → Kind C → Bool → ℕ → Type 0
  RightRefusal h k v n = (Due h k → ⊥) × ((T (for_handed n) × rules.MayRefuse h k v n) ⊎ ((v ≡ true) × Refusal h k n))

  -- an answer that changes nothing
  abbrev pub RightUnchanged : History C → Unchanged C → Type 0
  -- an ID that is free; the one that was answered before, if nothing was submitted or returned since
  RightUnchanged h (nexted i) =
      (i < size) × (Unlike i (out h) × ((rules.ids_taken (out h) < size) × ((j : ℕ) → promised h ≡ j ∷ [] → i ≡ j)))
  -- peek_available says yes exactly if a chain waits
  RightUnchanged h (peeked b) = ((b ≡ true) × (0 < length (waiting h))) ⊎ ((b ≡ false) × (waiting h ≡ []))
  RightUnchanged h quiet = Unit
  RightUnchanged h (refused k v n) = RightRefusal h k v n
  RightUnchanged h (foreign_answered n) = Unit

  -- an event after this history
  abbrev pub Right : History C → Event C → Type 0
  -- an ID given is the ID of no chain whose completion poll_used has not yet returned; the chain was a chain, and there were free slots; next_id is
  -- the ID that the next submission gets
  Right h (submitted x) =
      (x.id < size)
      × (Unlike x.id (out h)
      × (Fine x.chain
      × ((slots_in (out h) + slots_of x.chain ≤ size)
      × ((i : ℕ) → promised h ≡ i ∷ [] → x.id ≡ i))))
  -- the polls that stand gave the first chains published, in order and each once, and this is the next one
  Right h (polled x) = (later : List Item) × (pubs h ≡ items (standing h) ++ (x ∷ later))
  -- a completion of a held chain is accepted, and of nothing else
  Right h (completed d) = Has d.id (held h)
  -- the completions that were returned are the first that were made, in order and each once, and this is the next one
  Right h (reclaimed d) = (later : List Done) × (comps h ≡ reclaims h ++ (d ∷ later))
  Right h (marked c) = Unit
  -- it undid every poll since its checkpoint (of a ring whose rules ask just this of its callers, nothing new)
  Right h (rolled c js) = Undoes h c js
  Right h (unchanged u) = RightUnchanged h u
