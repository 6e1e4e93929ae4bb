-- A history of calls and answers, and what it says: which chains were published, which polls stand, what was completed and what
-- came back. The producer (VIRTIO's driver) submits chains and gets their completions back by poll_used; the consumer (the device) polls
-- chains and completes them. Nothing of a ring's format is here; the type C of checkpoints is the ring's own.
use Rattle.std.specs.Prelude.{ℕ, suc, ◌+◌, ◌-◌, List, [], ◌∷◌, ◌++◌, Bool, cond, leb, eqb, length, take, drop}

-- ---- what is passed

-- a lent chain, a buffer of VIRTIO's: addresses, lengths, and how many of its elements, the first ones, are readable
pub record Chain : Type 0 where
  pub addrs : List ℕ
  pub lens : List ℕ
  pub readable : ℕ

-- a chain with its ID: as a submission published it, or as a poll gave it
pub record Item : Type 0 where
  pub id : ℕ
  pub chain : Chain

-- a completion, a used buffer of VIRTIO's: as the consumer made it, or as the producer got it
pub record Done : Type 0 where
  pub id : ℕ
  pub len : ℕ

-- ---- calls with their answers

-- what a call asks for
pub data Kind (C : Type 0) : Type 0 where
  -- of the producer: a submission, poll_used, next_id
  submit : Chain → Kind C
  reclaim : Kind C
  next_id : Kind C
  -- of the consumer: poll_available, submit_used, peek_available, poll_checkpoint, rollback_polls
  poll : Kind C
  complete : Done → Kind C
  peek : Kind C
  checkpoint : Kind C
  rollback : C → List ℕ → Kind C
  -- every other call of either end that is given its own last record, tables and bytes
  other : Kind C
  -- any call that is given something else than the end's own, and an opening
  foreign : Kind C

-- a call as its caller sees it: what it asks for, and whether all that it hands in besides the end's own is valid (slices of equal length, outputs
-- with an entry for each slot of the ring, a cursor or checkpoint on the ring). It is judged by the call and the size that was opened, never by
-- what the ring says.
pub record Request (C : Type 0) : Type 0 where
  pub kind : Kind C
  pub valid : Bool

-- an answer that changes nothing of what a history speaks of
pub data Unchanged (C : Type 0) : Type 0 where
  -- next_id answered this ID, peek_available this
  nexted : ℕ → Unchanged C
  peeked : Bool → Unchanged C
  -- any other question, and a notification turned or armed
  quiet : Unchanged C
  -- a call of this kind, by an end given its own last record, tables and bytes, refused with this number; whether it was valid
  refused : Kind C → Bool → ℕ → Unchanged C
  -- a call that is given something else than the end's own, and an opening, answered with this number (0 is success)
  foreign_answered : ℕ → Unchanged C

-- one call with its answer
pub data Event (C : Type 0) : Type 0 where
  -- a submission was accepted, and got this ID
  submitted : Item → Event C
  -- a poll gave this
  polled : Item → Event C
  -- submit_used was accepted
  completed : Done → Event C
  -- poll_used returned this completion
  reclaimed : Done → Event C
  -- poll_checkpoint answered this checkpoint
  marked : C → Event C
  -- a rollback to this checkpoint, with this list, was accepted
  rolled : C → List ℕ → Event C
  -- every other answer
  unchanged : Unchanged C → Event C

-- THE LATEST EVENT FIRST: `e ∷ h` is h and then e
abbrev pub History : Type 0 → Type 0
History C = List (Event C)

-- ---- lists of chains and of polls

-- the slots of a chain, one for each element, and of some chains
abbrev pub slots_of : Chain → ℕ
slots_of c = length c.addrs

abbrev pub slots_in : List Item → ℕ
slots_in [] = 0
slots_in (i ∷ is) = slots_of i.chain + slots_in is

-- a poll with its number: the first poll of a history that gave a chain is number 1
pub record Poll : Type 0 where
  pub no : ℕ
  pub item : Item

-- what they gave, and the IDs
abbrev pub items : List Poll → List Item
items [] = []
items (p ∷ ps) = p.item ∷ items ps

abbrev pub ids : List Poll → List ℕ
ids [] = []
ids (p ∷ ps) = p.item.id ∷ ids ps

-- of polls whose numbers rise, those up to number k, and those after it
abbrev pub upto : ℕ → List Poll → List Poll
upto k [] = []
upto k (p ∷ ps) = cond (leb p.no k) (p ∷ upto k ps) []

abbrev pub after : ℕ → List Poll → List Poll
after k [] = []
after k (p ∷ ps) = cond (leb p.no k) (after k ps) (p ∷ ps)

-- all but the last n
abbrev pub but_last : {A : Type 0} → ℕ → List A → List A
but_last n l = take (length l - n) l

-- without the first of that ID
abbrev pub without : ℕ → List Poll → List Poll
without x [] = []
without x (p ∷ ps) = cond (eqb p.item.id x) ps (p ∷ without x ps)

-- the first of that ID, if there is one
abbrev pub of_id : ℕ → List Poll → List Poll
of_id x [] = []
of_id x (p ∷ ps) = cond (eqb p.item.id x) (p ∷ []) (of_id x ps)

abbrev pub without_item : ℕ → List Item → List Item
without_item x [] = []
without_item x (i ∷ is) = cond (eqb i.id x) is (i ∷ without_item x is)

-- how often a number stands in a list
abbrev pub times : ℕ → List ℕ → ℕ
times y [] = 0
times y (x ∷ xs) = cond (eqb x y) 1 0 + times y xs

-- ---- what a history says

module _ {C : Type 0} where
  -- the chains published, the oldest first
  unfoldable pub pubs : History C → List Item
  pubs [] = []
  pubs (submitted x ∷ h) = pubs h ++ (x ∷ [])
  pubs (polled x ∷ h) = pubs h
  pubs (completed d ∷ h) = pubs h
  pubs (reclaimed d ∷ h) = pubs h
  pubs (marked c ∷ h) = pubs h
  pubs (rolled c js ∷ h) = pubs h
  pubs (unchanged u ∷ h) = pubs h

  -- how many polls gave a chain
  unfoldable pub polls : History C → ℕ
  polls [] = 0
  polls (submitted x ∷ h) = polls h
  polls (polled x ∷ h) = suc (polls h)
  polls (completed d ∷ h) = polls h
  polls (reclaimed d ∷ h) = polls h
  polls (marked c ∷ h) = polls h
  polls (rolled c js ∷ h) = polls h
  polls (unchanged u ∷ h) = polls h

  -- the completions, the oldest first
  unfoldable pub comps : History C → List Done
  comps [] = []
  comps (submitted x ∷ h) = comps h
  comps (polled x ∷ h) = comps h
  comps (completed d ∷ h) = comps h ++ (d ∷ [])
  comps (reclaimed d ∷ h) = comps h
  comps (marked c ∷ h) = comps h
  comps (rolled c js ∷ h) = comps h
  comps (unchanged u ∷ h) = comps h

  -- the completions that poll_used returned, in that order
  unfoldable pub reclaims : History C → List Done
  reclaims [] = []
  reclaims (submitted x ∷ h) = reclaims h
  reclaims (polled x ∷ h) = reclaims h
  reclaims (completed d ∷ h) = reclaims h
  reclaims (reclaimed d ∷ h) = reclaims h ++ (d ∷ [])
  reclaims (marked c ∷ h) = reclaims h
  reclaims (rolled c js ∷ h) = reclaims h
  reclaims (unchanged u ∷ h) = reclaims h

  -- the polls that stand: those that gave a chain and were not rolled back. A rollback undoes as many as its list names, the latest. That these are
  -- exactly the polls since its checkpoint: `RolledBack` (Sentences.antt), field `rollbacks` of `Demand3`.
  unfoldable pub standing : History C → List Poll
  standing [] = []
  standing (submitted x ∷ h) = standing h
  standing (polled x ∷ h) = standing h ++ (record { no = suc (polls h); item = x } ∷ [])
  standing (completed d ∷ h) = standing h
  standing (reclaimed d ∷ h) = standing h
  standing (marked c ∷ h) = standing h
  standing (rolled c js ∷ h) = but_last (length js) (standing h)
  standing (unchanged u ∷ h) = standing h

  -- the polls that stand and are not completed: what the consumer holds
  unfoldable pub held : History C → List Poll
  held [] = []
  held (submitted x ∷ h) = held h
  held (polled x ∷ h) = held h ++ (record { no = suc (polls h); item = x } ∷ [])
  held (completed d ∷ h) = without d.id (held h)
  held (reclaimed d ∷ h) = held h
  held (marked c ∷ h) = held h
  held (rolled c js ∷ h) = but_last (length js) (held h)
  held (unchanged u ∷ h) = held h

  -- the polls that were completed, in the order of their completions: a completion is of the held poll of its ID
  unfoldable pub finished : History C → List Poll
  finished [] = []
  finished (submitted x ∷ h) = finished h
  finished (polled x ∷ h) = finished h
  finished (completed d ∷ h) = finished h ++ of_id d.id (held h)
  finished (reclaimed d ∷ h) = finished h
  finished (marked c ∷ h) = finished h
  finished (rolled c js ∷ h) = finished h
  finished (unchanged u ∷ h) = finished h

  -- the chains that are out: published, and their completion not yet returned by poll_used
  unfoldable pub out : History C → List Item
  out [] = []
  out (submitted x ∷ h) = out h ++ (x ∷ [])
  out (polled x ∷ h) = out h
  out (completed d ∷ h) = out h
  out (reclaimed d ∷ h) = without_item d.id (out h)
  out (marked c ∷ h) = out h
  out (rolled c js ∷ h) = out h
  out (unchanged u ∷ h) = out h

  -- the ID that next_id answered, if nothing was submitted or returned since
  unfoldable pub promised : History C → List ℕ
  promised [] = []
  promised (submitted x ∷ h) = []
  promised (polled x ∷ h) = promised h
  promised (completed d ∷ h) = promised h
  promised (reclaimed d ∷ h) = []
  promised (marked c ∷ h) = promised h
  promised (rolled c js ∷ h) = promised h
  promised (unchanged (nexted i) ∷ h) = i ∷ []
  promised (unchanged (peeked b) ∷ h) = promised h
  promised (unchanged quiet ∷ h) = promised h
  promised (unchanged (refused k v n) ∷ h) = promised h
  promised (unchanged (foreign_answered n) ∷ h) = promised h

  -- the chains that wait: published, and with no poll that stands
  abbrev pub waiting : History C → List Item
  waiting h = drop (length (standing h)) (pubs h)
