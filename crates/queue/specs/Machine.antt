-- A ring as a machine that takes calls: what each says and what it leaves, and so the history of any list of calls. "Any mix of their calls":
-- any such list. "Each end given back its own last record and tables": a call is given the world that the call before it left.
use Rattle.std.specs.Prelude.{ℕ, ◌≡◌, List, [], ◌∷◌, true}
use Rattle.queue.specs.History.{Kind, Request, Unchanged, Event, History}
use Rattle.queue.specs.History.{submit, reclaim, next_id, poll, complete, peek, checkpoint, rollback, other, foreign}
use Rattle.queue.specs.History.{nexted, peeked, quiet, refused, foreign_answered}
use Rattle.queue.specs.History.{submitted, polled, completed, reclaimed, marked, rolled, unchanged}

pub record Machine (C : Type 0) : Type 1 where
  -- both ends' records and tables, and the bytes
  pub World : Type 0
  -- the ring's own calls, with all their arguments
  pub Call : Type 0
  -- what a call asks for, and whether it is valid
  pub request : Call → Request C
  -- whether it is fair to make this call in this world
  pub Fair : World → Call → Type 0
  -- the call with its answer
  pub say : World → Call → Event C
  -- the world after it
  pub go : World → Call → World
  -- all that the call is lent (record, tables, outputs, bytes, the end's own or not): as it is when the call is made, and when it returns
  pub Lent : Type 0
  pub entry : World → Call → Lent
  pub exit : World → Call → Lent

module _ {C : Type 0} (M : Machine C) (w : M.World) where
  -- the world after these calls, THE LATEST FIRST, and their history
  unfoldable pub world_of : List M.Call → M.World
  world_of [] = w
  world_of (c ∷ cs) = M.go (world_of cs) c

  unfoldable pub history_of : List M.Call → History C
  history_of [] = []
  history_of (c ∷ cs) = M.say (world_of cs) c ∷ history_of cs

  -- each of them was fair to make
  abbrev pub FairCalls : List M.Call → Type 0
  FairCalls [] = Unit
  FairCalls (c ∷ cs) = FairCalls cs × M.Fair (world_of cs) c

module _ {C : Type 0} where
  -- an event's number: 0 is success
  abbrev pub unchanged_number : Unchanged C → ℕ
  unchanged_number (nexted i) = 0
  unchanged_number (peeked b) = 0
  unchanged_number quiet = 0
  unchanged_number (refused k v n) = n
  unchanged_number (foreign_answered n) = n

  abbrev pub number_of : Event C → ℕ
  number_of (submitted x) = 0
  number_of (polled x) = 0
  number_of (completed d) = 0
  number_of (reclaimed d) = 0
  number_of (marked c) = 0
  number_of (rolled c js) = 0
  number_of (unchanged u) = unchanged_number u

  -- an event is of the kind that its call asked for; a refusal says of the call what its caller sees, and only a valid call is accepted
  abbrev pub Accepts : Request C → Kind C → Type 0
  Accepts r k = (r.kind ≡ k) × (r.valid ≡ true)

  abbrev pub UnchangedOfKind : Request C → Unchanged C → Type 0
  UnchangedOfKind r (nexted i) = Accepts r next_id
  UnchangedOfKind r (peeked b) = Accepts r peek
  UnchangedOfKind r quiet = Accepts r other
  UnchangedOfKind r (refused k v n) = (r.kind ≡ k) × (r.valid ≡ v)
  UnchangedOfKind r (foreign_answered n) = r.kind ≡ foreign

  abbrev pub OfKind : Request C → Event C → Type 0
  OfKind r (submitted x) = Accepts r (submit x.chain)
  OfKind r (polled x) = Accepts r poll
  OfKind r (completed d) = Accepts r (complete d)
  OfKind r (reclaimed d) = Accepts r reclaim
  OfKind r (marked c) = Accepts r checkpoint
  OfKind r (rolled c js) = Accepts r (rollback c js)
  OfKind r (unchanged u) = UnchangedOfKind r u
