-- DEMAND 3, in one statement: completions meet their own submissions. In the customer's words: "Take two fresh ends over one zeroed ring, any mix
-- of their calls, no reset, no other writer, each end given back its own last record and tables, and each rollback using a checkpoint that its end
-- took and undoing every poll since, with no completion between. Then a poll returns the oldest published chain whose polls, if any, were all rolled
-- back, element for element, and blocks only when none waits. With k ahead it arrives at poll k+1 if nothing is rolled back meanwhile. Completions
-- reach the producer the same way: in order, once each, with their own ID and length. Calls refused for bad records or buffers aren't counted."
-- The customer's words alone stand in quotation marks; what the product adds to them stands without.
use Rattle.std.specs.Prelude.{ℕ, ◌<◌, ◌≡◌, List, ◌∷◌, ◌++◌, Bool, not, T, length}
use Rattle.queue.specs.History.{Item, Done, Kind, Event, History, items, pubs, comps, reclaims, standing}
use Rattle.queue.specs.History.{poll, reclaim, foreign, refused, polled, reclaimed, rolled, unchanged}
use Rattle.queue.specs.Promise.{Undoes, Rules, for_handed, Each, MayFollow, Right}
use Rattle.queue.specs.Sentences.{All, counted, latest, is_poll, is_reclaim, UndoesNothing, Oldest, NoneWaits, ItsOwn, ItsOwnBefore, RolledBack}
use Rattle.queue.specs.Machine.{Machine, world_of, history_of, FairCalls, number_of, OfKind}

module _ {C : Type 0} (M : Machine C) (rules : Rules C) (w : M.World) (calls : List M.Call) where
  abbrev h : History C
  h = history_of M w calls

  -- what is asked of the callers: each call was fair to make (the ring's machine says which are), and each accepted rollback was one that the rules
  -- allow
  pub record Premise : Type 0 where
    pub fair : FairCalls M w calls
    pub rollbacks : Each (MayFollow rules) h

  -- What is promised, of every call: `later ++ (e ∷ before)` is the whole history, THE LATEST FIRST, and so e any event of it
  pub record Demand3 : Type 0 where
    -- "a poll returns the oldest published chain whose polls, if any, were all rolled back, element for element"
    pub oldest :
        (x : Item) (later before : History C) → h ≡ later ++ (polled x ∷ before)
        → Oldest before x (latest x.id (pubs before))
    -- "and blocks only when none waits": a poll that counts and gives no chain is refused with 3, and none waits
    pub blocks :
        (v : Bool) (n : ℕ) (later before : History C) → h ≡ later ++ (unchanged (refused poll v n) ∷ before)
        → T (not (for_handed n)) → (n ≡ 3) × NoneWaits before
    -- "With k ahead it arrives at poll k+1 if nothing is rolled back meanwhile": x waits with `front` ahead; then, with nothing rolled back, as many
    -- polls are made that count as `front` has chains; the next poll that counts gives x
    pub arrives :
        (front rest : List Item) (x : Item) (later between before : History C) (e : Event C) → h ≡ later ++ (e ∷ (between ++ before))
        → pubs before ≡ items (standing before) ++ (front ++ (x ∷ rest))
        → All UndoesNothing between → counted is_poll between ≡ length front → T (is_poll e) → e ≡ polled x
    -- "Completions reach the producer the same way: in order": the completions that were returned are the first that were made, and this is the next
    pub in_order :
        (d : Done) (later before : History C) → h ≡ later ++ (reclaimed d ∷ before)
        → (rest : List Done) × (comps before ≡ reclaims before ++ (d ∷ rest))
    -- the same way: a poll_used that counts and returns none is refused with 3, and every completion was returned
    pub returns_block :
        (v : Bool) (n : ℕ) (later before : History C) → h ≡ later ++ (unchanged (refused reclaim v n) ∷ before)
        → T (not (for_handed n)) → (n ≡ 3) × (comps before ≡ reclaims before)
    -- the same way: with k ahead, at poll_used k+1 (a rollback makes no difference to completions)
    pub comes_back :
        (front rest : List Done) (d : Done) (later between before : History C) (e : Event C) → h ≡ later ++ (e ∷ (between ++ before))
        → comps before ≡ reclaims before ++ (front ++ (d ∷ rest))
        → counted is_reclaim between ≡ length front → T (is_reclaim e) → e ≡ reclaimed d
    -- "once each": no two completions that were returned are of one submission
    pub once : (i j p : ℕ) → ItsOwn h i p → ItsOwn h j p → i ≡ j
    -- "with their own ID and length": as a completion is returned (`own_before`), and of all that were returned (`own`), it is of a submission p,
    -- which was published, polled and completed before, under the ID that it got; and it is what the consumer completed it with
    pub own_before : (d : Done) (later before : History C) → h ≡ later ++ (reclaimed d ∷ before) → (p : ℕ) × ItsOwnBefore before d p
    pub own : (j : ℕ) → j < length (reclaims h) → (p : ℕ) × (p < length (pubs h)) × ItsOwn h j p
    -- "Calls refused for bad records or buffers aren't counted" (`is_poll` and `is_reclaim` do not count them): a call by an end given its own is so
    -- refused only for what that call was handed
    pub refusals :
        (k : Kind C) (v : Bool) (n : ℕ) (later before : History C) → h ≡ later ++ (unchanged (refused k v n) ∷ before)
        → T (for_handed n) → rules.MayRefuse before k v n
    -- whoever made it, with whatever, a call so refused leaves all that it was lent as it was
    pub left_alone :
        (later before : List M.Call) (c : M.Call) → calls ≡ later ++ (c ∷ before) → T (for_handed (number_of (M.say (world_of M w before) c)))
        → M.exit (world_of M w before) c ≡ M.entry (world_of M w before) c
    -- and a foreign call that is refused, with any number, leaves both ends' own and the bytes as they were
    pub unharmed :
        (later before : List M.Call) (c : M.Call) → calls ≡ later ++ (c ∷ before) → (M.request c).kind ≡ foreign
        → (number_of (M.say (world_of M w before) c) ≡ 0 → ⊥) → M.go (world_of M w before) c ≡ world_of M w before
    -- every call gets an answer of its own kind, and only a valid call is accepted
    pub kinds :
        (later before : List M.Call) (c : M.Call) → calls ≡ later ++ (c ∷ before) → OfKind (M.request c) (M.say (world_of M w before) c)
    -- what an accepted rollback does to the lists that this statement is made of: so they are what their names say
    pub rollbacks :
        (c : C) (js : List ℕ) (later before : History C) → h ≡ later ++ (rolled c js ∷ before)
        → Undoes before c js × ((u : Undoes before c js) → RolledBack before c js u)
    -- and every answer of every call: which submissions, completions and rollbacks are accepted, which IDs are given, what next_id and
    -- peek_available say
    pub answers : Each (Right rules) h
