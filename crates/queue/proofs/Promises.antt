-- What follows from demand 3 for the reader of a history, of any ring: each under a name of its own, of every call. `later ++ (e ∷ before)` is the whole
-- history, the latest first.
-- Assumes nothing.
use Prim.Native.Nat.{ℕ, ◌+◌, ◌≤◌, ◌<◌}
use mathlib.Core.Path.{◌≡◌, sym, subst}
use mathlib.Core.Logic.{◌⊎◌, ⊎_elim}
use mathlib.Core.Bool.{Bool, true, false, false≢true}
use mathlib.Core.List.{List, [], ◌∷◌, ◌++◌}
use lib.Dec.{T}
use lib.ListN.{length, drop}
use Rattle.queue.specs.History.{Chain, Item, Done, Kind, Event, History, slots_of, slots_in, items, pubs, reclaims, held, out}
use Rattle.queue.specs.History.{finished, promised, waiting}
use Rattle.queue.specs.History.{submit, reclaim, next_id, poll, complete, peek, checkpoint, rollback, other, foreign}
use Rattle.queue.specs.History.{nexted, peeked, refused, submitted, polled, completed, reclaimed, unchanged}
use Rattle.queue.specs.Promise.{Has, Unlike, Fine, HandedInvalid, Rules, plain, for_handed, Each, Right}
use Rattle.queue.specs.Sentences.{At, ItsOwn}
use Rattle.queue.specs.Machine.{Machine, history_of}
use Rattle.queue.specs.Demand.{Demand3}
use Rattle.queue.proofs.Model.{AllOk}
use Rattle.queue.proofs.Trace.{allowed}
use Rattle.queue.proofs.Machine.{each_at, each_before}
use Rattle.queue.proofs.Reader.{frees, fresh_id, slots_fit, chains_fit}
use Rattle.queue.proofs.Handed.{handed}

module _ {C : Type 0} (M : Machine C) (rules : Rules C) (w : M.World) (cs : List M.Call) (d : Demand3 M rules w cs) where
  abbrev h : History C
  h = history_of M w cs

  right_at : (later before : History C) (e : Event C) → h ≡ later ++ (e ∷ before) → Right rules before e
  right_at later before e s = each_at (Right rules) h later before e s d.answers

  right_to : (later before : History C) → h ≡ later ++ before → Each (Right rules) before
  right_to later before s = each_before (Right rules) later before (subst (Each (Right rules)) s d.answers)

  ok_to : (later before : History C) → h ≡ later ++ before → AllOk rules before
  ok_to later before s = allowed rules before (right_to later before s)

  -- nothing that a poll hands out differs from what was submitted: the item is a published one, with as many lengths as addresses, its
  -- readables first and the writables after them
  pub as_submitted : (x : Item) (later before : History C) → h ≡ later ++ (polled x ∷ before) → (p : ℕ) × (At (pubs before) p x × Fine x.chain)
  as_submitted x later before s = handed rules before x (right_to later (polled x ∷ before) s)

  -- each completion that comes back frees exactly its chain's slots
  pub frees_its_own :
      (c : Done) (later before : History C) → h ≡ later ++ (reclaimed c ∷ before) → (p : ℕ) → ItsOwn (reclaimed c ∷ before) (length (reclaims before)) p
      → (x : Item) → At (pubs before) p x → slots_in (out before) ≡ slots_in (out (reclaimed c ∷ before)) + slots_of x.chain
  frees_its_own c later before s p i x a = frees rules before c (ok_to later (reclaimed c ∷ before) s) p i x a

  -- an ID given is the ID of no chain that waits, is held, or is completed and not yet returned
  pub new_id :
      (x : Item) (later before : History C) → h ≡ later ++ (submitted x ∷ before)
      → Unlike x.id (items (drop (length (reclaims before)) (finished before))) × Unlike x.id (items (held before)) × Unlike x.id (waiting before)
  new_id x later before s = fresh_id rules before x (ok_to later (submitted x ∷ before) s)

  -- never more slots are out than the ring has, nor more chains than slots (so with an ID for each chain a submission that finds slots finds an ID)
  pub never_over :
      (later before : History C) → h ≡ later ++ before → (slots_in (out before) ≤ rules.size) × (length (out before) ≤ slots_in (out before))
  never_over later before s = (slots_fit rules before (ok_to later before s), chains_fit rules before (ok_to later before s))

  -- a completion of a held chain is accepted, and of nothing else
  pub held_accepted :
      (c : Done) (v : Bool) (n : ℕ) (later before : History C) → h ≡ later ++ (unchanged (refused (complete c) v n) ∷ before)
      → (T (for_handed n) → ⊥) → Has c.id (held before) → ⊥
  held_accepted c v n later before s f = ⊎_elim (λ z. absurd (f z.0)) (λ z. z.1.1) (right_at later before _ s).1

  pub only_held : (c : Done) (later before : History C) → h ≡ later ++ (completed c ∷ before) → Has c.id (held before)
  only_held c later before s = right_at later before _ s

  -- a submission that is not refused for its slices is refused only with 1, or with 3 exactly when the free slots are fewer than its elements,
  -- never 4 or 5
  pub submit_refused :
      (c : Chain) (v : Bool) (n : ℕ) (later before : History C) → h ≡ later ++ (unchanged (refused (submit c) v n) ∷ before)
      → (T (for_handed n) → ⊥)
      → ((n ≡ 1) × (slots_of c ≡ 0)) ⊎ ((n ≡ 3) × ((0 < slots_of c) × (rules.size < slots_in (out before) + slots_of c)))
  submit_refused c v n later before s f = ⊎_elim (λ z. absurd (f z.0)) (λ z. z.1) (right_at later before _ s).1

  pub submit_fits :
      (x : Item) (later before : History C) → h ≡ later ++ (submitted x ∷ before) → slots_in (out before) + slots_of x.chain ≤ rules.size
  submit_fits x later before s = (right_at later before _ s).1.1.1.0

  -- next_id is the ID that the next submission gets, and 4 exactly if none is free
  pub next_is_given :
      (x : Item) (i : ℕ) (later before : History C) → h ≡ later ++ (submitted x ∷ before) → promised before ≡ i ∷ [] → x.id ≡ i
  next_is_given x i later before s p = (right_at later before _ s).1.1.1.1 i p

  pub next_is_free :
      (i : ℕ) (later before : History C) → h ≡ later ++ (unchanged (nexted i) ∷ before)
      → (i < rules.size) × (Unlike i (out before) × (rules.ids_taken (out before) < rules.size))
  next_is_free i later before s = let k = right_at later before _ s in (k.0, (k.1.0, k.1.1.0))

  pub none_is_free :
      (v : Bool) (n : ℕ) (later before : History C) → h ≡ later ++ (unchanged (refused next_id v n) ∷ before) → (T (for_handed n) → ⊥)
      → (n ≡ 4) × (rules.ids_taken (out before) ≡ rules.size)
  none_is_free v n later before s f = ⊎_elim (λ z. absurd (f z.0)) (λ z. z.1) (right_at later before _ s).1

  -- peek_available says yes exactly if a chain waits
  pub peeks :
      (b : Bool) (later before : History C) → h ≡ later ++ (unchanged (peeked b) ∷ before)
      → ((b ≡ true) × (0 < length (waiting before))) ⊎ ((b ≡ false) × (waiting before ≡ []))
  peeks b later before s = right_at later before _ s

  -- a rollback that must be accepted is
  pub rollback_accepted :
      (c : C) (js : List ℕ) (v : Bool) (n : ℕ) (later before : History C) → h ≡ later ++ (unchanged (refused (rollback c js) v n) ∷ before)
      → rules.MustUndo before c js → ⊥
  rollback_accepted c js v n later before s = (right_at later before _ s).0

  -- an invalid call is refused, if at all, for what it was handed, and where the rules allow it
  pub invalid_handed :
      (k : Kind C) (n : ℕ) (later before : History C) → h ≡ later ++ (unchanged (refused k false n) ∷ before)
      → T (for_handed n) × rules.MayRefuse before k false n
  invalid_handed k n later before s = ⊎_elim (λ z. z) (λ z. absurd (false≢true z.0)) (right_at later before _ s).1

-- ---- where the rules are plain: a valid call by an end given its own is never refused for what it was handed, and so always counts

module _ {C : Type 0} where
  never_plain : (k : Kind C) (n : ℕ) → HandedInvalid k true n → ⊥
  never_plain (submit c) n z = false≢true (sym z.0)
  never_plain reclaim n z = z
  never_plain next_id n z = z
  never_plain poll n z = false≢true (sym z.0)
  never_plain (complete d) n z = z
  never_plain peek n z = z
  never_plain checkpoint n z = z
  never_plain (rollback c js) n z = false≢true (sym z.0)
  never_plain other n z = false≢true (sym z.0)
  never_plain foreign n z = z

pub valid_counts :
    {C : Type 0} (M : Machine C) (size : ℕ) (w : M.World) (cs : List M.Call) → Demand3 M (plain size) w cs
    → (k : Kind C) (n : ℕ) (later before : History C) → history_of M w cs ≡ later ++ (unchanged (refused k true n) ∷ before) → T (for_handed n) → ⊥
valid_counts M size w cs d k n later before s t = never_plain k n (d.refusals k true n later before s t)
