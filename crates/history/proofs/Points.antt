-- The points of the history of Run.antt. `until k` is what the first k calls said and `later k` what those after them said (Run.antt `answers`);
-- `answer k x` is what the call x is answered after the first k, which is not computed here: demand 3 of the run's first k + 1 calls tells it.
-- Assumes nothing.
use Prim.Native.Nat.{ℕ, suc, ◌-◌}
use mathlib.Core.Path.{◌≡◌, refl, ap, ◌∙◌, subst}
use mathlib.Core.List.{List, [], ◌∷◌}
use mathlib.Core.Bool.{Bool, true, false, not}
use lib.Dec.{T}
use lib.ListN.{take, drop}
use Rattle.consumer.specs.declared.Checkpoint.{Checkpoint}
use Rattle.queue.specs.History.{Kind, Event, History}
use Rattle.queue.specs.History as said
use Rattle.queue.specs.Promise.{for_handed, Right}
use Rattle.queue.specs.Machine.{world_of, history_of, OfKind}
use Rattle.queue.specs.Demand.{Demand3}
use Rattle.queue.specs.Says.{accepted}
use Rattle.queue.proofs.Machine.{each_at, history_drop}
use Rattle.queue.proofs.Says.{says_keeps}
use Rattle.queue.proofs.Promises.{valid_counts}
use Rattle.packed.specs.Calls.{Own, Given, TypedCall, request_of, own}
use Rattle.packed.specs.Machine.{World, packed, checkpoint_in, call_says, own_answer, own_exit}
use Rattle.packed.specs.Opening.{Run}
use Rattle.packed.proofs.Packed.{demand_3, begun}
use Rattle.history.proofs.Ends.{world_three}
use Rattle.history.proofs.Run.{machine_three, rules_three, calls, history, answers, whole}

abbrev pub until : ℕ → History Checkpoint
until k = drop (79 - k) history

abbrev pub later : ℕ → History Checkpoint
later k = take (79 - k) history

-- the first k calls, the world after them, and demand 3 of them
abbrev pub calls_to : ℕ → List Given
calls_to k = drop (79 - k) calls

abbrev pub world : ℕ → World
world k = world_of machine_three world_three (calls_to k)

abbrev pub first : ℕ → Run packed
first k = begun (79 - k) whole

pub demand : (k : ℕ) → Demand3 machine_three rules_three world_three (calls_to k)
demand k = demand_3 (first k)

abbrev pub answer : ℕ → Given → Event Checkpoint
answer k x = call_says packed 3 (world k) x.call

-- what they said; and the same with the last answer left open
pub spoken : (k : ℕ) → history_of machine_three world_three (calls_to k) ≡ until k
spoken k = history_drop machine_three rules_three world_three (79 - k) calls ∙ ap (drop (79 - k)) answers

pub answered : (k : ℕ) (x : Given) → calls_to (suc k) ≡ x ∷ calls_to k → history_of machine_three world_three (calls_to (suc k)) ≡ answer k x ∷ until k
unfolding history_of
answered k x z = ap (history_of machine_three world_three) z ∙ ap (λ (t : History Checkpoint). answer k x ∷ t) (spoken k)

-- neither
pub not_so : (b : Bool) → (T b → ⊥) → T (not b)
not_so true f = f tt
not_so false f = tt

-- ---- call k + 1, by an end given its own

module _ (k : ℕ) (c : Own) (t : TypedCall (own c)) (here : calls_to (suc k) ≡ (record { call = own c; typed = t }) ∷ calls_to k) where
  abbrev x : Given
  x = record { call = own c; typed = t }

  abbrev kind : Kind Checkpoint
  kind = (request_of 3 (own c)).kind

  abbrev valid : Bool
  valid = (request_of 3 (own c)).valid

  -- the history up to it, if its answer is v
  pub reads : (v : Event Checkpoint) → answer k x ≡ v → history_of machine_three world_three (calls_to (suc k)) ≡ v ∷ until k
  reads v z = answered k x here ∙ ap (λ (w : Event Checkpoint). w ∷ until k) z

  -- it is accepted or refused
  pub tells :
      {G : Type 0}
      → (answer k x
      ≡ accepted checkpoint_in kind (own_answer packed (world k) c) (own_exit packed (world k) c).addrs (own_exit packed (world k) c).lens → G)
      → ((n : ℕ) → answer k x ≡ said.unchanged (said.refused kind valid n) → G) → G
  unfolding call_says
  tells {G} p q =
      says_keeps checkpoint_in (λ v. answer k x ≡ v → G) (request_of 3 (own c)) (own_answer packed (world k) c)
      (own_exit packed (world k) c).addrs (own_exit packed (world k) c).lens p (q _) refl

  -- `valid_counts`: if it is valid it is not refused for what it was handed
  pub counts : valid ≡ true → (n : ℕ) → answer k x ≡ said.unchanged (said.refused kind valid n) → T (for_handed n) → ⊥
  counts v n z =
      valid_counts machine_three 3 world_three (calls_to (suc k)) (demand (suc k)) kind n [] (until k)
      (reads (said.unchanged (said.refused kind true n)) (z ∙ ap (λ (b : Bool). said.unchanged (said.refused kind b n)) v))

  -- `kinds`: its answer is of its kind
  pub of_kind : (v : Event Checkpoint) → answer k x ≡ v → OfKind (request_of 3 (own c)) v
  of_kind v z = subst (OfKind (request_of 3 (own c))) z ((demand (suc k)).kinds [] (calls_to k) x here)

  -- `answers`: what it shows
  pub shows : (v : Event Checkpoint) → answer k x ≡ v → Right rules_three (until k) v
  shows v z = each_at (Right rules_three) (history_of machine_three world_three (calls_to (suc k))) [] (until k) v (reads v z) (demand (suc k)).answers
