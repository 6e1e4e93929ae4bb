-- A machine that says 'quiet' to every call: each of its answers is right, since it says nothing; "every call gets an answer of its own kind" is broken.
-- Assumes nothing.
use Prim.Native.Nat.{ℕ}
use mathlib.Core.Path.{◌≡◌, refl}
use mathlib.Core.List.{List, [], ◌∷◌}
use native.Mathlib.Omega.{arith}
use Rattle.consumer.specs.declared.Checkpoint.{Checkpoint}
use Rattle.queue.specs.History.{History, Kind}
use Rattle.queue.specs.History as said
use Rattle.queue.specs.Promise.{Rules, Each, Right}
use Rattle.queue.specs.Machine.{Machine, history_of}
use Rattle.queue.specs.Demand.{Premise, Demand3}
use Rattle.packed.specs.Calls.{Given}
use Rattle.packed.specs.Machine.{World, packed, machine_of}
use Rattle.packed.specs.Opening.{Opening, opened_world, rules}
use Rattle.wrong.proofs.Calls.{poll, real_two}

-- THE WRONG MACHINE: the packed ring, but every event is 'quiet'
abbrev pub silent : ℕ → Machine Checkpoint
silent size =
    let m = machine_of packed size in
    record {
      World = m.World;
      Call = m.Call;
      request = m.request;
      Fair = m.Fair;
      say = λ w c. said.unchanged said.quiet;
      go = m.go;
      Lent = m.Lent;
      entry = m.entry;
      exit = m.exit;
    }

-- demand 3 of it, as of the packed ring
abbrev pub SilentDemand : Type 0
SilentDemand =
    (o : Opening packed) (cs : List Given) → Premise (silent o.geometry.size) (rules packed o) (opened_world packed o) cs
    → Demand3 (silent o.geometry.size) (rules packed o) (opened_world packed o) cs

-- every answer of it is right for what came before
pub silent_answers : (r : Rules Checkpoint) (size : ℕ) (w : World) (cs : List Given) → Each (Right r) (history_of (silent size) w cs)
unfolding history_of
silent_answers r size w [] = tt
silent_answers r size w (c ∷ cs) = (silent_answers r size w cs, tt)

-- a poll is answered by what is no answer of a poll
pub silent_broken : SilentDemand → ⊥
unfolding history_of
silent_broken d = not_other ((d real_two (poll ∷ []) (record { fair = (tt, tt); rollbacks = (tt, tt) })).kinds [] [] poll refl).0
  where
    not_other : ◌≡◌ {A = Kind Checkpoint} said.poll said.other → ⊥
    not_other e = let z : ◌≡◌ {A = ℕ} 0 1 = cc e in omega arith
