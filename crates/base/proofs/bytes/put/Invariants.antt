-- `base::bytes::put` meets its contract. The loop's invariant: the first k bytes of b are stored.
-- Assumes nothing.
use Prim.Native.Nat.{◌≤◌}
use mathlib.Core.Path.{◌≡◌}
use lib.ListN.{length, take}
use lib.Seq.{sets}
use Rattle.base.proofs.bytes.put.Given as goal

abbrev pub invariant-loop-k : goal.invariant-loop-k
invariant-loop-k l = (l.k ≤ length l.b) × (l.ring ≡ sets l.initial.ring l.at (take l.k l.b))
