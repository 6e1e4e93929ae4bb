-- `replay::run_all` is safe and ends. The loop keeps the run within the input, and the line in the buffer that it began with; the
-- measure is what is left of the input.
-- Assumes nothing.
use Prim.Native.Nat.{◌-◌, ◌≤◌}
use mathlib.Core.Path.{◌≡◌}
use lib.ListN.{length}
use Rattle.replay.proofs.run_all.Given as goal

abbrev pub invariant-loop-next : goal.invariant-loop-next
invariant-loop-next l = (l.run.at ≤ length l.input) × (l.line.out.ghost_name ≡ l.initial.line.out.ghost_name)

abbrev pub decreases-loop-next : goal.decreases-loop-next
decreases-loop-next l = length l.input - l.run.at
