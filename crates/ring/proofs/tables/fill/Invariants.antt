-- `ring::tables::fill` meets its contract. The loop's invariant: the elements passed are the value, and the others as they were.
use mathlib.Core.Path.{◌≡◌}
use lib.ListN.{replicate}
use Rattle.ring.proofs.Fills.{filled}
use Rattle.ring.proofs.tables.fill.Given as goal

abbrev pub invariant-loop-x : goal.invariant-loop-x
invariant-loop-x g l = l.x-items ≡ filled (replicate l.fn.n l.v) l.initial.x-items l.x-index
