-- `undo::flip_each` meets its contract. The loop's invariant: so many of the IDs are behind.
-- Assumes nothing.
use Rattle.std.proofs.Common.{◌≡◌, take}
use Rattle.undo.specs.Undo.{flipped}
use Rattle.undo.proofs.flip_each.Given as goal

abbrev pub invariant-loop-id : goal.invariant-loop-id
invariant-loop-id l = l.counts ≡ flipped l.initial.counts (take l.id-index l.ids)
