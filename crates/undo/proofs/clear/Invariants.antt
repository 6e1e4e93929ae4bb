-- `undo::clear` meets its contract. The loop's invariant: finishing from here gives the whole.
-- Assumes nothing.
use Rattle.std.proofs.Common.{◌≡◌, drop}
use Rattle.undo.specs.Undo.{cleared_of}
use Rattle.undo.proofs.clear.Given as goal

abbrev pub invariant-loop-id : goal.invariant-loop-id
invariant-loop-id l = cleared_of l.counts (drop l.id-index l.ids) ≡ cleared_of l.initial.counts l.ids
