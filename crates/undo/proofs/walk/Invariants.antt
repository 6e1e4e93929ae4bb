-- `undo::walk` meets its contract. The loop's invariant: finishing from here gives the whole, and taking the marks away
-- gives the table at entry. No list costs more turns than `most`: each of the k turns has taken one at least from what is left.
-- Assumes nothing.
use Rattle.std.proofs.Common.{◌≡◌, ◌≤◌, ◌+◌, take, drop}
use Rattle.undo.specs.Undo.{flipped}
use Rattle.undo.proofs.Marks.{walked}
use Rattle.undo.proofs.walk.Given as goal

abbrev pub invariant-loop-k : goal.invariant-loop-k
invariant-loop-k l =
    (l.k + l.left ≤ l.most)
    × (walked l.size l.most l.counts l.left (drop l.k l.ids) ≡ walked l.size l.most l.initial.counts l.most l.ids)
    × (flipped l.counts (take l.k l.ids) ≡ l.initial.counts)
