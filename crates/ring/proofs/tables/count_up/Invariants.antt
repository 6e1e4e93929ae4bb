-- `ring::tables::count_up` meets its contract. The loop's invariant: the first i words are there.
use mathlib.Core.Path.{◌≡◌}
use mathlib.Core.List.{map}
use Rattle.ring.specs.Tables.{up_to}
use Rattle.ring.proofs.Fills.{filled}
use Rattle.ring.proofs.tables.count_up.Given as goal

abbrev pub invariant-loop-i : goal.invariant-loop-i
invariant-loop-i g l = l.x-items ≡ filled (map g.W.Word.of (up_to l.fn.n)) l.initial.x-items l.i
