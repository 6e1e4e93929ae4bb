-- `format::input::numbers` meets its contract. The loop's invariant: the place stands for k strides behind the first, and the
-- first k words are there.
use Prim.Native.Nat.{◌+◌, ◌*◌, min}
use mathlib.Core.Path.{◌≡◌}
use lib.ListN.{length}
use Rattle.ring.proofs.Fills.{filled}
use Rattle.format.proofs.Reading.{words}
use Rattle.format.proofs.input.numbers.Given as goal

abbrev pub invariant-loop-x : goal.invariant-loop-x
invariant-loop-x g l =
    (min l.at (length l.s) ≡ min (l.from + l.x-index * l.stride) (length l.s))
    × (l.x-items ≡ filled (words g.W.Word.of g.W.Word.width l.s l.from l.stride l.n) l.initial.x-items l.x-index)
