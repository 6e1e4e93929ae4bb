-- `lines::output::values` meets its contract. The loop's invariant: to put those from the index on is to put them all.
use mathlib.Core.Path.{◌≡◌}
use mathlib.Core.List.{map}
use lib.ListN.{drop}
use Rattle.text.specs.Line.{written_in}
use Rattle.lines.specs.Text.{put_values}
use Rattle.lines.proofs.output.values.Given as goal

abbrev pub invariant-loop-x : goal.invariant-loop-x
invariant-loop-x g l = record {
  lent : l.line.out.ghost_name ≡ l.initial.line.out.ghost_name;
  text :
      put_values (map g.V.Number.value (drop l.x-index l.s)) (written_in l.line)
      ≡ put_values (map g.V.Number.value l.s) (written_in l.initial.line);
}
