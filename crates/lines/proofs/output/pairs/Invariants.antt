-- `lines::output::pairs` meets its contract. The loop's invariant: to put the pairs from k on is to put them all.
use mathlib.Core.Path.{◌≡◌}
use lib.ListN.{drop}
use Rattle.text.specs.Line.{written_in}
use Rattle.lines.specs.Text.{put_values, pairs_of}
use Rattle.lines.proofs.output.pairs.Given as goal

abbrev pub invariant-loop-k : goal.invariant-loop-k
invariant-loop-k l = record {
  lent : l.line.out.ghost_name ≡ l.initial.line.out.ghost_name;
  text :
      put_values (pairs_of (drop l.k l.addrs) (drop l.k l.lens)) (written_in l.line)
      ≡ put_values (pairs_of l.addrs l.lens) (written_in l.initial.line);
}
