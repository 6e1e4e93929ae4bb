-- `lines::output::values` meets its contract: one number more is put.
use native.Mathlib.Omega.{arith}
use borrow.Author.Rules.{rules}
use Prim.Native.Nat.{◌+◌}
use mathlib.Core.Path.{sym, ap, ◌∙◌}
use mathlib.Core.List.{map}
use lib.ListN.{drop}
use Rattle.text.specs.Line.{written_in}
use Rattle.lines.specs.Text.{put_values}
use Rattle.lines.proofs.Texts.{values_next, values_done}
use Rattle.lines.proofs.output.values.Goals as goal

pub loop-x-preserved : goal.loop-x-preserved
loop-x-preserved g c =
    let h = c.loop-x in
    let s = c.args.s.now in
    let value = g.V.Number.value in record {
      lent = c.value.ensures.lent ∙ h.invariant.lent;
      text =
          ap (put_values (map value (drop (h.x-index + 1) s))) c.value.ensures.text
          ∙ sym (values_next value s h.x-index (written_in h.line) c.x-item.result c.x-item.result c.loop-x-test.true (search rules))
          ∙ h.invariant.text;
    }

pub returns-clause-text : goal.returns-clause-text
returns-clause-text g c =
    let h = c.loop-x in
    sym (values_done g.V.Number.value c.args.s.now h.x-index (written_in h.line) (omega arith)) ∙ h.invariant.text
