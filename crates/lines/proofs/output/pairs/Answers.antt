-- `lines::output::pairs` meets its contract: one pair more is put.
use native.Mathlib.Omega.{arith}
use Prim.Native.Nat.{ℕ, ◌+◌}
use mathlib.Core.Path.{sym, ap, ap₂, ◌∙◌}
use mathlib.Core.List.{[], ◌∷◌}
use lib.ListN.{drop}
use Rattle.text.specs.Text.{Written}
use Rattle.text.specs.Line.{written_in}
use Rattle.lines.specs.Text.{put_values, pairs_of}
use Rattle.lines.proofs.Texts.{pairs_next, pairs_done}
use Rattle.lines.proofs.output.pairs.Goals as goal

pub loop-k-preserved : goal.loop-k-preserved
loop-k-preserved c =
    let h = c.loop-k in
    let addrs = c.args.addrs.now in
    let lens = c.args.lens.now in record {
      lent = c.value-in-loop-k.ensures.lent ∙ c.value.ensures.lent ∙ h.invariant.lent;
      text =
          ap (put_values (pairs_of (drop (h.k + 1) addrs) (drop (h.k + 1) lens)))
          (c.value-in-loop-k.ensures.text
          ∙ ap₂ (λ (x : ℕ) (w : Written). put_values (x ∷ []) w) c.at.ensures c.value.ensures.text)
          ∙ sym (pairs_next addrs lens h.k (written_in h.line) (omega arith))
          ∙ h.invariant.text;
    }

pub returns-clause-text : goal.returns-clause-text
returns-clause-text c =
    let h = c.loop-k in
    sym (pairs_done c.args.addrs.now (drop h.k c.args.lens.now) h.k (written_in h.line) (omega arith)) ∙ h.invariant.text
