-- `undo::clear` meets its contract. The loop's invariant: finishing from here gives the whole.
-- Assumes nothing.
use Rattle.std.proofs.Common.{ℕ, ◌+◌, List, drop, set, sym, ap, ◌∙◌, arith}
use Rattle.undo.specs.Undo.{cleared_of}
use Rattle.undo.proofs.Laws.{cleared_more, cleared_all}
use Rattle.undo.proofs.clear.Goals as goal

pub loop-id-preserved : goal.loop-id-preserved
loop-id-preserved c =
    let h = c.loop-id in
    let ids = c.args.ids.now in
    ap (λ (x : List ℕ). cleared_of x (drop (h.id-index + 1) ids))
    (c.set.ensures ∙ ap (λ (i : ℕ). set h.counts i 0) c.from.ensures)
    ∙ sym (cleared_more h.counts ids h.id-index (omega arith))
    ∙ h.invariant

pub returns : goal.returns
returns c = let h = c.loop-id in sym (cleared_all h.counts c.args.ids.now h.id-index (omega arith)) ∙ h.invariant
