-- `undo::flip_each` meets its contract. The loop's invariant: so many of the IDs are behind.
-- Assumes nothing.
use Rattle.std.proofs.Common.{ℕ, List, get_or, sym, ap, ◌∙◌, arith}
use Rattle.undo.specs.Undo.{flip}
use Rattle.undo.proofs.Marks.{flipped_none, flipped_more}
use Rattle.undo.proofs.flip_each.Goals as goal

pub loop-id-init : goal.loop-id-init
loop-id-init c = sym (flipped_none c.args.counts.now)

pub loop-id-preserved : goal.loop-id-preserved
loop-id-preserved c =
    let h = c.loop-id in
    let ids = c.args.ids.now in
    c.flip.ensures
    ∙ ap (λ (t : List ℕ). flip t (get_or ids h.id-index 0)) h.invariant
    ∙ flipped_more c.args.counts.now ids h.id-index (omega arith)
