-- `consumer::stale` meets its contract: the checkpoint's cursor moves, as it may.
-- Assumes nothing.
use mathlib.Core.Path.{◌≡◌, ap, ◌∙◌}
use native.Mathlib.Omega.{arith}
use Rattle.std.proofs.lemmas.Grind.{common_steps}
use Rattle.cursor.specs.Cursor.{steps, Outcome}
use Rattle.cursor.proofs.Ready.{ready, advance_ready}
use Rattle.consumer.specs.Rollback.{stale_of}
use Rattle.consumer.proofs.stale.Goals as goal

pub returns-else-from : goal.returns-else-from
unfolding stale_of
returns-else-from c =
    let a = c.args in
    let p = a.p in
    let e : c.moved.result ≡ steps p.layout.size a.n a.cp.avail =
    c.moved.ensures
    ∙ ap (λ (o : Outcome). o.cursor) (advance_ready p.layout.size a.n a.cp.avail (ready p.layout.size a.n a.cp.avail c.requires)) in
    grind (arith, common_steps)
