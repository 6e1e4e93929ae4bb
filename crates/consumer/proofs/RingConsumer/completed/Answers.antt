-- `consumer::RingConsumer::completed` meets its contract: a count that the chain has, so the cursor moves by it.
-- Assumes nothing.
use Prim.Native.Nat.{◌-◌}
use mathlib.Core.Path.{◌≡◌, ap, ◌∙◌}
use Rattle.cursor.specs.Cursor.{steps, Outcome}
use Rattle.cursor.proofs.Ready.{ready, advance_ready}
use Rattle.consumer.specs.Complete.{completed_of}
use Rattle.consumer.proofs.RingConsumer.completed.Goals as goal

pub returns : goal.returns
unfolding completed_of
returns c =
    let a = c.args in
    let p = a.self in
    let e : c.moved.result ≡ steps p.layout.size a.n p.used =
    c.moved.ensures
    ∙ ap (λ (o : Outcome). o.cursor) (advance_ready p.layout.size a.n p.used (ready p.layout.size a.n p.used c.requires.1)) in
    λ i. record { layout = p.layout; avail = p.avail; used = e i; inflight = p.inflight - a.n; shadow = p.shadow }
