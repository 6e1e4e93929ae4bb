-- `consumer::RingConsumer::poll_available` meets its contract: each exit by what was found up to the head, then by the walk.
-- Assumes nothing.
use Prim.Native.Nat.{ℕ}
use mathlib.Core.Path.{sym, ap, ap₂, ◌∙◌}
use lib.ListN.{length}
use Rattle.base.specs.Answer.{refused}
use Rattle.desc.specs.declared.Descriptor.{Descriptor}
use Rattle.walk.specs.declared.Walk.{Walk}
use Rattle.consumer.specs.Poll.{taken, head_refusal, walk_refusal}
use Rattle.consumer.proofs.Ready.{by_error}
use Rattle.consumer.proofs.Poll.{walk_ready, poll_stopped, poll_refused}
use Rattle.consumer.proofs.RingConsumer.poll_available.Goals as goal

pub returns-in-Err : goal.returns-in-Err
returns-in-Err c =
    let a = c.args in
    let head : Descriptor → ℕ = λ d. head_refusal a.self (length a.ring.now) d (length a.counts.now) (length a.addrs.now) (length a.lens.now) 0 in
    by_error (λ (x : ℕ). taken (refused x) a.self a.counts.now a.addrs.now a.lens.now) _ c.in-Err.e _
    (c.in-Err.ensures ∙ ap head c.look-d.ensures)
    (poll_stopped a.self a.ring.now a.counts.now a.addrs.now a.lens.now)

pub returns-in-Err-walk : goal.returns-in-Err-walk
returns-in-Err-walk c =
    let a = c.args in
    let head : Descriptor → ℕ = λ d. head_refusal a.self (length a.ring.now) d (length a.counts.now) (length a.addrs.now) (length a.lens.now) 0 in
    let walked : Walk → Descriptor → ℕ = λ w d. walk_refusal a.self w d.id a.counts.now in
    by_error (λ (x : ℕ). taken (refused x) a.self a.counts.now a.addrs.now a.lens.now) _ c.in-Err-walk.e _
    (c.in-Err-walk.ensures ∙ ap₂ walked c.chain-w.ensures c.look-d.ensures)
    (poll_refused a.self a.ring.now a.counts.now a.addrs.now a.lens.now (sym (ap head c.look-d.ensures) ∙ sym c.in_default.ensures))

pub past-requires : goal.past-requires
past-requires c =
    (walk_ready c.args.self c.chain-w.result c.look-d.result.id c.args.counts.now (sym c.in_default-walk.ensures)).room
