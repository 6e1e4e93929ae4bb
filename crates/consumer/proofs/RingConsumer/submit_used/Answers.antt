-- `consumer::RingConsumer::submit_used` meets its contract: what is not refused is a chain that is held, so the record moves by it.
-- Assumes nothing.
use native.Mathlib.Omega.{arith}
use Prim.Native.Nat.{ℕ}
use mathlib.Core.Path.{sym, ap, ◌∙◌}
use lib.ListN.{length, get_or}
use Rattle.cursor.proofs.Ready.{ready_not_bad}
use Rattle.consumer.proofs.Complete.{complete_ready}
use Rattle.consumer.proofs.RingConsumer.submit_used.Goals as goal

pub completed-requires : goal.completed-requires
completed-requires c =
    let a = c.args in
    let r = complete_ready a.self (length a.ring.now) a.id a.counts.now (sym c.in_default.ensures) in
    let n = c.at-n.ensures ∙ ap (λ (i : ℕ). get_or a.counts.now i 0) c.from.ensures in
    let s = r.sound in
    let l = s.laid in (
      omega arith,
      ready_not_bad a.self.layout.size c.at-n.result a.self.used
          (record { low = l.low; high = l.high; head = s.used; move = omega arith }),
    )
