-- `producer::write::tails` meets its contract. The loop's invariant: finishing from here gives the whole.
-- Assumes nothing.
use Prim.Native.Nat.{◌-◌}
use mathlib.Core.Path.{◌≡◌}
use lib.ListN.{length}
use Rattle.producer.specs.Submit.{element_of, put_tails}
use Rattle.producer.proofs.write.tails.Given as goal

abbrev pub invariant-loop-i : goal.invariant-loop-i
invariant-loop-i l =
    let f = element_of l.id l.chain.addrs.now l.chain.lens.now l.chain.readable in
    put_tails l.layout f (length l.chain.addrs.now - l.i) l.i l.c l.ring
    ≡ put_tails l.layout f (length l.chain.addrs.now - 1) 1 l.initial.c l.initial.ring
