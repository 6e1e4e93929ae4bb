-- `walk::Slots::chain` meets its contract: finishing the walk from here gives the whole.
-- Assumes nothing.
use Prim.Native.Nat.{◌-◌, ◌≤◌}
use mathlib.Core.Path.{◌≡◌}
use Rattle.walk.specs.Walk.{walk_of}
use Rattle.walk.proofs.Slots.chain.Given as goal

abbrev pub invariant-loop : goal.invariant-loop
invariant-loop l =
    (l.w.count ≡ l.counter)
    × (l.w.readable ≤ l.counter)
    × (walk_of l.self.table l.self.size l.self.ring.now (l.self.size - l.counter) l.w ≡ walk_of l.self.table l.self.size l.self.ring.now l.self.size l.initial.w)
