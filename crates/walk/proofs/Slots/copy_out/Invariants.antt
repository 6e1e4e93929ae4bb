-- `walk::Slots::copy_out` meets its contract: finishing the copy from here gives the whole.
-- Assumes nothing.
use Prim.Native.Nat.{◌-◌}
use mathlib.Core.Path.{◌≡◌}
use mathlib.Core.List.{map}
use lib.Seq.{sets}
use Rattle.walk.specs.Walk.{slots_from, addr_of, len_of}
use Rattle.walk.proofs.Slots.copy_out.Given as goal

abbrev pub invariant-loop-i : goal.invariant-loop-i
invariant-loop-i l =
    (sets l.addrs l.i (map addr_of (slots_from l.self.table l.self.size l.self.ring.now l.c (l.n - l.i))) ≡ sets l.initial.addrs 0 (map addr_of (slots_from l.self.table l.self.size l.self.ring.now l.initial.c l.n)))
    × (sets l.lens l.i (map len_of (slots_from l.self.table l.self.size l.self.ring.now l.c (l.n - l.i))) ≡ sets l.initial.lens 0 (map len_of (slots_from l.self.table l.self.size l.self.ring.now l.initial.c l.n)))
