-- `slots::show` is safe and ends: one line after the other, each whole in the buffer.
-- Assumes nothing.
use native.Mathlib.Omega.{arith}
use lib.ListN.{length-take}
use Rattle.dump.proofs.Short.{line_shown}
use Rattle.slots.proofs.show.Goals as goal

pub slice_bounds-text-end : goal.slice_bounds-text-end
slice_bounds-text-end c =
    omega (arith, (line_shown _ _ _ _ _ c.in-Some.n c.line_of.ensures (omega arith) c.in-Some.is).1)

pub slice_bounds-write_all-end : goal.slice_bounds-write_all-end
slice_bounds-write_all-end c =
    let short = (line_shown _ _ _ _ _ c.in-Some.n c.line_of.ensures (omega arith) c.in-Some.is).1 in
    simp length-take (omega (arith, short))
