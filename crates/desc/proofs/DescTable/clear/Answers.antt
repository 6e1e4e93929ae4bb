-- `desc::DescTable::clear` meets its contract: a table of more slots than the bytes have room for is not whole.
-- Assumes nothing.
use native.Mathlib.Omega.{arith}
use Prim.Native.Nat.{ℕ, ◌*◌}
use mathlib.Core.Path.{sym}
use lib.ListN.{replicate, length-replicate}
use Rattle.base.proofs.Runs.{put_short}
use Rattle.desc.proofs.DescTable.clear.Goals as goal

pub returns-then-ring-self : goal.returns-then-ring-self
returns-then-ring-self c =
    let a = c.args in
    let n : ℕ = 16 * a.self.len in
    sym (put_short a.ring.now a.self.base_addr (replicate n 0) (omega (arith, length-replicate {A = ℕ} n 0)))
