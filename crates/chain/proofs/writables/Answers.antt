-- `chain::writables` meets its contract: each exit by the test that led to it.
-- Assumes nothing.
use Rattle.std.specs.Mem.{type_size}
use Rattle.base.specs.Part.{slice}
use Rattle.chain.proofs.Laws.{writables_fit, none_writable}
use Rattle.chain.proofs.writables.Goals as goal

pub returns-then-readable-s : goal.returns-then-readable-s
returns-then-readable-s g c = let a = c.args in writables_fit (type_size g.row.T) a.readable (slice a.s.ref_ptr a.s.now) c.if-readable-s.true

pub returns : goal.returns
returns g c = let a = c.args in none_writable (type_size g.row.T) a.readable (slice a.s.ref_ptr a.s.now) c.if-readable-s.false
