-- `format::part::between` meets its contract: each exit by the tests that led to it.
use native.Mathlib.Omega.{arith}
use Rattle.std.specs.Mem.{type_size}
use Rattle.base.specs.Part.{slice}
use Rattle.format.proofs.Parts.{between_fits, between_none}
use Rattle.format.proofs.part.between.Goals.{then-to-from-via-then-to-from, then-to-from-via-else-to-from+then-s-to}
use Rattle.format.proofs.part.between.Goals as goal

pub returns-then-to-from : goal.returns-then-to-from
returns-then-to-from g c =
    let a = c.args in
    between_none (type_size g.row.T) a.«from» a.to (slice a.s.ref_ptr a.s.now)
    (λ h p. elim c.then-to-from.branch [ then-to-from-via-then-to-from w ↦ omega arith | then-to-from-via-else-to-from+then-s-to w ↦ omega arith ])

pub returns : goal.returns
returns g c = let a = c.args in between_fits (type_size g.row.T) a.«from» a.to (slice a.s.ref_ptr a.s.now) (omega arith) (omega arith)
