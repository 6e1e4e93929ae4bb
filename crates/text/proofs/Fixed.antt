-- Each public contract of the crate determines which buffer its function leaves a line over, where in it, and what it leaves there.
use mathlib.Core.Path.{ap₂}
use Rattle.base.specs.Determined.{Determined, both}
use Rattle.base.proofs.Determine.{by_equation}
use Rattle.text.specs.Line.{written_in}
use Rattle.text.proofs.Line.new.Reads as new
use Rattle.text.proofs.Line.put.Reads as put
use Rattle.text.proofs.Line.number.Reads as number
use Rattle.text.proofs.Line.right.Reads as right
use Rattle.text.proofs.Line.hex.Reads as hex

pub new_fixed : Determined new.Post (λ r s. both r.out.ghost_name (written_in r))
new_fixed = by_equation _ _ _ (λ κ a r s p. ap₂ both p.0 p.1)

pub put_fixed : Determined put.Post (λ r s. both s.0.now.out.ghost_name (written_in s.0.now))
put_fixed = by_equation _ _ _ (λ κ a r s p. ap₂ both p.0 p.1)

pub number_fixed : Determined number.Post (λ r s. both s.0.now.out.ghost_name (written_in s.0.now))
number_fixed = by_equation _ _ _ (λ κ a r s p. ap₂ both p.0 p.1)

pub right_fixed : Determined right.Post (λ r s. both s.0.now.out.ghost_name (written_in s.0.now))
right_fixed = by_equation _ _ _ (λ κ a r s p. ap₂ both p.0 p.1)

pub hex_fixed : Determined hex.Post (λ r s. both s.0.now.out.ghost_name (written_in s.0.now))
hex_fixed = by_equation _ _ _ (λ κ a r s p. ap₂ both p.0 p.1)
