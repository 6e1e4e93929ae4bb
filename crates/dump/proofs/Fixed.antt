-- Each public contract of the crate determines what its function answers, and what it leaves in the buffer.
use Rattle.base.specs.Determined.{Determined, both}
use Rattle.base.proofs.Determine.{by_equation}
use Rattle.dump.proofs.read_header.Reads as read_header
use Rattle.dump.proofs.flag_names.Reads as flag_names
use Rattle.dump.proofs.line_of.Reads as Line-of

pub read_header_fixed : Determined read_header.Post (λ r s. r)
read_header_fixed = by_equation _ _ _ (λ κ a r s p. p)

pub flag_names_fixed : Determined flag_names.Post (λ r s. r)
flag_names_fixed = by_equation _ _ _ (λ κ a r s p. p)

pub line_of_fixed : Determined Line-of.Post (λ r s. both r s.1.1.0.now)
line_of_fixed = by_equation _ _ _ (λ κ a r s p. p)
