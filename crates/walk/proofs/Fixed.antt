-- Each public contract of the crate determines what its function answers and leaves.
use Rattle.base.specs.Determined.{Determined, both}
use Rattle.base.proofs.Determine.{by_equation}
use Rattle.walk.proofs.Slots.chain.Reads as chain
use Rattle.walk.proofs.Slots.copy_out.Reads as copy_out

pub chain_fixed : Determined chain.Post (λ r s. r)
chain_fixed = by_equation _ _ _ (λ κ a r s p. p)

pub copy_out_fixed : Determined copy_out.Post (λ r s. both s.1.1.1.0.now s.1.1.1.1.0.now)
copy_out_fixed = by_equation _ _ _ (λ κ a r s p. λ i. both (p.0 i) (p.1 i))
