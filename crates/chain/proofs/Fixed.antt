-- Each public contract of the crate determines what its function answers.
use denote.RattleType.{RattleType}
use denote.Param.Laws.{Laws}
use Rattle.base.specs.Answer.{answer_of}
use Rattle.base.specs.Part.{slice}
use Rattle.base.specs.Determined.{Determined}
use Rattle.base.proofs.Determine.{by_equation, by_answer}
use Rattle.base.proofs.Refusals.{reply_same}
use Rattle.chain.proofs.readables.Reads as readables
use Rattle.chain.proofs.writables.Reads as writables
use Rattle.chain.proofs.is_bad.Reads as is_bad
use Rattle.chain.proofs.BufferChain.is_bad.Reads as is_bad_chain
use Rattle.chain.proofs.BufferChain.check.Reads as check

-- for every type of the elements
module _ (t : RattleType) (l : Laws t) where
  pub readables_fixed : Determined (readables.Post t l) (λ r s. slice r.ref_ptr r.now)
  readables_fixed = by_equation _ _ _ (λ κ a r s p. p)

  pub writables_fixed : Determined (writables.Post t l) (λ r s. slice r.ref_ptr r.now)
  writables_fixed = by_equation _ _ _ (λ κ a r s p. p)

pub is_bad_fixed : Determined is_bad.Post (λ r s. r)
is_bad_fixed = by_equation _ _ _ (λ κ a r s p. p)

pub is_bad_chain_fixed : Determined is_bad_chain.Post (λ r s. r)
is_bad_chain_fixed = by_equation _ _ _ (λ κ a r s p. p)

pub check_fixed : Determined check.Post (λ r s. r)
check_fixed = by_answer _ _ answer_of reply_same _ (λ κ a r s p. p)
