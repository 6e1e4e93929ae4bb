-- Each public contract of the crate determines what its function answers and leaves.
use denote.RattleType.{RattleType}
use denote.Param.Laws.{Laws, IsCopy}
use mir.Syntax.{Dict, w64}
use mir.Val.{Fits}
use Prim.Native.Nat.{ℕ}
use Rattle.std.specs.declared.clone.Clone.{Ghosts}
use Rattle.base.specs.Refusals.{number_of}
use Rattle.base.specs.Determined.{Determined, both}
use Rattle.base.proofs.Determine.{by_equation, by_answer}
use Rattle.base.proofs.Refusals.{number_same, seen, seen_same}
use Rattle.base.proofs.RingError.number.Reads as number
use Rattle.base.proofs.RingError.numbered.Reads as numbered
use Rattle.base.proofs.pick.pick.Reads as pick
use Rattle.base.proofs.pick.ends_by.Reads as ends_by
use Rattle.base.proofs.pick.at.Reads as at
use Rattle.base.proofs.pick.set.Reads as set
use Rattle.base.proofs.bytes.U16Word.read.Reads as word16
use Rattle.base.proofs.bytes.U32Word.read.Reads as word32
use Rattle.base.proofs.bytes.U64Word.read.Reads as word64
use Rattle.base.proofs.bytes.zeros.Reads as zeros
use Rattle.base.proofs.bytes.get.Reads as get
use Rattle.base.proofs.bytes.put.Reads as put
use Rattle.base.proofs.bytes.zero.Reads as zero

pub number_fixed : Determined number.Post (λ r s. r)
number_fixed = by_equation _ _ _ (λ κ a r s p. p)

pub numbered_fixed : Determined numbered.Post (λ r s. r)
numbered_fixed = by_answer _ _ number_of number_same _ (λ κ a r s p. p)

pub ends_by_fixed : Determined ends_by.Post (λ r s. r)
ends_by_fixed = by_equation _ _ _ (λ κ a r s p. p)

pub word16_fixed : Determined word16.Post (λ r s. r)
word16_fixed = by_equation _ _ _ (λ κ a r s p. p)

pub word32_fixed : Determined word32.Post (λ r s. r)
word32_fixed = by_equation _ _ _ (λ κ a r s p. p)

pub word64_fixed : Determined word64.Post (λ r s. r)
word64_fixed = by_equation _ _ _ (λ κ a r s p. p)

pub put_fixed : Determined put.Post (λ r s. both r s.0.now)
put_fixed = by_answer _ _ seen seen_same _ (λ κ a r s p. p)

pub zero_fixed : Determined zero.Post (λ r s. both r s.0.now)
zero_fixed = by_answer _ _ seen seen_same _ (λ κ a r s p. p)

-- for every number of bytes
pub zeros_fixed : (n : ℕ) (h : Fits w64 n) → Determined (zeros.Post n h) (λ r s. r)
zeros_fixed n h = by_equation _ _ _ (λ κ a r s p. p.0)

pub get_fixed : (n : ℕ) (h : Fits w64 n) → Determined (get.Post n h) (λ r s. r)
get_fixed n h = by_equation _ _ _ (λ κ a r s p. p)

-- for every type of what is picked, read and set
module _ (t : RattleType) (l : Laws t) (c : IsCopy t) (g : Ghosts t.Denot) (d : Dict) where
  pub pick_fixed : Determined (pick.Post t l c g d) (λ r s. r)
  pick_fixed = by_equation _ _ _ (λ κ a r s p. p)

  pub at_fixed : Determined (at.Post t l c g d) (λ r s. r)
  at_fixed = by_equation _ _ _ (λ κ a r s p. p)

  pub set_fixed : Determined (set.Post t l c g d) (λ r s. s.0.now)
  set_fixed = by_equation _ _ _ (λ κ a r s p. p)
