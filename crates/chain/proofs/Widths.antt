-- What `readables` and `writables` promise of a chain's addresses and of its lengths: elements of 8 and of 4 bytes.
-- Assumes nothing.
use mathlib.Core.Path.{◌≡◌}
use denote.Param.Laws.{Laws}
use denote.Builtin.{u32, u64}
use Rattle.base.specs.Part.{slice}
use Rattle.base.specs.Determined.{Determined}
use Rattle.chain.specs.Chain.{readables_of, writables_of}
use Rattle.chain.proofs.Fixed.{readables_fixed, writables_fixed}
use Rattle.chain.proofs.readables.Reads as readables
use Rattle.chain.proofs.writables.Reads as writables

module _ (l : Laws u64) where
  pub addr_readables :
      (κ : _) (a : _) (r : _) (s : _) → readables.Post u64 l κ a r s
      → slice r.ref_ptr r.now ≡ readables_of 8 a.1.0 (slice a.0.ref_ptr a.0.now)
  addr_readables κ a r s p = p

  pub addr_writables :
      (κ : _) (a : _) (r : _) (s : _) → writables.Post u64 l κ a r s
      → slice r.ref_ptr r.now ≡ writables_of 8 a.1.0 (slice a.0.ref_ptr a.0.now)
  addr_writables κ a r s p = p

  pub addr_readables_fixed : Determined (readables.Post u64 l) (λ r s. slice r.ref_ptr r.now)
  addr_readables_fixed = readables_fixed u64 l

  pub addr_writables_fixed : Determined (writables.Post u64 l) (λ r s. slice r.ref_ptr r.now)
  addr_writables_fixed = writables_fixed u64 l

module _ (l : Laws u32) where
  pub len_readables :
      (κ : _) (a : _) (r : _) (s : _) → readables.Post u32 l κ a r s
      → slice r.ref_ptr r.now ≡ readables_of 4 a.1.0 (slice a.0.ref_ptr a.0.now)
  len_readables κ a r s p = p

  pub len_writables :
      (κ : _) (a : _) (r : _) (s : _) → writables.Post u32 l κ a r s
      → slice r.ref_ptr r.now ≡ writables_of 4 a.1.0 (slice a.0.ref_ptr a.0.now)
  len_writables κ a r s p = p

  pub len_readables_fixed : Determined (readables.Post u32 l) (λ r s. slice r.ref_ptr r.now)
  len_readables_fixed = readables_fixed u32 l

  pub len_writables_fixed : Determined (writables.Post u32 l) (λ r s. slice r.ref_ptr r.now)
  len_writables_fixed = writables_fixed u32 l
