-- Each public contract of the crate determines what its function answers and leaves.
use Prim.Native.Nat.{ℕ}
use mathlib.Core.Path.{◌≡◌, refl, ap}
use native.Mathlib.Omega.{arith}
use lib.ListN.{get_or}
use Rattle.base.specs.Answer.{Answer}
use Rattle.base.specs.Determined.{Determined, both}
use Rattle.base.proofs.Determine.{by_equation, by_answer}
use Rattle.base.proofs.Refusals.{seen, seen_same}
use Rattle.std.specs.Prelude.{Option, Some, None}
use Rattle.desc.specs.Table.{answer_of}
use Rattle.desc.proofs.Descriptor.new.Reads as new
use Rattle.desc.proofs.Descriptor.flags.Reads as flags
use Rattle.desc.proofs.Descriptor.is_avail.Reads as desc_is_avail
use Rattle.desc.proofs.Descriptor.is_used.Reads as desc_is_used
use Rattle.desc.proofs.Descriptor.is_writable.Reads as is_writable
use Rattle.desc.proofs.Descriptor.is_next.Reads as is_next
use Rattle.desc.proofs.Descriptor.is_indirect.Reads as is_indirect
use Rattle.desc.proofs.Descriptor.mark_avail.Reads as mark_avail
use Rattle.desc.proofs.Descriptor.mark_used.Reads as mark_used
use Rattle.desc.proofs.Descriptor.encode.Reads as encode
use Rattle.desc.proofs.Descriptor.decode.Reads as decode
use Rattle.desc.proofs.is_avail.Reads as is_avail
use Rattle.desc.proofs.is_used.Reads as is_used
use Rattle.desc.proofs.store.Reads as store
use Rattle.desc.proofs.load.Reads as load
use Rattle.desc.proofs.DescTable.from_raw_parts.Reads as from_raw_parts
use Rattle.desc.proofs.DescTable.desc_addr.Reads as desc_addr
use Rattle.desc.proofs.DescTable.clear.Reads as clear
use Rattle.desc.proofs.DescTable.len.Reads as len
use Rattle.desc.proofs.DescTable.is_empty.Reads as is_empty
use Rattle.desc.proofs.DescTable.base_addr.Reads as base_addr
use Rattle.desc.proofs.DescTable.default_len.Reads as default_len

-- a place's values tell it
value : ℕ → Answer → ℕ
value i a = get_or a.values i 0

place_same : (x y : Option ℕ) → answer_of x ≡ answer_of y → x ≡ y
unfolding value
place_same (Some p) (Some q) h = ap Some (ap (value 1) h)
place_same (Some p) None h = absurd (omega (arith, ap (value 0) h))
place_same None (Some q) h = absurd (omega (arith, ap (value 0) h))
place_same None None h = refl

pub new_fixed : Determined new.Post (λ r s. r)
new_fixed = by_equation _ _ _ (λ κ a r s p. p)

pub flags_fixed : Determined flags.Post (λ r s. r)
flags_fixed = by_equation _ _ _ (λ κ a r s p. p)

pub desc_is_avail_fixed : Determined desc_is_avail.Post (λ r s. r)
desc_is_avail_fixed = by_equation _ _ _ (λ κ a r s p. p)

pub desc_is_used_fixed : Determined desc_is_used.Post (λ r s. r)
desc_is_used_fixed = by_equation _ _ _ (λ κ a r s p. p)

pub is_writable_fixed : Determined is_writable.Post (λ r s. r)
is_writable_fixed = by_equation _ _ _ (λ κ a r s p. p)

pub is_next_fixed : Determined is_next.Post (λ r s. r)
is_next_fixed = by_equation _ _ _ (λ κ a r s p. p)

pub is_indirect_fixed : Determined is_indirect.Post (λ r s. r)
is_indirect_fixed = by_equation _ _ _ (λ κ a r s p. p)

pub mark_avail_fixed : Determined mark_avail.Post (λ r s. r)
mark_avail_fixed = by_equation _ _ _ (λ κ a r s p. p)

pub mark_used_fixed : Determined mark_used.Post (λ r s. r)
mark_used_fixed = by_equation _ _ _ (λ κ a r s p. p)

pub encode_fixed : Determined encode.Post (λ r s. r)
encode_fixed = by_equation _ _ _ (λ κ a r s p. p)

pub decode_fixed : Determined decode.Post (λ r s. r)
decode_fixed = by_equation _ _ _ (λ κ a r s p. p)

pub is_avail_fixed : Determined is_avail.Post (λ r s. r)
is_avail_fixed = by_equation _ _ _ (λ κ a r s p. p)

pub is_used_fixed : Determined is_used.Post (λ r s. r)
is_used_fixed = by_equation _ _ _ (λ κ a r s p. p)

pub store_fixed : Determined store.Post (λ r s. both r s.0.now)
store_fixed = by_answer _ _ seen seen_same _ (λ κ a r s p. p)

pub load_fixed : Determined load.Post (λ r s. r)
load_fixed = by_equation _ _ _ (λ κ a r s p. p)

pub from_raw_parts_fixed : Determined from_raw_parts.Post (λ r s. r)
from_raw_parts_fixed = by_equation _ _ _ (λ κ a r s p. p)

pub desc_addr_fixed : Determined desc_addr.Post (λ r s. r)
desc_addr_fixed = by_answer _ _ answer_of place_same _ (λ κ a r s p. p)

pub clear_fixed : Determined clear.Post (λ r s. both r s.1.0.now)
clear_fixed = by_answer _ _ seen seen_same _ (λ κ a r s p. p)

pub len_fixed : Determined len.Post (λ r s. r)
len_fixed = by_equation _ _ _ (λ κ a r s p. p)

pub is_empty_fixed : Determined is_empty.Post (λ r s. r)
is_empty_fixed = by_equation _ _ _ (λ κ a r s p. p)

pub base_addr_fixed : Determined base_addr.Post (λ r s. r)
base_addr_fixed = by_equation _ _ _ (λ κ a r s p. p)

pub default_len_fixed : Determined default_len.Post (λ r s. r)
default_len_fixed = by_equation _ _ _ (λ κ a r s p. p)
