-- Each public contract of the crate determines what its function answers and leaves. Of a part of a slice it is the place (block
-- and byte offset) and the elements: all that a program can see of it.
use Prim.Native.Nat.{ℕ}
use denote.RattleType.{RattleType}
use denote.Param.Laws.{Laws, IsCopy}
use mir.Syntax.{Dict}
use Rattle.std.specs.declared.clone.Clone.{Ghosts as Clones}
use Rattle.std.specs.declared.convert.From.{Ghosts as Froms}
use Rattle.base.specs.declared.bytes.Word.{Ghosts as Words}
use Rattle.base.specs.Part.{slice}
use Rattle.base.specs.Determined.{Determined}
use Rattle.base.proofs.Determine.{by_equation}
use Rattle.format.proofs.part.first.Reads as part_first
use Rattle.format.proofs.part.from.Reads as part_from
use Rattle.format.proofs.part.between.Reads as part_between
use Rattle.format.proofs.input.byte.Reads as input_byte
use Rattle.format.proofs.input.bit.Reads as input_bit
use Rattle.format.proofs.input.cursor.Reads as input_cursor
use Rattle.format.proofs.input.event.Reads as input_event
use Rattle.format.proofs.input.slot.Reads as input_slot
use Rattle.format.proofs.input.numbers.Reads as input_numbers
use Rattle.format.proofs.forge.low16.Reads as forge_low16
use Rattle.format.proofs.forge.half.Reads as forge_half
use Rattle.format.proofs.forge.geometry.Reads as forge_geometry
use Rattle.format.proofs.forge.cursor.Reads as forge_cursor
use Rattle.format.proofs.lend.whole.Reads as lend_whole
use Rattle.format.proofs.lend.read.Reads as lend_read
use Rattle.format.proofs.header.read.Reads as header_read
use Rattle.format.proofs.header.seed.Reads as header_seed
use Rattle.format.proofs.header.geometry.Reads as header_geometry
use Rattle.format.proofs.form.length.Reads as form_length

pub input_byte_fixed : Determined input_byte.Post (λ r s. r)
input_byte_fixed = by_equation _ _ _ (λ κ a r s p. p)

pub input_bit_fixed : Determined input_bit.Post (λ r s. r)
input_bit_fixed = by_equation _ _ _ (λ κ a r s p. p)

pub input_cursor_fixed : Determined input_cursor.Post (λ r s. r)
input_cursor_fixed = by_equation _ _ _ (λ κ a r s p. p)

pub input_event_fixed : Determined input_event.Post (λ r s. r)
input_event_fixed = by_equation _ _ _ (λ κ a r s p. p)

pub input_slot_fixed : Determined input_slot.Post (λ r s. r)
input_slot_fixed = by_equation _ _ _ (λ κ a r s p. p)

pub forge_low16_fixed : Determined forge_low16.Post (λ r s. r)
forge_low16_fixed = by_equation _ _ _ (λ κ a r s p. p)

pub forge_half_fixed : Determined forge_half.Post (λ r s. r)
forge_half_fixed = by_equation _ _ _ (λ κ a r s p. p)

pub forge_geometry_fixed : Determined forge_geometry.Post (λ r s. r)
forge_geometry_fixed = by_equation _ _ _ (λ κ a r s p. p)

pub forge_cursor_fixed : Determined forge_cursor.Post (λ r s. r)
forge_cursor_fixed = by_equation _ _ _ (λ κ a r s p. p)

pub lend_whole_fixed : Determined lend_whole.Post (λ r s. r)
lend_whole_fixed = by_equation _ _ _ (λ κ a r s p. p)

pub lend_read_fixed : Determined lend_read.Post (λ r s. r)
lend_read_fixed = by_equation _ _ _ (λ κ a r s p. p)

pub header_read_fixed : Determined header_read.Post (λ r s. r)
header_read_fixed = by_equation _ _ _ (λ κ a r s p. p)

pub header_seed_fixed : Determined header_seed.Post (λ r s. r)
header_seed_fixed = by_equation _ _ _ (λ κ a r s p. p)

pub header_geometry_fixed : Determined header_geometry.Post (λ r s. r)
header_geometry_fixed = by_equation _ _ _ (λ κ a r s p. p)

pub form_length_fixed : Determined form_length.Post (λ r s. r)
form_length_fixed = by_equation _ _ _ (λ κ a r s p. p)

-- for every type of the elements
module _ (t : RattleType) (l : Laws t) where
  pub part_first_fixed : Determined (part_first.Post t l) (λ r s. slice r.ref_ptr r.now)
  part_first_fixed = by_equation _ _ _ (λ κ a r s p. p)

  pub part_from_fixed : Determined (part_from.Post t l) (λ r s. slice r.ref_ptr r.now)
  part_from_fixed = by_equation _ _ _ (λ κ a r s p. p)

  pub part_between_fixed : Determined (part_between.Post t l) (λ r s. slice r.ref_ptr r.now)
  part_between_fixed = by_equation _ _ _ (λ κ a r s p. p)

-- for every width of the words
module _
    (t : RattleType) (l : Laws t) (c : IsCopy t) (w : Words t.Denot) (wd : Dict) (g : Clones t.Denot) (d : Dict) (f : Froms t.Denot ℕ)
    (fd : Dict) where
  pub input_numbers_fixed : Determined (input_numbers.Post t l c w wd g d f fd) (λ r s. s.1.1.1.1.0.now)
  input_numbers_fixed = by_equation _ _ _ (λ κ a r s p. p)
