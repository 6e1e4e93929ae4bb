-- `desc::Descriptor::encode` meets its contract: each field's bytes are the definition's, by repeated division.
-- Assumes nothing.
use native.Mathlib.Nat.{div-div-eq-div-mul}
use Rattle.base.specs.Bytes.{bytes_of}
use Rattle.desc.specs.Desc.{encode_of}
use Rattle.desc.proofs.Descriptor.encode.Goals as goal

pub returns : goal.returns
unfolding encode_of bytes_of
returns c = simp (c.to_le_bytes.ensures, c.to_le_bytes-2.ensures, c.to_le_bytes-3.ensures, c.to_le_bytes-4.ensures, div-div-eq-div-mul)
