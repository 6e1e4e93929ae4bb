-- `format::part::first` meets its contract: what there is of the n elements.
use Rattle.std.specs.Mem.{type_size}
use Rattle.base.specs.Part.{slice}
use Rattle.format.proofs.Parts.{first_cut}
use Rattle.format.proofs.part.first.Goals as goal

pub returns : goal.returns
returns g c = let a = c.args in first_cut (type_size g.row.T) a.n c.min.result (slice a.s.ref_ptr a.s.now) c.min.ensures
