-- `base::bytes::get` meets its contract: the first bytes of what is left from the place on.
use mathlib.Core.Path.{◌∙◌}
use Rattle.base.proofs.Runs.{left_whole, left_short}
use Rattle.base.proofs.bytes.get.Goals as goal

pub returns-in-Some : goal.returns-in-Some
returns-in-Some g c =
    let first = c.in-Some.ensures.cases in
    first.same ∙ left_whole c.args.s.now c.from.result.now c.args.at g.row.N c.from.ensures first.enough

pub returns-in-None : goal.returns-in-None
returns-in-None g c = left_short c.args.s.now c.from.result.now c.args.at g.row.N c.from.ensures c.in-None.ensures.cases
