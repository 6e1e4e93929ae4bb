-- `base::bytes::U16Word::read` meets its contract: 2 bytes of what is left from the place on.
use native.Mathlib.Omega.{arith}
use Rattle.base.specs.Bytes.{word_at}
use Rattle.base.proofs.Words.{word_from}
use Rattle.base.proofs.bytes.U16Word.read.Goals as goal

pub returns : goal.returns
unfolding word_at
returns c =
    let e = word_from c.args.s.now c.from-s.result.now c.args.at 2 c.from-s.ensures in
    omega (arith, e, c.from_le_bytes.ensures, c.at.ensures, c.at-2.ensures)
