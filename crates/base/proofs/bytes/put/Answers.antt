-- `base::bytes::put` meets its contract: the test is the definition's, and the bytes stored one by one are the stores of `sets`.
use Prim.Native.Nat.{ℕ, ◌+◌}
use mathlib.Core.Path.{sym, ap, ◌∙◌}
use mathlib.Core.List.{List, []}
use native.Mathlib.Omega.{arith}
use borrow.Author.Tests.{leb-true, leb-false}
use lib.ListN.{length, take, get_or, set}
use lib.Seq.{sets, take-length}
use Rattle.base.specs.Answer.{outcome, done}
use Rattle.base.proofs.Runs.{put_fits, put_short, sets_more}
use Rattle.base.proofs.bytes.put.Goals as goal

pub returns-then-not-ends_by : goal.returns-then-not-ends_by
returns-then-not-ends_by c =
    let a = c.args in
    sym (put_short a.ring.now a.at a.b.now
    (leb-false (a.at + length a.b.now) (length a.ring.now) (sym c.ends_by.ensures ∙ c.if-not-ends_by.true)))

-- the next byte is stored
pub loop-k-preserved : goal.loop-k-preserved
loop-k-preserved c =
    let a = c.args in
    let k = c.loop-k.k in (
      omega arith,
      ap (λ (l : List ℕ). set l (a.at + k) (get_or a.b.now k 0)) c.loop-k.invariant.1
          ∙ sets_more a.b.now a.ring.now a.at k (omega arith),
    )

pub returns : goal.returns
returns c =
    let a = c.args in
    let fits = leb-true (a.at + length a.b.now) (length a.ring.now) (sym c.ends_by.ensures ∙ c.if-not-ends_by.false) in
    ap (outcome (done []))
    (c.loop-k.invariant.1
    ∙ ap (λ (k : ℕ). sets a.ring.now a.at (take k a.b.now)) (omega arith)
    ∙ ap (sets a.ring.now a.at) (take-length a.b.now))
    ∙ sym (put_fits a.ring.now a.at a.b.now fits)
