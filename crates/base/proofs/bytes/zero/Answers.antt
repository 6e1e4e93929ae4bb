-- `base::bytes::zero` meets its contract: the test is the definition's, and the part that is filled is the stores of `sets`.
use Prim.Native.Nat.{ℕ, ◌+◌, ◌-◌}
use mathlib.Core.Path.{sym, ap, ◌∙◌}
use mathlib.Core.List.{[]}
use native.Mathlib.Omega.{arith}
use borrow.Author.Tests.{leb-true, leb-false}
use borrow.Rule.Slice.PartMut.{put_mid}
use lib.ListN.{length, replicate, length-replicate}
use Rattle.base.specs.Answer.{outcome, done}
use Rattle.base.proofs.Runs.{put_fits, put_short, filled}
use Rattle.base.proofs.bytes.zero.Goals as goal

pub returns-then-not-ends_by : goal.returns-then-not-ends_by
returns-then-not-ends_by c =
    let a = c.args in
    let short = leb-false (a.at + a.n) (length a.ring.now) (sym c.ends_by.ensures ∙ c.if-not-ends_by.true) in
    sym (put_short a.ring.now a.at (replicate a.n 0) (omega (arith, short, length-replicate {A = ℕ} a.n 0)))

pub returns : goal.returns
returns c =
    let a = c.args in
    let whole = leb-true (a.at + a.n) (length a.ring.now) (sym c.ends_by.ensures ∙ c.if-not-ends_by.false) in
    ap (outcome (done []))
    (ap (put_mid a.at (a.at + a.n - a.at) a.ring.now) (c.fill.ensures.after (λ y e. e))
    ∙ filled 0 a.ring.now a.at (a.at + a.n - a.at) a.n (omega arith) whole)
    ∙ sym (put_fits a.ring.now a.at (replicate a.n 0) (omega (arith, whole, length-replicate {A = ℕ} a.n 0)))
