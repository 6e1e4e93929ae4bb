-- `text::Line::right` meets its contract: blanks, and the digits that `io::decimal` gives.
-- Assumes nothing.
use borrow.Author.Rules.{rules}
use Prim.Native.Nat.{ℕ}
use mathlib.Core.Path.{ap, ◌∙◌}
use lib.ListN.{take}
use Rattle.text.specs.Text.{blanks_of, put_text}
use Rattle.text.specs.Line.{written_in}
use Rattle.text.proofs.Decimal.{at_most_20}
use Rattle.text.proofs.Texts.{right_put}
use Rattle.text.proofs.Line.right.Goals as goal

pub returns-clause-text : goal.returns-clause-text
returns-clause-text c =
    let a = c.args in
    let d = c.decimal-k in
    let w = written_in a.self.now in
    let t = take d.result d.new.out in
    let few = at_most_20 d.result a.x (search rules) d.ensures.len in
    c.put.ensures.text
    ∙ ap (put_text t) (c.blanks.ensures.text ∙ ap (λ (m : ℕ). put_text (blanks_of m) w) c.saturating_sub.ensures)
    ∙ right_put w a.width d.result a.x t few d.ensures.len d.ensures.digits
