-- `text::Line::number` meets its contract: the digits that `io::decimal` gives, and the byte behind them.
-- Assumes nothing.
use borrow.Author.Rules.{rules}
use mathlib.Core.Path.{sym, ◌∙◌}
use lib.ListN.{take}
use Rattle.text.proofs.Decimal.{at_most_20}
use Rattle.text.proofs.Texts.{number_put, number_lost}
use Rattle.text.proofs.Line.number.Goals as goal

pub returns-then-not-ends_by-clause-text : goal.returns-then-not-ends_by-clause-text
returns-then-not-ends_by-clause-text c =
    let a = c.args in
    let d = c.decimal-k in
    let few = at_most_20 d.result a.x (search rules) d.ensures.len in
    number_lost a.self.now.out.now a.self.now.at d.result a.x a.end few d.ensures.len (sym c.ends_by.ensures ∙ c.if-not-ends_by.true)

pub returns-clause-text : goal.returns-clause-text
returns-clause-text c =
    let a = c.args in
    let d = c.decimal-k in
    let few = at_most_20 d.result a.x (search rules) d.ensures.len in
    number_put a.self.now.out.now a.self.now.at d.result a.x a.end few d.ensures.len
    (take d.result d.new.out) c.put.new.ring d.ensures.digits (sym c.ends_by.ensures ∙ c.if-not-ends_by.false) c.put.ensures
