-- `dump::line::missing` meets its contract: one text behind the other.
-- Assumes nothing.
use mathlib.Core.Path.{ap, ◌∙◌}
use Rattle.text.specs.Text.{words, right_of, put_text, puts}
use Rattle.dump.proofs.line.missing.Goals as goal

pub returns-clause-text : goal.returns-clause-text
unfolding puts words
returns-clause-text c =
    let a = c.args in
    c.put-3.ensures.text ∙ ap (put_text (words "\n"))
    (c.right-2.ensures.text ∙ ap (puts (right_of 0 a.size))
    (c.put-2.ensures.text ∙ ap (put_text (words " and all behind it, of "))
    (c.right.ensures.text ∙ ap (puts (right_of 0 a.i))
    c.put.ensures.text)))
