-- `dump::line::of_none` meets its contract: the texts of what is wrong, one behind the other.
-- Assumes nothing.
use Prim.Native.Nat.{ℕ}
use mathlib.Core.Path.{sym, ap, ◌∙◌}
use Rattle.text.specs.Text.{words, right_of, put_text, puts}
use Rattle.text.specs.Line.{written_in}
use Rattle.dump.specs.declared.BadHeader.{BadHeader}
use Rattle.dump.specs.declared.BadHeader.TheVariants.{BadSize, TableOutside}
use Rattle.dump.specs.Lines.{bad_texts, only_line}
use Rattle.dump.proofs.line.of_none.Goals as goal

pub returns-in-BadSize-clause-text : goal.returns-in-BadSize-clause-text
unfolding puts words
returns-in-BadSize-clause-text c =
    let w = written_in c.args.line.now in
    c.put-in-BadSize-2.ensures.text ∙ ap (put_text (words ", not 1 to 2048\n"))
    (c.right.ensures.text ∙ ap (puts (right_of 0 c.in-BadSize.n)) c.put-in-BadSize.ensures.text)
    ∙ ap (λ (k : ℕ). puts (only_line (bad_texts (BadSize c.in-BadSize.n)) k) w) (sym c.if-k-ne0.false)
    ∙ ap (λ (e : BadHeader). puts (only_line (bad_texts e) c.args.k) w) (sym c.in-BadSize.is)

pub returns-in-TableOutside-clause-text : goal.returns-in-TableOutside-clause-text
unfolding puts words
returns-in-TableOutside-clause-text c =
    let w = written_in c.args.line.now in
    c.put-in-TableOutside-2.ensures.text ∙ ap (put_text (words ", behind the end of the bytes\n"))
    (c.right-in-TableOutside.ensures.text ∙ ap (puts (right_of 0 c.in-TableOutside.n)) c.put-in-TableOutside.ensures.text)
    ∙ ap (λ (k : ℕ). puts (only_line (bad_texts (TableOutside c.in-TableOutside.n)) k) w) (sym c.if-k-ne0.false)
    ∙ ap (λ (e : BadHeader). puts (only_line (bad_texts e) c.args.k) w) (sym c.in-TableOutside.is)
