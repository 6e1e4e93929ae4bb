-- `lines::output::answer` meets its contract: the line's start, and then the values that there are.
use mathlib.Core.Path.{sym, ap, ap₂, ◌∙◌}
use mathlib.Core.List.{List, [], ◌∷◌}
use Prim.Native.Nat.{ℕ}
use lib.ListN.{take}
use Rattle.std.proofs.lemmas.List.{map-id}
use Rattle.base.specs.Part.{Slice}
use Rattle.format.proofs.Parts.{first_elements}
use Rattle.lines.specs.Line.{Answer, status_of, values_of}
use Rattle.text.specs.Text.{Written}
use Rattle.text.specs.Line.{written_in}
use Rattle.lines.specs.Text.{put_values}
use Rattle.lines.proofs.Texts.{values_append}
use Rattle.lines.proofs.output.answer.Goals as goal

pub returns-in-Ok-clause-text : goal.returns-in-Ok-clause-text
returns-in-Ok-clause-text c =
    let a = c.args in
    let v = c.in-Ok.v in
    let w = written_in a.line.now in
    c.values.ensures.text
    ∙ ap₂ (λ (x : List ℕ) (u : Written). put_values x u)
    (map-id c.first.result.now ∙ ap (λ (x : Slice ℕ). x.elements) c.first.ensures ∙ first_elements 8 v.count _)
    c.start.ensures.text
    ∙ sym (values_append (a.op ∷ 0 ∷ []) (take v.count v.list) w)
    ∙ ap (λ (x : Answer). put_values (a.op ∷ status_of x ∷ values_of x) w) (sym c.in-Ok.is)
