-- `text::Line::put` meets its contract: what `base::bytes::put` answers says whether the text is whole in the buffer.
-- Assumes nothing.
use borrow.Author.Rules.{rules}
use Prim.Native.Nat.{ℕ}
use mathlib.Core.Path.{ap, ◌∙◌}
use native.Mathlib.Omega.{arith}
use Rattle.base.specs.Bytes.{put_of}
use Rattle.text.specs.Text.{written}
use Rattle.text.proofs.Texts.{put_ends, put_done, put_refused}
use Rattle.text.proofs.Line.put.Goals as goal
use Rattle.text.proofs.Line.put.Goals.{in-Ok, in-Err}

pub overflow_add-self : goal.overflow_add-self
overflow_add-self c =
    let a = c.args in
    let h = put_ends a.text.now a.self.now.out.now c.put.new.ring _ c.put.ensures c.in-Ok.is in
    grind (arith, h)

pub returns-clause-text : goal.returns-clause-text
returns-clause-text c =
    let a = c.args in
    let at = c.put.ensures ∙ ap (λ (n : ℕ). put_of a.self.now.out.now n a.text.now) {y = a.self.now.at} (search rules) in
    elim c.match-put.branch [
      | in-Ok w ↦
          ap (λ (n : ℕ). written n c.put.new.ring) w.self-is
          ∙ put_done a.text.now a.self.now.out.now c.put.new.ring a.self.now.at at w.in-Ok.is
      | in-Err w ↦
          ap (λ (n : ℕ). written n c.put.new.ring) w.self-is
          ∙ put_refused a.text.now a.self.now.out.now c.put.new.ring a.self.now.at at w.in-Err.is
    ]
