-- `text::Line::hex` meets its contract: the last of the digits that `io::hex` gives, which are as many as are wanted or more.
-- Assumes nothing.
use Prim.Native.Nat.{ℕ}
use mathlib.Core.Path.{ap, ◌∙◌}
use mathlib.Core.List.{List}
use native.Mathlib.Omega.{arith}
use Rattle.text.specs.Text.{put_text}
use Rattle.text.specs.Line.{written_in}
use Rattle.text.proofs.Texts.{hex_last}
use Rattle.text.proofs.Line.hex.Goals as goal

pub returns-clause-text : goal.returns-clause-text
returns-clause-text c =
    let a = c.args in
    let h = c.hex-k in
    c.put.ensures.text
    ∙ ap (λ (t : List ℕ). put_text t (written_in a.self.now))
    (hex_last h.result a.digits c.min-wanted.result a.x h.new.out c.min-wanted.ensures (omega (arith, c.min-wanted.ensures, h.ensures.len.0)) h.ensures.digits)
