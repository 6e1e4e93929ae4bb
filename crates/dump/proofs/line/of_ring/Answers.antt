-- `dump::line::of_ring` meets its contract: each exit by the line that it is.
-- Assumes nothing.
use native.Mathlib.Omega.{arith}
use Prim.Native.Nat.{ℕ, suc, ◌-◌, ◌+◌}
use mathlib.Core.Path.{◌≡◌, sym, ap, ◌∙◌}
use mathlib.Core.List.{List}
use Rattle.text.specs.Text.{words, puts}
use Rattle.text.specs.Line.{written_in}
use Rattle.window.specs.Window.{answer_of}
use Rattle.dump.specs.Lines.{ring_line}
use Rattle.dump.proofs.Lines.{held, absent}
use Rattle.dump.proofs.line.of_ring.Goals as goal

pub returns-then-k-eq0-clause-text : goal.returns-then-k-eq0-clause-text
unfolding ring_line puts words
returns-then-k-eq0-clause-text c =
    let a = c.args in
    c.put.ensures.text
    ∙ ap (λ (m : ℕ). puts (ring_line a.input.now (6 + a.ring.table) a.ring.size m) (written_in a.line.now)) (sym c.if-k-eq0.true)

pub returns-in-Some-clause-text : goal.returns-in-Some-clause-text
returns-in-Some-clause-text c =
    let a = c.args in
    let t = 6 + a.ring.table in
    let k : a.k ≡ suc (a.k - 1) = omega (arith, c.if-k-eq0.false) in
    c.slot.ensures.text
    ∙ ap (λ (l : List (List ℕ)). puts l (written_in a.line.now))
    (sym (ap (ring_line a.input.now t a.ring.size) k
    ∙ held a.input.now t a.ring.size (a.k - 1) c.in-Some.d (ap answer_of (sym c.in-Some.is) ∙ c.slot_at.ensures)))

pub returns-in-None-clause-text : goal.returns-in-None-clause-text
returns-in-None-clause-text c =
    let a = c.args in
    let t = 6 + a.ring.table in
    let k : a.k ≡ suc (a.k - 1) = omega (arith, c.if-k-eq0.false) in
    c.behind.ensures.text
    ∙ ap (λ (l : List (List ℕ)). puts l (written_in a.line.now))
    (sym (ap (ring_line a.input.now t a.ring.size) k
    ∙ absent a.input.now t a.ring.size (a.k - 1) (ap answer_of (sym c.in-None.is) ∙ c.slot_at.ensures)))
