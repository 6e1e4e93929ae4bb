-- `format::input::numbers` meets its contract: one word more is read and stored, and what is past the part stays.
use Prim.Native.Nat.{◌<◌}
use native.Mathlib.Omega.{arith}
use borrow.Author.Rules.{rules}
use mathlib.Core.Path.{sym, ap, ◌∙◌}
use mathlib.Core.List.{List, ◌++◌}
use lib.ListN.{length, set, take, drop, length-take}
use Rattle.ring.proofs.Fills.{filled_next, filled_all}
use Rattle.format.proofs.Reading.{words, words_length, word_read, onward}
use Rattle.format.proofs.input.numbers.Goals as goal

pub loop-x-preserved : goal.loop-x-preserved
loop-x-preserved g c =
    let a = c.args in
    let h = c.loop-x in
    let s = a.s.now in
    let of = g.W.Word.of in
    let w = g.W.Word.width in
    let part = take c.min-k.result a.into.now in
    let more : h.x-index < a.n = omega (arith, length-take c.min-k.result a.into.now) in
    let there = words_length of w s a.«from» a.stride a.n in (
      onward a.«from» h.x-index a.stride (length s) h.at c.saturating_add-at.result (search rules) h.invariant.0 c.saturating_add-at.ensures,
      ap (λ (m : List _). set m h.x-index c.read.result) h.invariant.1
          ∙ filled_next (words of w s a.«from» a.stride a.n) part h.x-index (of 0) c.read.result c.loop-x-test.true (omega arith)
          (word_read of w s a.«from» a.stride a.n h.x-index h.at more h.invariant.0 ∙ sym c.read.ensures),
    )

pub returns : goal.returns
returns g c =
    let a = c.args in
    let h = c.loop-x in
    let vs = words g.W.Word.of g.W.Word.width a.s.now a.«from» a.stride a.n in
    let there = words_length g.W.Word.of g.W.Word.width a.s.now a.«from» a.stride a.n in
    ap (λ (m : List _). m ++ drop c.min-k.result a.into.now) h.invariant.1
    ∙ filled_all vs a.into.now h.x-index c.min-k.result (omega (arith, length-take c.min-k.result a.into.now)) (omega arith)
