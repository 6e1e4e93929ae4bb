-- `ring::tables::count_up` meets its contract: one word more is stored, and what is past the part stays.
use Prim.Native.Nat.{◌<◌}
use native.Mathlib.Omega.{arith}
use native.Mathlib.Nat.{zero-add}
use mathlib.Core.Path.{◌≡◌, sym, ap, ◌∙◌}
use mathlib.Core.List.{List, ◌++◌, map}
use lib.ListN.{length, set, take, drop, length-take}
use Rattle.std.proofs.lemmas.List.{get_or-map, length-map}
use Rattle.ring.specs.Tables.{up_to}
use Rattle.ring.proofs.Laws.{up_length, up_at}
use Rattle.ring.proofs.Fills.{filled_next, filled_all}
use Rattle.ring.proofs.tables.count_up.Goals as goal

pub loop-i-preserved : goal.loop-i-preserved
loop-i-preserved g c =
    let h = c.loop-i in
    let of = g.W.Word.of in
    let n = c.args.n in
    let k = h.i in
    let part = take c.min-k.result c.args.s.now in
    let more : k < length (up_to n) = omega (arith, up_length 0 n, length-take c.min-k.result c.args.s.now) in
    let there : k < length (map of (up_to n)) = omega (arith, length-map (up_to n) of) in
    ap (λ (m : List _). set m k c.from-in-loop-i.result) h.invariant
    ∙ filled_next (map of (up_to n)) part k (of 0) c.from-in-loop-i.result c.loop-i-test.true there
    (get_or-map of (up_to n) k 0 (of 0) more
    ∙ ap of (up_at 0 n k (omega (arith, up_length 0 n)) ∙ zero-add k)
    ∙ sym (g.met.W.Word.from_same k c.from-in-loop-i.result c.from-in-loop-i.ensures))

pub returns : goal.returns
returns g c =
    let h = c.loop-i in
    let vs = map g.W.Word.of (up_to c.args.n) in
    let there : length vs ≡ c.args.n = length-map (up_to c.args.n) g.W.Word.of ∙ up_length 0 c.args.n in
    ap (λ (m : List _). m ++ drop c.min-k.result c.args.s.now) h.invariant
    ∙ filled_all vs c.args.s.now h.i c.min-k.result (omega (arith, length-take c.min-k.result c.args.s.now)) (omega arith)
