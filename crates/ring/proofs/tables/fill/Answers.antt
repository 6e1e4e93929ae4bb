-- `ring::tables::fill` meets its contract: one element more is filled, and what is past the part stays.
use Prim.Native.Nat.{◌<◌}
use mathlib.Core.Path.{◌≡◌, ap, ◌∙◌}
use mathlib.Core.List.{List, ◌++◌}
use native.Mathlib.Omega.{arith}
use lib.ListN.{length, set, take, drop, replicate, length-take, length-replicate}
use Rattle.std.proofs.lemmas.List.{get_or-replicate}
use Rattle.ring.proofs.Fills.{filled_next, filled_all}
use Rattle.ring.proofs.tables.fill.Goals as goal

pub loop-x-preserved : goal.loop-x-preserved
loop-x-preserved g c =
    let v = c.args.v in
    let n = c.args.n in
    let k = c.loop-x.x-index in
    let there : k < length (replicate n v) =
    omega (arith, length-replicate n v, length-take c.min-n.result c.args.s.now) in
    ap (λ (m : List _). set m k v) c.loop-x.invariant
    ∙ filled_next (replicate n v) (take c.min-n.result c.args.s.now) k v v c.loop-x-test.true there
    (get_or-replicate n k v v (omega (arith, length-replicate n v)))

pub returns : goal.returns
returns g c =
    let vs = replicate c.args.n c.args.v in
    let there : length vs ≡ c.args.n = length-replicate c.args.n c.args.v in
    ap (λ (m : List _). m ++ drop c.min-n.result c.args.s.now) c.loop-x.invariant
    ∙ filled_all vs c.args.s.now c.loop-x.x-index c.min-n.result (omega (arith, length-take c.min-n.result c.args.s.now)) (omega arith)
