-- `walk::Slots::chain` meets its contract: finishing the walk from here gives the whole.
-- Assumes nothing.
use native.Mathlib.Omega.{arith}
use Prim.Native.Nat.{◌-◌}
use mathlib.Core.Path.{◌≡◌, sym, ap, ap₂, ◌∙◌}
use borrow.Author.Tests.{not-true, not-false}
use Rattle.ring.specs.Slots.{slot_of}
use Rattle.walk.specs.Walk.{look_of, walk_of}
use Rattle.walk.proofs.Laws.{walk_more, walk_done, walk_none, look_count, look_readable}
use Rattle.walk.proofs.Slots.chain.Goals as goal

pub returns-then-not-w : goal.returns-then-not-w
returns-then-not-w c = sym (walk_done _ _ _ _ _ (not-true c.loop.w.more c.if-not-w.true)) ∙ c.loop.invariant.2

pub loop-preserved : goal.loop-preserved
loop-preserved c =
    let a = c.args in
    let h = c.loop in
    let d = slot_of a.self.table h.w.at a.self.ring.now in
    let e : c.look-w.result ≡ look_of a.self.size h.w d = c.look-w.ensures ∙ ap (look_of a.self.size h.w) c.look.ensures in (
      rw e (omega (arith, look_count a.self.size h.w d)),
      rw e (omega (arith, look_readable a.self.size h.w d)),
      ap₂ (walk_of a.self.table a.self.size a.self.ring.now) (omega arith) e
          ∙ sym (walk_more a.self.table a.self.size a.self.ring.now (a.self.size - h.counter) h.w (omega arith) (not-false h.w.more c.if-not-w.false))
          ∙ h.invariant.2,
    )

pub returns : goal.returns
returns c = sym (walk_none _ _ _ _ _ (omega arith)) ∙ c.loop.invariant.2
