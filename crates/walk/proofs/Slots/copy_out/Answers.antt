-- `walk::Slots::copy_out` meets its contract: finishing the copy from here gives the whole.
-- Assumes nothing.
use native.Mathlib.Omega.{arith}
use Prim.Native.Nat.{ℕ, ◌+◌, ◌-◌}
use mathlib.Core.Path.{◌≡◌, sym, ap, ap₂, ◌∙◌}
use mathlib.Core.List.{List, map}
use lib.ListN.{set}
use lib.Seq.{sets}
use Rattle.cursor.specs.declared.RingCursor.{RingCursor}
use Rattle.desc.specs.declared.Descriptor.{Descriptor}
use Rattle.walk.specs.Walk.{slots_from, addr_of, len_of}
use Rattle.walk.proofs.Laws.{copy_more, copy_none}
use Rattle.walk.proofs.Slots.copy_out.Goals as goal

pub loop-i-preserved : goal.loop-i-preserved
loop-i-preserved c =
    let a = c.args in
    let h = c.loop-i in
    let t = a.self.table in
    let z = a.self.size in
    let r = a.self.ring.now in
    let d = c.look-d in
    let more : (A : Descriptor → ℕ) (l : List ℕ)
    → sets (set l h.i (A d.result)) (h.i + 1) (map A (slots_from t z r c.stepped-c.result (a.n - (h.i + 1))))
    ≡ sets l h.i (map A (slots_from t z r h.c (a.n - h.i))) =
    λ A l.
    ap₂ (λ (x : Descriptor) (k : RingCursor).
    sets (set l h.i (A x)) (h.i + 1) (map A (slots_from t z r k (a.n - (h.i + 1)))))
    d.ensures c.stepped-c.ensures
    ∙ sym (copy_more t z r A l h.c a.n h.i (omega (arith, c.from-i-end.ensures))) in (
      ap (λ (l : List ℕ). sets l (h.i + 1) (map addr_of (slots_from t z r c.stepped-c.result (a.n - (h.i + 1))))) c.set.ensures
          ∙ more addr_of h.addrs ∙ h.invariant.0,
      ap (λ (l : List ℕ). sets l (h.i + 1) (map len_of (slots_from t z r c.stepped-c.result (a.n - (h.i + 1))))) c.set-in-loop-i.ensures
          ∙ more len_of h.lens ∙ h.invariant.1,
    )

pub returns : goal.returns
returns c =
    let a = c.args in
    let h = c.loop-i in
    let none : (A : Descriptor → ℕ) (l : List ℕ) → l ≡ sets l h.i (map A (slots_from a.self.table a.self.size a.self.ring.now h.c (a.n - h.i))) =
    λ A l. sym (copy_none a.self.table a.self.size a.self.ring.now A l h.c a.n h.i (omega (arith, c.from-i-end.ensures))) in
    (none addr_of h.addrs ∙ h.invariant.0, none len_of h.lens ∙ h.invariant.1)
