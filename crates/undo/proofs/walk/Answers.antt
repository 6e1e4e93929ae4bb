-- `undo::walk` meets its contract. The loop's invariant: finishing from here gives the whole, and taking the marks away
-- gives the table at entry.
-- Assumes nothing.
use Rattle.std.proofs.Common.{◌≡◌, ℕ, ◌+◌, ◌-◌, ◌<◌, ◌≤◌, true, false, List, length, get_or, take, drop, sym, refl, ap, ◌∙◌, ap₂, arith, take_all}
use Rattle.undo.specs.Undo.{outcome, flipped}
use Rattle.undo.proofs.Marks.{walked, stops, goes, walk_more, walk_stopped, walk_through, flipped_none, flipped_marked}
use Rattle.undo.proofs.Laws.{sum_walked}
use Rattle.undo.proofs.walk.Goals as goal

pub loop-k-init : goal.loop-k-init
loop-k-init c = (omega arith, refl, flipped_none c.args.counts.now)

pub loop-k-preserved : goal.loop-k-preserved
unfolding stops
loop-k-preserved c =
    let h = c.loop-k in
    let a = c.args in
    let id = get_or a.ids.now h.k 0 in
    let off : stops a.size h.counts h.left id ≡ false = sym c.stops.ensures ∙ c.if-stops.false in
    let held = c.at-left.ensures ∙ ap (λ (i : ℕ). get_or h.counts i 0) c.from.ensures in
    let g = goes a.size h.counts h.left id off in
    let there : h.k < length a.ids.now = omega arith in (
      omega (arith, held, g.0, g.1),
      ap₂ (λ (t : List ℕ) (x : ℕ). walked a.size a.most t (h.left - x) (drop (h.k + 1) a.ids.now)) c.flip.ensures held
          ∙ walk_more a.size a.most h.counts h.left a.ids.now h.k there off
          ∙ h.invariant.1,
      ap (λ (t : List ℕ). flipped t (take (h.k + 1) a.ids.now)) c.flip.ensures
          ∙ flipped_marked h.counts a.ids.now h.k there (omega (arith, c.at-left.type_inv, held))
          ∙ h.invariant.2,
    )

pub returns-then-stops : goal.returns-then-stops
unfolding stops
returns-then-stops c =
    let h = c.loop-k in
    let a = c.args in
    let on : stops a.size h.counts h.left (get_or a.ids.now h.k 0) ≡ true = sym c.stops.ensures ∙ c.if-stops.true in
    ap₂ outcome
    (sym (sum_walked a.size a.most a.counts.now a.ids.now c.requires.0 c.requires.1.0 c.requires.1.1
    ∙ sym h.invariant.1
    ∙ walk_stopped a.size a.most h.counts h.left a.ids.now h.k (omega arith) on))
    (c.flip_each.ensures ∙ ap (flipped h.counts) (grind (arith, take_all)) ∙ h.invariant.2)

pub returns : goal.returns
returns c =
    let h = c.loop-k in
    let a = c.args in
    let through : length a.ids.now ≤ h.k = omega arith in
    ap₂ outcome
    (sym (sum_walked a.size a.most a.counts.now a.ids.now c.requires.0 c.requires.1.0 c.requires.1.1
    ∙ sym h.invariant.1
    ∙ walk_through a.size a.most h.counts h.left a.ids.now h.k through))
    (c.flip_each-2.ensures
    ∙ ap (flipped h.counts) (grind (arith, take_all))
    ∙ ap (flipped h.counts) (sym (take_all h.k a.ids.now through))
    ∙ h.invariant.2)
