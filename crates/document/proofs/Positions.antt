-- The ring's cursor is the document's (slot, wrap counter) (VIRTIO 1.1, 2.7.1), at every position, and what DESC waits for is said of both alike.
-- Assumes nothing.
use Prim.Native.Nat.{ℕ, zero, suc, ◌+◌, ◌-◌, ◌≤◌, ◌<◌}
use mathlib.Core.Path.{◌≡◌, refl, sym, ◌∙◌, ap, ap₂, subst}
use mathlib.Core.Bool.{Bool, true, false, cond}
use native.Mathlib.Omega.{arith}
use native.Mathlib.Nat.{add-zero, zero-add, mod-lt}
use Rattle.base.proofs.Tests.{by_lt}
use Rattle.cursor.specs.declared.RingCursor.{RingCursor}
use Rattle.cursor.specs.Cursor.{at, fresh, step, steps}
use Rattle.cursor.proofs.Laws.{step_on, step_last, steps_add, steps_none, steps_one, steps_within, steps_round}
use Rattle.event.specs.declared.EventSuppression.{EventSuppression}
use Rattle.event.specs.Event.{DESC, flags_of, off_of, wrap_of}
use Rattle.notify.specs.Notify.{notify_of}
use Rattle.notify.specs.Passed.{Passed}
use Rattle.notify.proofs.Passed.{passed_told, told_passed}
use Rattle.virtio.specs.Chains.{slot_at, counter_at, Reached}
use Rattle.virtio.proofs.Positions.{starts, goes_on, flips}
use Rattle.document.specs.Document.{cursor_at, position_of}

module _ (size : ℕ) (big : 0 < size) where
  -- one step is one position on
  step_position : (p : ℕ) → step size (cursor_at size p) ≡ cursor_at size (p + 1)
  step_position p =
      by_lt (slot_at size p + 1) size
      (λ h. let e = goes_on size big p h in step_on size (cursor_at size p) h ∙ ap₂ at (sym e.0) (sym e.1))
      (λ h.
      let e = flips size big p (whole (slot_at size p) (mod-lt p big) h) in
      step_last size (cursor_at size p) h ∙ ap₂ at (sym e.0) (sym e.1))
    where
      whole : (x : ℕ) → x < size → size ≤ x + 1 → x + 1 ≡ size
      whole x l h = omega arith

  -- and a move by n is n positions on
  pub steps_position : (p n : ℕ) → steps size n (cursor_at size p) ≡ cursor_at size (p + n)
  steps_position p zero = steps_none size (cursor_at size p) ∙ ap (cursor_at size) (sym (add-zero p))
  steps_position p (suc n) =
      let c = cursor_at size p in
      ap (λ (k : ℕ). steps size k c) (omega arith)
      ∙ steps_add size n 1 c
      ∙ steps_one size (steps size n c)
      ∙ ap (step size) (steps_position p n)
      ∙ step_position (p + n)
      ∙ ap (cursor_at size) (behind p n)
    where
      behind : (x y : ℕ) → x + y + 1 ≡ x + suc y
      behind x y = omega arith

  -- a cursor moved by n from fresh is the document's slot and counter at position n, for every n
  pub cursor_position : (n : ℕ) → steps size n fresh ≡ cursor_at size n
  cursor_position n =
      let e = starts size big in
      ap (steps size n) (ap₂ at (sym e.0) (sym e.1)) ∙ steps_position 0 n ∙ ap (cursor_at size) (zero-add n)

  -- and every cursor on the ring stands at a position
  pub has_position : (c : RingCursor) → c.head < size → c ≡ cursor_at size (position_of size c)
  has_position c h = each c.head c.wrap h
    where
      first : (x : ℕ) → x < size → steps size x fresh ≡ at x true
      first x l = steps_within size x fresh (omega arith) ∙ ap (λ (y : ℕ). at y true) (zero-add x)

      each : (x : ℕ) (w : Bool) → x < size → at x w ≡ cursor_at size (cond w x (x + size))
      each x true l = sym (first x l) ∙ cursor_position x
      each x false l =
          sym (steps_round size (at x true) l) ∙ ap (steps size size) (sym (first x l)) ∙ sym (steps_add size x size fresh)
          ∙ cursor_position (x + size)

  -- ---- 2.7.10, DESC: the slots that a move passes are those between the positions

  module _ (e : EventSuppression) (p n : ℕ) where
    pub passed_reached : Passed e size n (cursor_at size p) → Reached size p n (off_of e) (wrap_of e)
    passed_reached s =
        let r = sym (steps_position p s.step) ∙ s.there in
        record {
          step = s.step;
          before = s.before;
          slot = ap (λ (c : RingCursor). c.head) r;
          round = ap (λ (c : RingCursor). c.wrap) r;
        }

    pub reached_passed : Reached size p n (off_of e) (wrap_of e) → Passed e size n (cursor_at size p)
    reached_passed r = record { step = r.step; before = r.before; there = steps_position p r.step ∙ ap₂ at r.slot r.round }

    -- so the notify test on a batch of n slots from position p on that does not wrap: yes exactly if the awaited descriptor is among them
    module _ (small : size ≤ 32768) (flags : flags_of e ≡ DESC) (unwrapped : slot_at size p + n < size) where
      behind : cursor_at size (p + n) ≡ at (slot_at size p + n) (counter_at size p)
      behind = sym (steps_position p n) ∙ steps_within size n (cursor_at size p) unwrapped

      abbrev new : RingCursor
      new = at (slot_at size p + n) (counter_at size p)

      moved : (x y : ℕ) → x + y - x ≡ y
      moved x y = omega arith

      ahead : (x y : ℕ) → x ≤ x + y
      ahead x y = omega arith

      pub reached_told : Reached size p n (off_of e) (wrap_of e) → notify_of e size (cursor_at size p) (cursor_at size (p + n)) ≡ true
      reached_told r =
          ap (notify_of e size (cursor_at size p)) behind
          ∙ passed_told e size (cursor_at size p) new small flags refl (ahead (slot_at size p) n) unwrapped
          (subst (λ (k : ℕ). Passed e size k (cursor_at size p)) (sym (moved (slot_at size p) n)) (reached_passed r))

      pub told_reached : notify_of e size (cursor_at size p) (cursor_at size (p + n)) ≡ true → Reached size p n (off_of e) (wrap_of e)
      told_reached t =
          passed_reached
          (subst (λ (k : ℕ). Passed e size k (cursor_at size p)) (moved (slot_at size p) n)
          (told_passed e size (cursor_at size p) new small flags refl (ahead (slot_at size p) n) unwrapped
          (sym (ap (notify_of e size (cursor_at size p)) behind) ∙ t)))
