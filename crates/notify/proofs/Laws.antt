-- Subtraction that wraps at 65,536, and the decision by its cases.
-- Assumes nothing.
use Rattle.std.proofs.Common.{◌≡◌, ℕ, ◌+◌, ◌-◌, ◌<◌, ◌≤◌, true, false, arith, eq-eqb, le-leb}
use borrow.Author.Tests.{lt-leb}
use Rattle.cursor.specs.declared.RingCursor.{RingCursor}
use Rattle.event.specs.declared.EventSuppression.{EventSuppression}
use Rattle.event.specs.Event.{ENABLE, DISABLE, DESC, flags_of, off_of}
use Rattle.notify.specs.Notify.{sub16, need_event, awaited, notify_of}

pub sub16_le : (a b : ℕ) → b ≤ a → a < 65536 → sub16 a b ≡ a - b
unfolding sub16
sub16_le a b l h = omega arith

pub sub16_lt : (a b : ℕ) → a < b → b ≤ 65536 → sub16 a b ≡ 65536 + a - b
unfolding sub16
sub16_lt a b l h = omega arith

module _ (e : EventSuppression) (size : ℕ) (old new : RingCursor) where
  pub notify_off : flags_of e ≡ DISABLE → notify_of e size old new ≡ false
  unfolding notify_of
  notify_off f = simp (eq-eqb (flags_of e) DISABLE f)

  pub notify_on : flags_of e ≡ ENABLE → notify_of e size old new ≡ true
  unfolding notify_of
  notify_on f = simp f

  pub notify_invalid : flags_of e ≡ 3 → notify_of e size old new ≡ false
  unfolding notify_of
  notify_invalid f = simp f

  pub notify_past : flags_of e ≡ DESC → size ≤ off_of e → notify_of e size old new ≡ false
  unfolding notify_of
  notify_past f l = simp (f, le-leb size (off_of e) l)

  pub notify_desc :
      flags_of e ≡ DESC → off_of e < size → notify_of e size old new ≡ need_event (awaited e size new) new.head old.head
  unfolding notify_of
  notify_desc f l = simp (f, lt-leb size (off_of e) l)
