-- Whether the other end is to be told (document 01, "What each end does", Notify; VIRTIO 1.1, 2.7.10).
use Rattle.std.specs.Prelude.{ℕ, ◌+◌, ◌-◌, ◌%◌, Bool, true, false, cond, not, ◌||◌, [], ◌∷◌, ◌==◌, nat_le, nat_lt, Result}
use Rattle.std.specs.Bool.{beq}
use Rattle.base.specs.declared.RingError.{RingError}
use Rattle.base.specs.Answer.{Answer, done, refused, bit, answer_by}
use Rattle.cursor.specs.declared.RingCursor.{RingCursor}
use Rattle.event.specs.declared.EventSuppression.{EventSuppression}
use Rattle.event.specs.Event.{ENABLE, DISABLE, DESC, flags_of, off_of, wrap_of}

-- "all of them subtractions that wrap at 65,536"
unfoldable pub sub16 : ℕ → ℕ → ℕ
sub16 a b = (a + (65536 - b)) % 65536

-- "Yes exactly if new - offset - 1 is below new - old"
unfoldable pub need_event : ℕ → ℕ → ℕ → Bool
need_event off new old = nat_lt (sub16 (sub16 new off) 1) (sub16 new old)

-- "if the event's wrap differs from the new cursor's, the size is first taken from the offset, modulo 65,536"
unfoldable pub awaited : EventSuppression → ℕ → RingCursor → ℕ
awaited e size new = cond (beq (wrap_of e) new.wrap) (off_of e) (sub16 (off_of e) size)

-- "DISABLE no, ENABLE yes, 3 no, DESC with offset at or past the size no. Else .." It is 2.7.10's answer
-- on batches that do not wrap (`passed_told`, `told_passed` in proofs/Passed.antt); docs/DIFFERENCES.md has where a wrapped
-- one is answered otherwise
unfoldable pub notify_of : EventSuppression → ℕ → RingCursor → RingCursor → Bool
notify_of e size old new =
    cond (flags_of e == DISABLE) false
    (cond (flags_of e == ENABLE) true
    (cond (not (flags_of e == DESC) || nat_le size (off_of e)) false
    (need_event (awaited e size new) new.head old.head)))

-- called alone: refusal 7 where "a head [is] not below the size, also in an old cursor .. that is handed in"
unfoldable pub should_notify_of : EventSuppression → ℕ → RingCursor → RingCursor → Answer
should_notify_of e size old new =
    cond (nat_le size old.head || nat_le size new.head) (refused 7) (done (bit (notify_of e size old new) ∷ []))

-- the answer, in the paper's number and value
abbrev pub answer_of : Result Bool RingError → Answer
answer_of r = answer_by (λ b. bit b ∷ []) r
