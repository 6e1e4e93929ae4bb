-- Agreement with the document on batches that do not wrap (VIRTIO 1.1, 2.7.10): told exactly if the awaited slot is passed.
-- Assumes nothing.
use Rattle.std.proofs.Common.{◌≡◌, ℕ, ◌+◌, ◌-◌, ◌<◌, ◌≤◌, Bool, true, false, cond, ◌⊎◌, sym, refl, ap, ◌∙◌, ap₂, inl, inr, arith, le-ltb, lt-ltb}
use mathlib.Core.Bool.{beq}
use Rattle.std.proofs.lemmas.Bool.{true≢false}
use Rattle.base.proofs.Tests.{by_lt, by_eq}
use Rattle.cursor.specs.declared.RingCursor.{RingCursor}
use Rattle.cursor.specs.Cursor.{at, steps}
use Rattle.cursor.proofs.Laws.{steps_within}
use Rattle.event.specs.declared.EventSuppression.{EventSuppression}
use Rattle.event.specs.Event.{DESC, flags_of, off_of, wrap_of}
use Rattle.notify.specs.Passed.{Passed}
use Rattle.notify.specs.Notify.{sub16, need_event, awaited, notify_of}
use Rattle.notify.proofs.Laws.{sub16_le, sub16_lt, notify_desc, notify_past}

-- ---- on Booleans

clash : {b : Bool} → b ≡ false → b ≡ true → ⊥
clash e f = true≢false (sym f ∙ e)

beq_same : (a b : Bool) → a ≡ b → beq a b ≡ true
beq_same true true e = refl
beq_same false false e = refl
beq_same true false e = sym e
beq_same false true e = e

beq_other : (a b : Bool) → (a ≡ b → ⊥) → beq a b ≡ false
beq_other true true e = absurd (e refl)
beq_other false false e = absurd (e refl)
beq_other true false e = refl
beq_other false true e = refl

by_wrap : {P : Type 0} (a b : Bool) → (a ≡ b → P) → ((a ≡ b → ⊥) → P) → P
by_wrap true true f g = f refl
by_wrap false false f g = f refl
by_wrap true false f g = g (λ e. clash e refl)
by_wrap false true f g = g (λ e. clash refl e)

-- ---- the theorem. It is about rings, whose size is at most 32,768: at size 65,535, from (0, true) to (65,534, true), an event at
-- (0, false) is told of though that slot was not passed

module _
    (e : EventSuppression) (size : ℕ) (old new : RingCursor)
    (small : size ≤ 32768) (flags : flags_of e ≡ DESC) (round : old.wrap ≡ new.wrap)
    (order : old.head ≤ new.head) (below : new.head < size)
  where
    -- how far new is past an index, less one, and how far it moved
    back : ℕ → ℕ
    back o = sub16 (sub16 new.head o) 1

    moved : sub16 new.head old.head ≡ new.head - old.head
    moved = sub16_le new.head old.head order (omega arith)

    back_below : (o : ℕ) → o < new.head → back o ≡ new.head - o - 1
    unfolding back
    back_below o l =
        ap (λ (x : ℕ). sub16 x 1) (sub16_le new.head o (omega arith) (omega arith))
        ∙ sub16_le (new.head - o) 1 (omega arith) (omega arith)

    back_above : (o : ℕ) → new.head < o → o < 65536 → back o ≡ 65536 + new.head - o - 1
    unfolding back
    back_above o l h =
        ap (λ (x : ℕ). sub16 x 1) (sub16_lt new.head o l (omega arith)) ∙ sub16_le (65536 + new.head - o) 1 (omega arith) (omega arith)

    back_same : (o : ℕ) → new.head ≡ o → back o ≡ 65535
    unfolding back
    back_same o e =
        ap (λ (x : ℕ). sub16 x 1) (sub16_le new.head o (omega arith) (omega arith) ∙ nothing new.head o e)
        ∙ sub16_lt 0 1 (omega arith) (omega arith)
      where
        nothing : (x y : ℕ) → x ≡ y → x - y ≡ 0
        nothing x y e = omega arith

    -- seen from the same round, an index is told of exactly from old's head up to new's
    told : (o : ℕ) → old.head ≤ o → o < new.head → need_event o new.head old.head ≡ true
    unfolding need_event back
    told o a b = lt-ltb (back o) (sub16 new.head old.head) (omega (arith, moved, back_below o b))

    not_told : (o : ℕ) → o < size → (o < old.head) ⊎ (new.head ≤ o) → need_event o new.head old.head ≡ false
    unfolding need_event back
    not_told o l (inl a) =
        le-ltb (back o) (sub16 new.head old.head) (omega (arith, moved, back_below o (omega arith)))
    not_told o l (inr a) =
        le-ltb (back o) (sub16 new.head old.head)
        (by_eq new.head o
        (λ e. omega (arith, moved, back_same o e))
        (λ d. omega (arith, moved, back_above o (less a d) (omega arith))))
      where
        less : {x y : ℕ} → x ≤ y → (x ≡ y → ⊥) → x < y
        less a d = omega arith

    -- seen from the other round, none is
    other_round : (o : ℕ) → o < size → need_event (sub16 o size) new.head old.head ≡ false
    unfolding need_event back
    other_round o l =
        let e : sub16 o size ≡ 65536 + o - size = sub16_lt o size l (omega arith) in
        le-ltb (back (sub16 o size)) (sub16 new.head old.head)
        (omega (arith, moved, e, back_above (sub16 o size) (omega (arith, e)) (omega (arith, e))))

    -- which slot a step reaches
    reached : (i : ℕ) → i < new.head - old.head → steps size i old ≡ at (old.head + i) old.wrap
    reached i l = steps_within size i old (omega arith)

    awaited_same : wrap_of e ≡ new.wrap → awaited e size new ≡ off_of e
    unfolding awaited
    awaited_same w = ap (λ (b : Bool). cond b (off_of e) (sub16 (off_of e) size)) (beq_same (wrap_of e) new.wrap w)

    awaited_other : (wrap_of e ≡ new.wrap → ⊥) → awaited e size new ≡ sub16 (off_of e) size
    unfolding awaited
    awaited_other w = ap (λ (b : Bool). cond b (off_of e) (sub16 (off_of e) size)) (beq_other (wrap_of e) new.wrap w)

    pub passed_told : Passed e size (new.head - old.head) old → notify_of e size old new ≡ true
    passed_told p =
        let r : at (old.head + p.step) old.wrap ≡ at (off_of e) (wrap_of e) = sym (reached p.step p.before) ∙ p.there in
        let o : old.head + p.step ≡ off_of e = ap (λ (c : RingCursor). c.head) r in
        let w : wrap_of e ≡ new.wrap = sym (ap (λ (c : RingCursor). c.wrap) r) ∙ round in
        let b = p.before in
        notify_desc e size old new flags (omega arith)
        ∙ ap (λ (i : ℕ). need_event i new.head old.head) (awaited_same w)
        ∙ told (off_of e) (omega arith) (omega arith)

    pub told_passed : notify_of e size old new ≡ true → Passed e size (new.head - old.head) old
    told_passed t =
        by_lt (off_of e) size
        (λ l. by_wrap (wrap_of e) new.wrap
        (λ w.
        let n : need_event (off_of e) new.head old.head ≡ true =
        ap (λ (i : ℕ). need_event i new.head old.head) (sym (awaited_same w)) ∙ sym (notify_desc e size old new flags l) ∙ t in
        by_lt (off_of e) old.head
        (λ a. absurd (clash (not_told (off_of e) l (inl a)) n))
        (λ a. by_lt (off_of e) new.head
        (λ b. record {
          step = off_of e - old.head;
          before = omega arith;
          there =
              reached (off_of e - old.head) (omega arith)
              ∙ ap₂ at (sum (off_of e) old.head a) (round ∙ sym w);
        })
        (λ b. absurd (clash (not_told (off_of e) l (inr b)) n))))
        (λ w. absurd (clash (other_round (off_of e) l)
        (ap (λ (i : ℕ). need_event i new.head old.head) (sym (awaited_other w)) ∙ sym (notify_desc e size old new flags l) ∙ t))))
        (λ l. absurd (clash (notify_past e size old new flags l) t))
      where
        sum : (x y : ℕ) → y ≤ x → y + (x - y) ≡ x
        sum x y h = omega arith
