-- Questions and notifications: they are answered, and change nothing of what the invariant speaks of.
-- Assumes nothing.
use Prim.Native.Nat.{ℕ}
use mathlib.Core.Path.{◌≡◌, refl, sym, ap, ◌∙◌}
use mathlib.Core.Logic.{inl, inr, ⊎_elim}
use mathlib.Core.Bool.{Bool, true, false}
use mathlib.Core.List.{List, []}
use native.Mathlib.Omega.{arith}
use lib.Dec.{ltb}
use lib.ListN.{length}
use borrow.Author.Tests.{le-ltb, le-leb}
use Rattle.base.specs.Answer.{Answer, done, refused}
use Rattle.base.proofs.Tests.{by_lt}
use Rattle.cursor.specs.declared.RingCursor.{RingCursor}
use Rattle.layout.specs.declared.Layout.{Layout}
use Rattle.layout.specs.Layout.{bad_layout, table_bytes}
use Rattle.layout.proofs.Laws.{Apart, laid}
use Rattle.ring.specs.Slots.{place_of}
use Rattle.ring.specs.Asked.{ask_of}
use Rattle.ring.proofs.Asked.{ask_good}
use Rattle.ring.proofs.Frames.{Clear, EventAlone, slot_by_bytes, turned_alone, armed_alone}
use Rattle.producer.specs.declared.RingProducer.{RingProducer}
use Rattle.producer.specs.Record as made
use Rattle.producer.specs.Outcome as made_outcome
use Rattle.producer.specs.Notices as used_notices
use Rattle.producer.specs.Fresh as made_fresh
use Rattle.producer.proofs.Reset as made_reset
use Rattle.producer.proofs.Notices as used_laws
use Rattle.producer.proofs.Goes as makes
use Rattle.event.specs.Event.{DESC}
use Rattle.consumer.specs.declared.RingConsumer.{RingConsumer}
use Rattle.consumer.specs.declared.Checkpoint.{Checkpoint}
use Rattle.consumer.specs.Record as taken
use Rattle.consumer.specs.Outcome as taken_outcome
use Rattle.consumer.specs.Notices as avail_notices
use Rattle.consumer.specs.Fresh as taken_fresh
use Rattle.consumer.proofs.Reset as taken_reset
use Rattle.consumer.proofs.Notices as avail_laws
use Rattle.consumer.proofs.Goes as takes
use Rattle.queue.specs.History as said
use Rattle.queue.proofs.Model.{Queue}
use Rattle.packed.specs.Calls.{asks}
use Rattle.packed.specs.Machine.{World}
use Rattle.packed.proofs.Answers.{says_quiet, after_used_turn, after_avail_turn, read_refused}
use Rattle.packed.proofs.Position.{pos, pos_low}
use Rattle.packed.proofs.Counts.{Used}
use Rattle.packed.proofs.Invariant.{Like, Good, good_by, big, p_size, p_sound, p_whole, p_lent, c_sound, c_whole, c_lent, with_shadows}
use Rattle.packed.proofs.Invariant.{like_unchanged, like_same}

module _ (l : Layout) (laid_out : bad_layout l ≡ false) where
  abbrev size : ℕ
  size = l.size

  -- bytes in an event area are in no slot
  event_clear : (at p : ℕ) → Apart l.table (table_bytes l) at 4 → Clear at 4 (place_of l.table (pos size p)) 16
  event_clear at p o =
      ⊎_elim
      (λ h. inr (omega (arith, h, pos_low size (big l laid_out) p)))
      (λ h. inl (omega (arith, h)))
      o

  module _ (ret : List Used) (w : World) (q : Queue Checkpoint) (k : Like l ret w q) where
    quiet : (v : World) → Like l ret v q → Good l q (said.unchanged said.quiet) v
    quiet v m = (λ h. tt, (ret, like_unchanged l laid_out ret v q m said.quiet m.promise))

    -- a question that is answered
    asked : (a : Answer) (vs : List ℕ) (g : Bool) → a ≡ done vs → Good l q (says_quiet g a) w
    asked a vs g e = good_by l q _ (said.unchanged said.quiet) w w (ap (says_quiet g) e) refl (quiet w k)

    pub producer_asked_lem : (vs : List ℕ) → Good l q (says_quiet true (ask_of (made.bad_record w.producer.end) vs)) w
    producer_asked_lem vs = asked (ask_of (made.bad_record w.producer.end) vs) vs true (ask_good (made.bad_record w.producer.end) vs (p_sound l laid_out ret w q k))

    pub consumer_asked_lem : (vs : List ℕ) → Good l q (says_quiet true (ask_of (taken.bad_record w.consumer.end) vs)) w
    consumer_asked_lem vs = asked (ask_of (taken.bad_record w.consumer.end) vs) vs true (ask_good (taken.bad_record w.consumer.end) vs (c_sound l laid_out ret w q k))

    -- should_notify_since, with any old cursor
    pub since_good : (old : RingCursor) → Good l q (says_quiet (ltb old.head size) (used_notices.since_of w.producer.end w.ring old)) w
    since_good old =
        let r = p_sound l laid_out ret w q k in
        let s = p_size l laid_out ret w q k in
        by_lt old.head w.producer.end.layout.size
        (λ h.
        asked (used_notices.since_of w.producer.end w.ring old) _ (ltb old.head size)
        (used_laws.since_done w.producer.end w.ring old (makes.since_goes w.producer.end (length w.ring) old r (p_whole l laid_out ret w q k) h)))
        (λ h.
        let n = makes.since_bad w.producer.end (length w.ring) old (le-leb w.producer.end.layout.size old.head h) in
        let e : used_notices.since_of w.producer.end w.ring old ≡ refused 7 =
        used_laws.since_refused w.producer.end w.ring old (λ z. omega (arith, n, z)) ∙ ap refused n in
        good_by l q _ (said.unchanged (said.refused said.other false 7)) w w
        (read_refused (used_notices.since_of w.producer.end w.ring old) 7 (asks said.other (ltb old.head size)) e (omega arith)
        ∙ ap (λ (b : Bool). said.unchanged (said.refused said.other b 7)) (le-ltb old.head size (omega (arith, h, s))))
        refl (λ g. (λ z. z, inl (tt, (refl, refl))), (ret, like_unchanged l laid_out ret w q k (said.refused said.other false 7) k.promise)))

    -- a reset of an end given its own is always accepted, so it is in no run
    pub producer_reset_goes : (made_fresh.reset_of w.producer.end w.ring w.producer.ids w.producer.counts).answer.number ≡ 0
    unfolding made.lent_refusal
    producer_reset_goes =
        ap (λ (o : made_outcome.Outcome). o.answer.number)
        (made_reset.reset_done w.producer.end w.ring w.producer.ids w.producer.counts (simp (p_sound l laid_out ret w q k, p_lent l laid_out ret w q k)))

    pub consumer_reset_goes : (taken_fresh.reset_of w.consumer.end w.ring w.consumer.counts).answer.number ≡ 0
    unfolding taken.lent_refusal
    consumer_reset_goes =
        ap (λ (o : taken_outcome.Outcome). o.answer.number)
        (taken_reset.reset_done w.consumer.end w.ring w.consumer.counts (simp (c_sound l laid_out ret w q k, c_lent l laid_out ret w q k)))

    -- ---- notifications: they change a shadow and bytes of an event area

    abbrev shadowed : ℕ → ℕ → List ℕ → World
    shadowed = with_shadows l laid_out ret w q k

    -- bytes that differ in an event area alone, which is no part of the table
    event_like : (at : ℕ) → Apart l.table (table_bytes l) at 4 → (s t : ℕ) (r : List ℕ) → EventAlone at w.ring r → Like l ret (shadowed s t r) q
    event_like at apart s t r a =
        like_same l laid_out ret w q k s t r a.same_length
        (λ p. sym (slot_by_bytes l.table (pos size p) r w.ring (a.clear (place_of l.table (pos size p)) 16 (event_clear at p apart))))

    -- a call of either end whose outcome o is x, answered, with a world after it that is like the queue
    module _ {O : Type 0} (answer_of : O → Answer) (behind : O → World) where
      outcome_good : (o x : O) → o ≡ x → answer_of x ≡ done [] → Like l ret (behind x) q → Good l q (says_quiet true (answer_of o)) (behind o)
      outcome_good o x e d m =
          good_by l q _ (said.unchanged said.quiet) _ (behind x) (ap (λ (y : O). says_quiet true (answer_of y)) e ∙ ap (says_quiet true) d) (ap behind e) (quiet (behind x) m)

    -- ---- the driver's event area

    driver_apart : Apart l.table (table_bytes l) w.producer.end.layout.driver 4
    driver_apart = rw k.p_layout (laid l laid_out).table_driver

    used_good : (o x : made_outcome.Changed) → o ≡ x → x.answer ≡ done [] → Like l ret (after_used_turn w x) q → Good l q (says_quiet true o.answer) (after_used_turn w o)
    used_good = outcome_good (λ x. x.answer) (after_used_turn w)

    p_goes : made.bytes_refusal w.producer.end (length w.ring) ≡ 0
    p_goes = makes.bytes_goes w.producer.end (length w.ring) (p_sound l laid_out ret w q k) (p_whole l laid_out ret w q k)

    -- the record with other flags in its shadow, written out
    p_shadow : (f : ℕ) (r : List ℕ) → made_outcome.changed (done []) (used_notices.shadow_of w.producer.end f) r ≡ made_outcome.changed (done []) (shadowed f 0 r).producer.end r
    p_shadow f r = ap (λ (p : RingProducer). made_outcome.changed (done []) p r) (makes.shadow_is w.producer.end f)

    notice_used_good :
        (f : ℕ) (r : List ℕ) → EventAlone w.producer.end.layout.driver w.ring r
        → Good l q (says_quiet true (used_notices.notice_of w.producer.end w.ring f r).answer) (after_used_turn w (used_notices.notice_of w.producer.end w.ring f r))
    notice_used_good f r a =
        used_good _ _ (used_laws.notice_done w.producer.end w.ring f r p_goes ∙ p_shadow f r) refl (event_like w.producer.end.layout.driver driver_apart f w.consumer.end.shadow r a)

    pub turn_used_good : (f : ℕ) → Good l q (says_quiet true (used_notices.turn_of w.producer.end w.ring f).answer) (after_used_turn w (used_notices.turn_of w.producer.end w.ring f))
    turn_used_good f = notice_used_good f _ (turned_alone w.producer.end.layout.driver w.ring w.producer.end.shadow f)

    pub arm_used_good :
        (o : ℕ) (b : Bool) → Good l q (says_quiet true (used_notices.arm_of w.producer.end w.ring o b).answer) (after_used_turn w (used_notices.arm_of w.producer.end w.ring o b))
    arm_used_good o b = notice_used_good DESC _ (armed_alone w.producer.end.layout.driver w.ring o b)

    -- ---- the device's

    device_apart : Apart l.table (table_bytes l) w.consumer.end.layout.device 4
    device_apart = rw k.c_layout (laid l laid_out).table_device

    avail_good : (o x : taken_outcome.Changed) → o ≡ x → x.answer ≡ done [] → Like l ret (after_avail_turn w x) q → Good l q (says_quiet true o.answer) (after_avail_turn w o)
    avail_good = outcome_good (λ x. x.answer) (after_avail_turn w)

    c_goes : taken.bytes_refusal w.consumer.end (length w.ring) ≡ 0
    c_goes = takes.bytes_goes w.consumer.end (length w.ring) (c_sound l laid_out ret w q k) (c_whole l laid_out ret w q k)

    c_shadow : (f : ℕ) (r : List ℕ) → taken_outcome.changed (done []) (avail_notices.shadow_of w.consumer.end f) r ≡ taken_outcome.changed (done []) (shadowed 0 f r).consumer.end r
    c_shadow f r = ap (λ (p : RingConsumer). taken_outcome.changed (done []) p r) (takes.shadow_is w.consumer.end f)

    notice_avail_good :
        (f : ℕ) (r : List ℕ) → EventAlone w.consumer.end.layout.device w.ring r
        → Good l q (says_quiet true (avail_notices.notice_of w.consumer.end w.ring f r).answer) (after_avail_turn w (avail_notices.notice_of w.consumer.end w.ring f r))
    notice_avail_good f r a =
        avail_good _ _ (avail_laws.notice_done w.consumer.end w.ring f r c_goes ∙ c_shadow f r) refl (event_like w.consumer.end.layout.device device_apart w.producer.end.shadow f r a)

    pub turn_avail_good : (f : ℕ) → Good l q (says_quiet true (avail_notices.turn_of w.consumer.end w.ring f).answer) (after_avail_turn w (avail_notices.turn_of w.consumer.end w.ring f))
    turn_avail_good f = notice_avail_good f _ (turned_alone w.consumer.end.layout.device w.ring w.consumer.end.shadow f)

    pub arm_avail_good :
        (o : ℕ) (b : Bool) → Good l q (says_quiet true (avail_notices.arm_of w.consumer.end w.ring o b).answer) (after_avail_turn w (avail_notices.arm_of w.consumer.end w.ring o b))
    arm_avail_good o b = notice_avail_good DESC _ (armed_alone w.consumer.end.layout.device w.ring o b)
