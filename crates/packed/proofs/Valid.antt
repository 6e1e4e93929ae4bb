-- Only a valid call is accepted: what was handed in is judged by the size that was opened, and each end's record still has it.
-- Assumes nothing.
use Prim.Native.Nat.{ℕ}
use mathlib.Core.Path.{◌≡◌, refl, sym, ap, ◌∙◌}
use mathlib.Core.Bool.{Bool, true, false, false≢true, not, ◌||◌}
use mathlib.Core.List.{List}
use native.Mathlib.Omega.{arith}
use lib.Dec.{ltb, leb}
use lib.ListN.{length}
use borrow.Author.Tests.{ltb-false, le-leb, lt-leb, lt-ltb}
use Rattle.base.specs.Answer.{Answer}
use Rattle.base.proofs.Tests.{split, by_lt, neither}
use Rattle.cursor.specs.declared.RingCursor.{RingCursor}
use Rattle.layout.specs.declared.Layout.{Layout}
use Rattle.layout.specs.Layout.{bad_layout}
use Rattle.chain.specs.Chain.{bad_slices}
use Rattle.producer.specs.Outcome as made
use Rattle.producer.specs.Notices as used_notices
use Rattle.producer.proofs.Submit.{submit_refused}
use Rattle.producer.proofs.Notices.{since_refused}
use Rattle.producer.proofs.Goes as makes
use Rattle.consumer.specs.declared.Checkpoint.{Checkpoint}
use Rattle.consumer.specs.Outcome as taken_outcome
use Rattle.consumer.specs.Poll.{Taken, head_of}
use Rattle.consumer.proofs.Poll.{poll_stopped}
use Rattle.consumer.proofs.Rollback.{rollback_stopped}
use Rattle.consumer.proofs.Goes as takes
use Rattle.queue.specs.History.{Chain, Kind}
use Rattle.queue.specs.History as said
use Rattle.queue.proofs.Model.{Queue}
use Rattle.packed.specs.Calls.{ProducerCall, ConsumerCall, Own, one_of, valid_chain, valid_outputs, valid_checkpoint, request_of, own}
use Rattle.packed.specs.Calls.{submit_available, submit_available_with_notify, submit_one, submit_one_with_notify, poll_used, next_id}
use Rattle.packed.specs.Calls.{producer_asked, should_notify_since, turn_used, enable_used_desc, enable_used_for_next, producer_reset}
use Rattle.packed.specs.Calls.{poll_available, submit_used, submit_used_with_notify, peek_available, poll_checkpoint, rollback_polls}
use Rattle.packed.specs.Calls.{consumer_asked, turn_avail, enable_avail_desc, enable_avail_for_next, consumer_reset, by_producer, by_consumer}
use Rattle.packed.specs.Machine.{World, packed, own_answer, submits_of, tells_of, polls_of, rolls_of, producer_does, consumer_does}
use Rattle.packed.proofs.Answers.{and_true, valid_is}
use Rattle.packed.proofs.Counts.{Used}
use Rattle.packed.proofs.Invariant.{Like, p_size, p_sound, p_lent, c_size, c_sound, c_lent}

module _ (l : Layout) (laid_out : bad_layout l ≡ false) where
  abbrev size : ℕ
  size = l.size

  module _ (ret : List Used) (w : World) (q : Queue Checkpoint) (k : Like l ret w q) where
    -- a number that is not 0 is not success
    not_done : {A : Type 0} (n m : ℕ) → n ≡ m → (m ≡ 0 → ⊥) → n ≡ 0 → A
    not_done n m e h z = absurd (h (sym e ∙ z))

    submit_valid : (c : Chain) → (submits_of w.producer w.ring c).answer.number ≡ 0 → valid_chain c ≡ true
    submit_valid c z =
        let p = w.producer in
        split (bad_slices (length c.addrs) (length c.lens) c.readable)
        (λ b.
        let e = makes.submit_bad_chain p.end (length w.ring) p.ids p.counts (length c.addrs) (length c.lens) c.readable
        (p_sound l laid_out ret w q k) (p_lent l laid_out ret w q k) b in
        not_done (submits_of p w.ring c).answer.number 8
        (ap (λ (o : made.Outcome). o.answer.number) (submit_refused p.end w.ring p.ids p.counts c.addrs c.lens c.readable (λ y. omega (arith, e, y))) ∙ e)
        (λ y. omega arith) z)
        (λ f. valid_is c ∙ ap not f)

    told_valid : (c : Chain) → (tells_of w.producer w.ring c).answer.number ≡ 0 → valid_chain c ≡ true
    told_valid c z = submit_valid c (sym (makes.tell_number w.producer.end.avail (submits_of w.producer w.ring c)) ∙ z)

    since_valid : (c : RingCursor) → (used_notices.since_of w.producer.end w.ring c).number ≡ 0 → ltb c.head size ≡ true
    since_valid c z =
        let s = p_size l laid_out ret w q k in
        by_lt c.head size (λ h. lt-ltb c.head size h)
        (λ h.
        let e = makes.since_bad w.producer.end (length w.ring) c (le-leb w.producer.end.layout.size c.head (omega (arith, h, s))) in
        not_done (used_notices.since_of w.producer.end w.ring c).number 7
        (ap (λ (a : Answer). a.number) (since_refused w.producer.end w.ring c (λ y. omega (arith, e, y))) ∙ e) (λ y. omega arith) z)

    poll_valid : (outs louts : List ℕ) → (polls_of w.consumer w.ring outs louts).answer.number ≡ 0 → valid_outputs size outs louts ≡ true
    poll_valid outs louts z =
        let p = w.consumer.end in
        let s = c_size l laid_out ret w q k in
        split (ltb (length outs) p.layout.size || ltb (length louts) p.layout.size)
        (λ t.
        let e = takes.head_short p (length w.ring) (head_of p w.ring) (length w.consumer.counts) (length outs) (length louts)
        (c_sound l laid_out ret w q k) (c_lent l laid_out ret w q k) t 0 in
        not_done (polls_of w.consumer w.ring outs louts).answer.number 8
        (ap (λ (x : Taken). x.answer.number) (poll_stopped p w.ring w.consumer.counts outs louts (λ y. omega (arith, e, y))) ∙ e) (λ y. omega arith) z)
        (λ f.
        let g = neither (ltb (length outs) p.layout.size) _ f in
        and_true (leb size (length outs)) (leb size (length louts))
        (le-leb size (length outs) (omega (arith, s, ltb-false (length outs) p.layout.size g.0)))
        (le-leb size (length louts) (omega (arith, s, ltb-false (length louts) p.layout.size g.1))))

    roll_valid : (c : Checkpoint) (js : List ℕ) → (rolls_of w.consumer c js).answer.number ≡ 0 → valid_checkpoint size c ≡ true
    roll_valid c js z =
        let p = w.consumer.end in
        let s = c_size l laid_out ret w q k in
        let seven : leb p.layout.size c.avail.head || leb p.layout.size c.used.head ≡ true → valid_checkpoint size c ≡ true = λ t.
        let e = takes.handed_bad p c (length w.consumer.counts) t 0 in
        not_done (rolls_of w.consumer c js).answer.number 7
        (ap (λ (o : taken_outcome.Rolled). o.answer.number) (rollback_stopped p w.consumer.counts c js (λ y. omega (arith, e, y))) ∙ e) (λ y. omega arith) z in
        by_lt c.avail.head size
        (λ a.
        by_lt c.used.head size
        (λ u. and_true (ltb c.avail.head size) (ltb c.used.head size) (lt-ltb c.avail.head size a) (lt-ltb c.used.head size u))
        (λ u. seven (simp (lt-leb p.layout.size c.avail.head (omega (arith, a, s)), le-leb p.layout.size c.used.head (omega (arith, u, s))))))
        (λ a. seven (simp (le-leb p.layout.size c.avail.head (omega (arith, a, s)))))

    -- any call by an end given its own that is accepted was valid
    producer_valid : (c : ProducerCall) → (own_answer packed w (by_producer c)).number ≡ 0 → (request_of size (own (by_producer c))).valid ≡ true
    unfolding producer_does
    producer_valid (submit_available c) z = submit_valid c z
    producer_valid (submit_available_with_notify c) z = told_valid c z
    producer_valid (submit_one a n b) z = submit_valid (one_of a n b) z
    producer_valid (submit_one_with_notify a n b) z = told_valid (one_of a n b) z
    producer_valid poll_used z = refl
    producer_valid next_id z = refl
    producer_valid (producer_asked x) z = refl
    producer_valid (should_notify_since c) z = since_valid c z
    producer_valid (turn_used f) z = refl
    producer_valid (enable_used_desc o b) z = refl
    producer_valid enable_used_for_next z = refl
    producer_valid producer_reset z = refl

    consumer_valid : (c : ConsumerCall) → (own_answer packed w (by_consumer c)).number ≡ 0 → (request_of size (own (by_consumer c))).valid ≡ true
    unfolding consumer_does
    consumer_valid (poll_available a b) z = poll_valid a b z
    consumer_valid (submit_used i n) z = refl
    consumer_valid (submit_used_with_notify i n) z = refl
    consumer_valid peek_available z = refl
    consumer_valid poll_checkpoint z = refl
    consumer_valid (rollback_polls c js) z = roll_valid c js z
    consumer_valid (consumer_asked x) z = refl
    consumer_valid (turn_avail f) z = refl
    consumer_valid (enable_avail_desc o b) z = refl
    consumer_valid enable_avail_for_next z = refl
    consumer_valid consumer_reset z = refl

    pub own_valid : (c : Own) → (own_answer packed w c).number ≡ 0 → (request_of size (own c)).valid ≡ true
    own_valid (by_producer c) z = producer_valid c z
    own_valid (by_consumer c) z = consumer_valid c z

-- no call by an end given its own is a foreign one
is_foreign : Kind Checkpoint → Bool
is_foreign (said.submit c) = false
is_foreign said.reclaim = false
is_foreign said.next_id = false
is_foreign said.poll = false
is_foreign (said.complete d) = false
is_foreign said.peek = false
is_foreign said.checkpoint = false
is_foreign (said.rollback c js) = false
is_foreign said.other = false
is_foreign said.foreign = true

producer_own : (size : ℕ) (c : ProducerCall) → is_foreign (request_of size (own (by_producer c))).kind ≡ false
unfolding is_foreign
producer_own size (submit_available c) = refl
producer_own size (submit_available_with_notify c) = refl
producer_own size (submit_one a n b) = refl
producer_own size (submit_one_with_notify a n b) = refl
producer_own size poll_used = refl
producer_own size next_id = refl
producer_own size (producer_asked x) = refl
producer_own size (should_notify_since c) = refl
producer_own size (turn_used f) = refl
producer_own size (enable_used_desc o b) = refl
producer_own size enable_used_for_next = refl
producer_own size producer_reset = refl

consumer_own : (size : ℕ) (c : ConsumerCall) → is_foreign (request_of size (own (by_consumer c))).kind ≡ false
unfolding is_foreign
consumer_own size (poll_available a b) = refl
consumer_own size (submit_used i n) = refl
consumer_own size (submit_used_with_notify i n) = refl
consumer_own size peek_available = refl
consumer_own size poll_checkpoint = refl
consumer_own size (rollback_polls c js) = refl
consumer_own size (consumer_asked x) = refl
consumer_own size (turn_avail f) = refl
consumer_own size (enable_avail_desc o b) = refl
consumer_own size enable_avail_for_next = refl
consumer_own size consumer_reset = refl

pub never_foreign : (size : ℕ) (c : Own) → (request_of size (own c)).kind ≡ said.foreign → ⊥
unfolding is_foreign
never_foreign size (by_producer c) e = false≢true (sym (producer_own size c) ∙ ap is_foreign e)
never_foreign size (by_consumer c) e = false≢true (sym (consumer_own size c) ∙ ap is_foreign e)
