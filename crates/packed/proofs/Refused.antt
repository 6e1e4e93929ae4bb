-- A refused call leaves nothing changed, whatever record, tables, outputs and bytes it was given.
-- Assumes nothing.
use Prim.Native.Nat.{ℕ}
use mathlib.Core.Path.{◌≡◌, refl, sym, ap, ◌∙◌, subst}
use mathlib.Core.Bool.{not, ◌||◌}
use mathlib.Core.List.{List, []}
use lib.Dec.{T, ltb, eqb}
use lib.ListN.{length}
use Rattle.base.specs.Answer.{Answer}
use Rattle.base.proofs.Tests.{split, by_eq, by_lt}
use Rattle.event.specs.Event.{DESC}
use Rattle.layout.specs.declared.Layout.{Layout}
use Rattle.layout.specs.Layout.{bad_layout, outside}
use Rattle.ring.specs.Slots.{slot_of}
use Rattle.producer.specs.Record as made_record
use Rattle.producer.specs.Outcome as made
use Rattle.producer.specs.Submit.{submit_refusal}
use Rattle.producer.specs.Poll as used_poll
use Rattle.producer.specs.Notices as used_notices
use Rattle.producer.specs.Fresh as made_fresh
use Rattle.producer.proofs.Submit as submit_laws
use Rattle.producer.proofs.Poll as poll_laws
use Rattle.producer.proofs.Notices as used_laws
use Rattle.producer.proofs.Reset as made_reset
use Rattle.producer.proofs.Goes as makes
use Rattle.consumer.specs.declared.Checkpoint.{Checkpoint}
use Rattle.consumer.specs.Record as taken_record
use Rattle.consumer.specs.Outcome as taken_outcome
use Rattle.consumer.specs.Poll.{Taken, head_refusal, walk_refusal, walked_of, head_of}
use Rattle.consumer.specs.Complete.{complete_refusal}
use Rattle.consumer.specs.Rollback.{handed_refusal, stale_of}
use Rattle.consumer.specs.Fresh as taken_fresh
use Rattle.undo.specs.Undo.{bad_ids, total_of}
use Rattle.consumer.specs.Notices as avail_notices
use Rattle.consumer.proofs.Poll.{poll_stopped, poll_refused, poll_goes, poll_takes}
use Rattle.consumer.proofs.Complete.{complete_refused, complete_done}
use Rattle.consumer.proofs.Rollback.{rollback_stopped, rollback_refused, rollback_done}
use Rattle.consumer.proofs.Notices as avail_laws
use Rattle.consumer.proofs.Reset as taken_reset
use Rattle.consumer.proofs.Goes as takes
use Rattle.queue.specs.History.{Chain}
use Rattle.queue.specs.Promise.{for_handed}
use Rattle.packed.specs.Calls.{ProducerCall, ConsumerCall, Own, Lent, Foreign, one_of}
use Rattle.packed.specs.Calls.{submit_available, submit_available_with_notify, submit_one, submit_one_with_notify, poll_used, next_id}
use Rattle.packed.specs.Calls.{producer_asked, should_notify_since, turn_used, enable_used_desc, enable_used_for_next, producer_reset}
use Rattle.packed.specs.Calls.{poll_available, submit_used, submit_used_with_notify, peek_available, poll_checkpoint, rollback_polls}
use Rattle.packed.specs.Calls.{consumer_asked, turn_avail, enable_avail_desc, enable_avail_for_next, consumer_reset}
use Rattle.packed.specs.Calls.{its, another, by_producer, by_consumer, to_producer, to_consumer, new_producer, new_consumer, foreign}
use Rattle.packed.specs.Machine.{World, Lendings, given, kept, lendings, after_producer, after_consumer, given_in, kept_in, leaves, packed}
use Rattle.packed.specs.Machine.{own_answer, own_entry, own_exit, call_answer, call_entry, call_exit}
use Rattle.packed.specs.Machine.{submits_of, tells_of, reclaims_of, polls_of, completes_of, completes_told, rolls_of, producer_opens_of, consumer_opens_of}
use Rattle.packed.specs.Machine.{producer_does, consumer_does}
use Rattle.packed.proofs.Answers.{after_made, after_used_turn, after_completed, after_rolled, after_avail_turn, after_taken}

-- a call whose outcome is success where it is not refused, and else as it was, is the latter
unless_done : {A : Type 0} (a : Answer) (n : ℕ) (same : A) (lent : A) → (n ≡ 0 → a.number ≡ 0) → ((n ≡ 0 → ⊥) → lent ≡ same) → (a.number ≡ 0 → ⊥) → lent ≡ same
unless_done a n same lent yes_it no_it h = by_eq n 0 (λ z. absurd (h (yes_it z))) no_it

module _ (w : World) where
  submit_kept : (c : Chain) → ((submits_of w.producer w.ring c).answer.number ≡ 0 → ⊥) → after_made w (submits_of w.producer w.ring c) ≡ w
  submit_kept c h =
      let n = submit_refusal w.producer.end (length w.ring) w.producer.ids w.producer.counts (length c.addrs) (length c.lens) c.readable in
      unless_done (submits_of w.producer w.ring c).answer n w (after_made w (submits_of w.producer w.ring c))
      (λ z. ap (λ (o : made.Outcome). o.answer.number)
      (submit_laws.submit_done w.producer.end w.ring w.producer.ids w.producer.counts c.addrs c.lens c.readable z ∙ makes.submitted_is w.producer.end w.producer.ids w.producer.counts (length c.addrs) _ _))
      (λ z. ap (after_made w) (submit_laws.submit_refused w.producer.end w.ring w.producer.ids w.producer.counts c.addrs c.lens c.readable z)) h

  tell_kept : (c : Chain) → ((tells_of w.producer w.ring c).answer.number ≡ 0 → ⊥) → after_made w (tells_of w.producer w.ring c) ≡ w
  tell_kept c h =
      let o = submits_of w.producer w.ring c in
      let a = w.producer.end.avail in
      ap (after_made w) (makes.tell_leaves a o)
      ∙ submit_kept c (λ z. h (makes.tell_number a o ∙ z))

  reclaim_kept :
      ((reclaims_of w.producer w.ring).answer.number ≡ 0 → ⊥) → after_made w (reclaims_of w.producer w.ring) ≡ w
  reclaim_kept h =
      let d = slot_of w.producer.end.layout.table w.producer.end.used w.ring in
      let n = used_poll.poll_refusal w.producer.end (length w.ring) d (length w.producer.ids) w.producer.counts in
      unless_done (reclaims_of w.producer w.ring).answer n w (after_made w (reclaims_of w.producer w.ring))
      (λ z. ap (λ (o : made.Outcome). o.answer.number)
      (poll_laws.poll_done w.producer.end w.ring w.producer.ids w.producer.counts z ∙ makes.polled_is w.producer.end d w.ring w.producer.ids w.producer.counts))
      (λ z. ap (after_made w) (poll_laws.poll_refused w.producer.end w.ring w.producer.ids w.producer.counts z)) h

  notice_used_kept : (f : ℕ) (bytes : List ℕ) → ((used_notices.notice_of w.producer.end w.ring f bytes).answer.number ≡ 0 → ⊥) → after_used_turn w (used_notices.notice_of w.producer.end w.ring f bytes) ≡ w
  notice_used_kept f bytes h =
      unless_done (used_notices.notice_of w.producer.end w.ring f bytes).answer (made_record.bytes_refusal w.producer.end (length w.ring)) w (after_used_turn w (used_notices.notice_of w.producer.end w.ring f bytes))
      (λ z. ap (λ (o : made.Changed). o.answer.number) (used_laws.notice_done w.producer.end w.ring f bytes z))
      (λ z. ap (after_used_turn w) (used_laws.notice_refused w.producer.end w.ring f bytes z)) h

  -- a poll leaves its outputs too
  abbrev after_poll : Taken → Lendings
  after_poll t = lendings (after_taken w t) t.addrs t.lens

  poll_kept :
      (outs louts : List ℕ) → ((polls_of w.consumer w.ring outs louts).answer.number ≡ 0 → ⊥)
      → after_poll (polls_of w.consumer w.ring outs louts) ≡ lendings w outs louts
  poll_kept outs louts h =
      let p = w.consumer.end in
      let k = w.consumer.counts in
      let a = head_refusal p (length w.ring) (head_of p w.ring) (length k) (length outs) (length louts) 0 in
      let b = walk_refusal p (walked_of p w.ring) (head_of p w.ring).id k in
      by_eq a 0
      (λ z. by_eq b 0
      (λ y. absurd (h (ap (λ (t : Taken). t.answer.number) (poll_takes p w.ring k outs louts (poll_goes p w.ring k outs louts z y)))))
      (λ y. ap after_poll (poll_refused p w.ring k outs louts z y)))
      (λ z. ap after_poll (poll_stopped p w.ring k outs louts z))

  complete_kept : (i n : ℕ) → ((completes_of w.consumer w.ring i n).answer.number ≡ 0 → ⊥) → after_completed w (completes_of w.consumer w.ring i n) ≡ w
  complete_kept i n h =
      unless_done (completes_of w.consumer w.ring i n).answer (complete_refusal w.consumer.end (length w.ring) i w.consumer.counts) w (after_completed w (completes_of w.consumer w.ring i n))
      (λ z. ap (λ (o : taken_outcome.Outcome). o.answer.number) (complete_done w.consumer.end w.ring w.consumer.counts i n z))
      (λ z. ap (after_completed w) (complete_refused w.consumer.end w.ring w.consumer.counts i n z)) h

  complete_tell_kept :
      (i n : ℕ) → ((completes_told w.consumer w.ring i n).answer.number ≡ 0 → ⊥)
      → after_completed w (completes_told w.consumer w.ring i n) ≡ w
  complete_tell_kept i n h =
      let o = completes_of w.consumer w.ring i n in
      let u = w.consumer.end.used in
      ap (after_completed w) (takes.tell_leaves u o)
      ∙ complete_kept i n (λ z. h (takes.tell_number u o ∙ z))

  roll_kept : (c : Checkpoint) (js : List ℕ) → ((rolls_of w.consumer c js).answer.number ≡ 0 → ⊥) → after_rolled w (rolls_of w.consumer c js) ≡ w
  roll_kept c js h =
      by_eq (handed_refusal w.consumer.end c (length w.consumer.counts) 0) 0
      (λ z.
      split (bad_ids w.consumer.end.layout.size w.consumer.counts js || stale_of w.consumer.end c (total_of w.consumer.counts js))
      (λ t. ap (after_rolled w) (rollback_refused w.consumer.end w.consumer.counts c js z t))
      (λ f. absurd (h (ap (λ (o : taken_outcome.Rolled). o.answer.number) (rollback_done w.consumer.end w.consumer.counts c js z f)))))
      (λ z. ap (after_rolled w) (rollback_stopped w.consumer.end w.consumer.counts c js z))

  notice_avail_kept : (f : ℕ) (bytes : List ℕ) → ((avail_notices.notice_of w.consumer.end w.ring f bytes).answer.number ≡ 0 → ⊥) → after_avail_turn w (avail_notices.notice_of w.consumer.end w.ring f bytes) ≡ w
  notice_avail_kept f bytes h =
      unless_done (avail_notices.notice_of w.consumer.end w.ring f bytes).answer (taken_record.bytes_refusal w.consumer.end (length w.ring)) w (after_avail_turn w (avail_notices.notice_of w.consumer.end w.ring f bytes))
      (λ z. ap (λ (o : taken_outcome.Changed). o.answer.number) (avail_laws.notice_done w.consumer.end w.ring f bytes z))
      (λ z. ap (after_avail_turn w) (avail_laws.notice_refused w.consumer.end w.ring f bytes z)) h

  producer_reset_kept :
      ((made_fresh.reset_of w.producer.end w.ring w.producer.ids w.producer.counts).answer.number ≡ 0 → ⊥)
      → after_made w (made_fresh.reset_of w.producer.end w.ring w.producer.ids w.producer.counts) ≡ w
  producer_reset_kept h =
      let o = made_fresh.reset_of w.producer.end w.ring w.producer.ids w.producer.counts in
      unless_done o.answer (made_record.lent_refusal w.producer.end (length w.ring) (length w.producer.ids) (length w.producer.counts)) w (after_made w o)
      (λ z. ap (λ (x : made.Outcome). x.answer.number) (made_reset.reset_done w.producer.end w.ring w.producer.ids w.producer.counts z))
      (λ z. ap (after_made w) (made_reset.reset_refused w.producer.end w.ring w.producer.ids w.producer.counts z)) h

  consumer_reset_kept :
      ((taken_fresh.reset_of w.consumer.end w.ring w.consumer.counts).answer.number ≡ 0 → ⊥)
      → after_completed w (taken_fresh.reset_of w.consumer.end w.ring w.consumer.counts) ≡ w
  consumer_reset_kept h =
      let o = taken_fresh.reset_of w.consumer.end w.ring w.consumer.counts in
      unless_done o.answer (taken_record.lent_refusal w.consumer.end (length w.ring) (length w.consumer.counts)) w (after_completed w o)
      (λ z. ap (λ (x : taken_outcome.Outcome). x.answer.number) (taken_reset.reset_done w.consumer.end w.ring w.consumer.counts z))
      (λ z. ap (after_completed w) (taken_reset.reset_refused w.consumer.end w.ring w.consumer.counts z)) h

  abbrev no_outputs : World → Lendings
  no_outputs v = lendings v [] []

  -- any call, given anything: where it is refused, nothing that it was lent differs
  producer_kept : (c : ProducerCall) → ((own_answer packed w (by_producer c)).number ≡ 0 → ⊥) → own_exit packed w (by_producer c) ≡ own_entry w (by_producer c)
  unfolding producer_does
  producer_kept (submit_available c) h = ap no_outputs (submit_kept c h)
  producer_kept (submit_available_with_notify c) h = ap no_outputs (tell_kept c h)
  producer_kept (submit_one a n b) h = ap no_outputs (submit_kept (one_of a n b) h)
  producer_kept (submit_one_with_notify a n b) h = ap no_outputs (tell_kept (one_of a n b) h)
  producer_kept poll_used h = ap no_outputs (reclaim_kept h)
  producer_kept next_id h = refl
  producer_kept (producer_asked x) h = refl
  producer_kept (should_notify_since c) h = refl
  producer_kept (turn_used f) h = ap no_outputs (notice_used_kept f _ h)
  producer_kept (enable_used_desc o b) h = ap no_outputs (notice_used_kept DESC _ h)
  producer_kept enable_used_for_next h = ap no_outputs (notice_used_kept DESC _ h)
  producer_kept producer_reset h = ap no_outputs (producer_reset_kept h)

  consumer_kept : (c : ConsumerCall) → ((own_answer packed w (by_consumer c)).number ≡ 0 → ⊥) → own_exit packed w (by_consumer c) ≡ own_entry w (by_consumer c)
  unfolding consumer_does
  consumer_kept (poll_available a b) h = poll_kept a b h
  consumer_kept (submit_used i n) h = ap no_outputs (complete_kept i n h)
  consumer_kept (submit_used_with_notify i n) h = ap no_outputs (complete_tell_kept i n h)
  consumer_kept peek_available h = refl
  consumer_kept poll_checkpoint h = refl
  consumer_kept (rollback_polls c js) h = ap no_outputs (roll_kept c js h)
  consumer_kept (consumer_asked x) h = refl
  consumer_kept (turn_avail f) h = ap no_outputs (notice_avail_kept f _ h)
  consumer_kept (enable_avail_desc o b) h = ap no_outputs (notice_avail_kept DESC _ h)
  consumer_kept enable_avail_for_next h = ap no_outputs (notice_avail_kept DESC _ h)
  consumer_kept consumer_reset h = ap no_outputs (consumer_reset_kept h)

  pub own_kept : (c : Own) → ((own_answer packed w c).number ≡ 0 → ⊥) → own_exit packed w c ≡ own_entry w c
  own_kept (by_producer c) h = producer_kept c h
  own_kept (by_consumer c) h = consumer_kept c h

-- ---- the same of openings

module _ (g : Layout) (r i k : List ℕ) where
  pub producer_new_kept :
      ((producer_opens_of g r i k).answer.number ≡ 0 → ⊥) → ((producer_opens_of g r i k).ids ≡ i) × ((producer_opens_of g r i k).counts ≡ k)
  producer_new_kept h =
      let by : made_fresh.Open → Type 0 = λ o. (o.ids ≡ i) × (o.counts ≡ k) in
      split (bad_layout g || outside g (length r))
      (λ t. subst by (sym (made_reset.opening_refused g.size g.table g.driver g.device r i k t)) (refl, refl))
      (λ f.
      split (ltb (length i) g.size || ltb (length k) g.size)
      (λ t. subst by (sym (made_reset.opening_short g.size g.table g.driver g.device r i k f t)) (refl, refl))
      (λ e. absurd (h (ap (λ (o : made_fresh.Open). o.answer.number) (made_reset.opening_done g.size g.table g.driver g.device r i k f e)))))

module _ (g : Layout) (r k : List ℕ) where
  pub consumer_new_kept : ((consumer_opens_of g r k).answer.number ≡ 0 → ⊥) → (consumer_opens_of g r k).counts ≡ k
  consumer_new_kept h =
      split (bad_layout g || outside g (length r))
      (λ t. ap (λ (o : taken_fresh.Open). o.counts) (taken_reset.opening_refused g.size g.table g.driver g.device r k t))
      (λ f.
      by_lt (length k) g.size
      (λ t. ap (λ (o : taken_fresh.Open). o.counts) (taken_reset.opening_short g.size g.table g.driver g.device r k f t))
      (λ e. absurd (h (ap (λ (o : taken_fresh.Open). o.answer.number) (taken_reset.opening_done g.size g.table g.driver g.device r k f e)))))

-- ---- foreign calls

-- a number that is not 0
pub not_zero : (n : ℕ) → T (not (eqb n 0)) → n ≡ 0 → ⊥
not_zero n t e = subst (λ (m : ℕ). T (not (eqb m 0))) e t

-- a refusal of what was handed in is a refusal
pub not_success : (n : ℕ) → T (for_handed n) → n ≡ 0 → ⊥
not_success n t e = subst (λ (m : ℕ). T (for_handed m)) e t

-- "Calls refused for bad records or buffers aren't counted": a call given a foreign record, tables or bytes, or an opening, and refused for it leaves
-- all that it was given as it was; so does one that is refused with any other number
pub foreign_kept : (v : World) (f : Foreign) → ((call_answer packed v (foreign f)).number ≡ 0 → ⊥) → call_exit packed v (foreign f) ≡ call_entry v (foreign f)
foreign_kept v (to_producer l b c) t = own_kept v (by_producer c) t
foreign_kept v (to_consumer l b c) t = own_kept v (by_consumer c) t
foreign_kept v (new_producer g i k b) t =
    let e = producer_new_kept g v.ring v.producer.ids v.producer.counts t in
    λ j. lendings (after_producer v (record { end = v.producer.end; ids = e.0 j; counts = e.1 j }) v.ring) [] []
foreign_kept v (new_consumer g k b) t =
    let e = consumer_new_kept g v.ring v.consumer.counts t in
    λ j. lendings (after_consumer v (record { end = v.consumer.end; counts = e j }) v.ring) [] []

-- so what of it is the ends' own is as it was, too
kept_given : {A : Type 0} (x : Lent A) (a : A) → kept x a (given x a) ≡ a
kept_given its a = refl
kept_given (another b) a = refl

kept_in_given : (w : World) (f : Foreign) → kept_in w f (given_in w f) ≡ w
kept_in_given w (to_producer l b c) =
    λ j.
    after_producer w
    (record {
      end = kept_given l.end w.producer.end j;
      ids = kept_given l.ids w.producer.ids j;
      counts = kept_given l.counts w.producer.counts j;
    })
    (kept_given b w.ring j)
kept_in_given w (to_consumer l b c) =
    λ j.
    after_consumer w
    (record { end = kept_given l.end w.consumer.end j; counts = kept_given l.counts w.consumer.counts j })
    (kept_given b w.ring j)
kept_in_given w (new_producer g i k b) =
    λ j.
    after_producer w
    (record { end = w.producer.end; ids = kept_given i w.producer.ids j; counts = kept_given k w.producer.counts j })
    (kept_given b w.ring j)
kept_in_given w (new_consumer g k b) =
    λ j. after_consumer w (record { end = w.consumer.end; counts = kept_given k w.consumer.counts j }) (kept_given b w.ring j)

entry_world : (v : World) (f : Foreign) → (call_entry v (foreign f)).world ≡ v
entry_world v (to_producer l b c) = refl
entry_world v (to_consumer l b c) = refl
entry_world v (new_producer g i k b) = refl
entry_world v (new_consumer g k b) = refl

pub foreign_leaves : (w : World) (f : Foreign) → ((call_answer packed (given_in w f) (foreign f)).number ≡ 0 → ⊥) → leaves packed w (foreign f) ≡ w
unfolding leaves
foreign_leaves w f t =
    ap (λ (x : Lendings). kept_in w f x.world) (foreign_kept (given_in w f) f t) ∙ ap (kept_in w f) (entry_world (given_in w f) f) ∙ kept_in_given w f
