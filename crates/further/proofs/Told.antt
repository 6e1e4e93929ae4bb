-- Notifications: an end that armed at its next slot, with nothing there for it, is told of the next batch that does not wrap.
-- Assumes nothing.
use Prim.Native.Nat.{ℕ, ◌+◌, ◌/◌, ◌%◌, ◌≤◌, ◌<◌}
use mathlib.Core.Path.{◌≡◌, sym, ap, ap₂, ◌∙◌, subst}
use mathlib.Core.Bool.{Bool, true, false, cond}
use mathlib.Core.List.{List, [], ◌∷◌}
use native.Mathlib.Omega.{arith}
use lib.Dec.{eqb}
use lib.ListN.{length, get_or}
use borrow.Author.Tests.{eq-eqb, ne_eqb}
use Rattle.base.specs.Answer as answers
use Rattle.base.specs.Bytes.{bytes_of, word_at, get_of}
use Rattle.base.proofs.Tests.{by_lt, by_eq}
use Rattle.base.proofs.Runs.{put_fits, get_same}
use Rattle.cursor.specs.declared.RingCursor.{RingCursor}
use Rattle.cursor.specs.Cursor.{at, steps}
use Rattle.cursor.proofs.Laws.{steps_none, steps_within, steps_past}
use Rattle.event.specs.declared.EventSuppression.{EventSuppression}
use Rattle.event.specs.Event.{DESC, flags_of, off_of, wrap_of, set_flags, set_desc_event, encode_of, decode_of}
use Rattle.event.proofs.Trips.{encode_length}
use Rattle.notify.proofs.Passed.{passed_told}
use Rattle.ring.specs.Events.{event_at, armed, told}
use Rattle.layout.specs.declared.Layout.{Layout}
use Rattle.layout.specs.Layout.{outside}
use Rattle.producer.specs.declared.RingProducer.{RingProducer}
use Rattle.producer.specs.Record.{bad_record}
use Rattle.producer.specs.Outcome as made
use Rattle.producer.specs.Submit.{top_of, submit_refusal, element_of, put_chain, taken_of, submit_of}
use Rattle.producer.specs.Tell as made_told
use Rattle.producer.specs.Notices.{since_of}
use Rattle.producer.proofs.Submit.{submit_ready, submit_refused, submit_done}
use Rattle.producer.proofs.Frame.{slot_in_table, chain_past}
use Rattle.producer.proofs.Touch.{submit_clear}
use Rattle.producer.proofs.Ready as made_ready
use Rattle.producer.proofs.Notices.{since_done}
use Rattle.producer.proofs.Goes.{submitted_is, taken_is, since_goes}
use Rattle.consumer.specs.declared.RingConsumer.{RingConsumer}
use Rattle.consumer.specs.Outcome as taken
use Rattle.consumer.specs.Complete.{complete_refusal, completed_of, complete_of, tell_of}
use Rattle.consumer.proofs.Complete.{complete_ready, complete_refused, complete_done}
use Rattle.consumer.proofs.Touch.{complete_clear}
use Rattle.consumer.proofs.Goes.{completed_is}

-- the event area at a place asks to be told when the slot of a cursor is passed
pub record Awaits (place : ℕ) (c : RingCursor) (ring : List ℕ) : Type 0 where
  pub flags : flags_of (event_at place ring) ≡ DESC
  pub off : off_of (event_at place ring) ≡ c.head
  pub wrap : wrap_of (event_at place ring) ≡ c.wrap

-- ---- armed at a cursor, it does

-- two words written and read: the first as it was, and the flags of the second
decoded : (e : EventSuppression) → e.off_wrap < 65536 → ((decode_of (encode_of e)).off_wrap ≡ e.off_wrap) × (flags_of (decode_of (encode_of e)) ≡ flags_of e)
unfolding decode_of encode_of bytes_of word_at
decoded e h = (omega (arith, h), omega arith)

module _ (place : ℕ) (c : RingCursor) (ring : List ℕ) (fits : place + 4 ≤ length ring) (low : c.head < 32768) where
  abbrev set : EventSuppression
  set = set_flags (set_desc_event (event_at place ring) c.head c.wrap) DESC

  read_back : event_at place (armed place c.head c.wrap ring) ≡ decode_of (encode_of set)
  unfolding armed
  read_back =
      let n = encode_length set in
      ap (λ (o : answers.Outcome). event_at place o.bytes) (put_fits ring place (encode_of set) (omega (arith, n, fits)))
      ∙ ap decode_of (ap (get_of _ place) (sym n) ∙ get_same (encode_of set) ring place (omega (arith, n, fits)))

  first_word : set.off_wrap ≡ c.head + cond c.wrap 32768 0
  unfolding set_flags set_desc_event
  first_word = omega (arith, low)

  set_flags_lem : flags_of set ≡ DESC
  unfolding set_flags set_desc_event
  set_flags_lem = omega arith

  word_off : (w : Bool) → (c.head + cond w 32768 0) % 32768 ≡ c.head
  word_off true = omega (arith, low)
  word_off false = omega (arith, low)

  word_wrap : (w : Bool) → eqb ((c.head + cond w 32768 0) / 32768) 1 ≡ w
  word_wrap true = eq-eqb ((c.head + 32768) / 32768) 1 (omega (arith, low))
  word_wrap false = ne_eqb ((c.head + 0) / 32768) 1 (λ z. omega (arith, low, z))

  word_low : (w : Bool) → c.head + cond w 32768 0 < 65536
  word_low true = omega (arith, low)
  word_low false = omega (arith, low)

  pub armed_awaits : Awaits place c (armed place c.head c.wrap ring)
  armed_awaits =
      let d = decoded set (subst (λ (n : ℕ). n < 65536) (sym first_word) (word_low c.wrap)) in
      let w : (event_at place (armed place c.head c.wrap ring)).off_wrap ≡ c.head + cond c.wrap 32768 0 =
      ap (λ (e : EventSuppression). e.off_wrap) read_back ∙ d.0 ∙ first_word in
      record {
        flags = ap flags_of read_back ∙ d.1 ∙ set_flags_lem;
        off = ap (λ (n : ℕ). n % 32768) w ∙ word_off c.wrap;
        wrap = ap (λ (n : ℕ). eqb (n / 32768) 1) w ∙ word_wrap c.wrap;
      }

-- ---- and is told of a move from there that does not wrap

moved_told :
    (place size n : ℕ) (old : RingCursor) (ring : List ℕ) → Awaits place old ring → size ≤ 32768 → n ≤ size → old.head < size
    → old.head < (steps size n old).head → told place size old (steps size n old) ring ≡ true
unfolding told
moved_told place size n old ring a small le low up =
    by_lt (old.head + n) size
    (λ h.
    let e = steps_within size n old h in
    let new = steps size n old in
    let u : new.head ≡ old.head + n = ap (λ (c : RingCursor). c.head) e in
    passed_told (event_at place ring) size old new small a.flags (sym (ap (λ (c : RingCursor). c.wrap) e)) (omega (arith, up)) (omega (arith, u, h))
    (record { step = 0; before = omega (arith, up); there = steps_none size old ∙ ap₂ at (sym a.off) (sym a.wrap) }))
    (λ h. let e = ap (λ (c : RingCursor). c.head) (steps_past size n old low le h) in absurd (omega (arith, up, e, le)))

-- the bytes of the area alone decide
pub awaits_same : (place : ℕ) (c : RingCursor) (r s : List ℕ) → get_of s place 4 ≡ get_of r place 4 → Awaits place c r → Awaits place c s
awaits_same place c r s e a =
    let d : event_at place s ≡ event_at place r = ap decode_of e in
    record { flags = ap flags_of d ∙ a.flags; off = ap off_of d ∙ a.off; wrap = ap wrap_of d ∙ a.wrap }

-- ---- a submission that is accepted, from any record and bytes

module _ (p : RingProducer) (ring ids counts addrs lens : List ℕ) (readable : ℕ) where
  abbrev submits : made.Outcome
  submits = submit_of p ring ids counts addrs lens readable

  abbrev submit_no : ℕ
  submit_no = submit_refusal p (length ring) ids counts (length addrs) (length lens) readable

  submit_accepted : submits.answer.number ≡ 0 → submit_no ≡ 0
  submit_accepted e =
      by_eq submit_no 0 (λ z. z) (λ z. absurd (z (sym (ap (λ (o : made.Outcome). o.answer.number) (submit_refused p ring ids counts addrs lens readable z)) ∙ e)))

  -- its move is told
  submit_yes :
      Awaits p.layout.device p.avail ring → submits.answer.number ≡ 0 → p.avail.head < submits.end.avail.head
      → told submits.end.layout.device submits.end.layout.size p.avail submits.end.avail submits.ring ≡ true
  submit_yes a e up =
      let z = submit_accepted e in
      let n = length addrs in
      let r = submit_ready p (length ring) ids counts n (length lens) readable z in
      let put = put_chain p.layout (element_of (top_of p ids) addrs lens readable) n p.avail ring in
      let is = submit_done p ring ids counts addrs lens readable z ∙ submitted_is p ids counts n (top_of p ids) put in
      let past : put.past ≡ steps p.layout.size n p.avail = chain_past p.layout (element_of (top_of p ids) addrs lens readable) n p.avail ring r.elements in
      let end : submits.end ≡ taken_of p put.past n = ap (λ (o : made.Outcome). o.end) is in
      let went : submits.end.avail ≡ steps p.layout.size n p.avail = ap (λ (x : RingProducer). x.avail) (end ∙ taken_is p put.past n) ∙ past in
      let same : submits.end.layout ≡ p.layout = ap (λ (x : RingProducer). x.layout) (end ∙ taken_is p put.past n) in
      let area = submit_clear p ring ids counts addrs lens readable z p.layout.device 4 r.sound.laid.table_device in
      ap₂ (λ (m : Layout) (c : RingCursor). told m.device m.size p.avail c submits.ring) same went
      ∙ moved_told p.layout.device p.layout.size n p.avail submits.ring (awaits_same p.layout.device p.avail ring submits.ring area a)
      r.sound.laid.high (omega (arith, r.room, r.sound.free)) r.sound.avail
      (omega (arith, up, ap (λ (c : RingCursor). c.head) went))

  pub submit_told :
      Awaits p.layout.device p.avail ring → submits.answer.number ≡ 0 → p.avail.head < submits.end.avail.head
      → get_or (made_told.tell_of p.avail submits).answer.values 1 0 ≡ 1
  unfolding made_told.tell_of
  submit_told a e up = simp (eq-eqb submits.answer.number 0 e, submit_yes a e up)

  -- and so says should_notify_since, asked with the cursor before it
  pub submit_since :
      Awaits p.layout.device p.avail ring → submits.answer.number ≡ 0 → p.avail.head < submits.end.avail.head
      → bad_record submits.end ≡ false → outside submits.end.layout (length submits.ring) ≡ false
      → since_of submits.end submits.ring p.avail ≡ answers.done (1 ∷ [])
  submit_since a e up sound whole =
      since_done submits.end submits.ring p.avail
      (since_goes submits.end (length submits.ring) p.avail sound whole (omega (arith, up, (made_ready.sound submits.end sound).avail)))
      ∙ ap (λ (b : Bool). answers.done (answers.bit b ∷ [])) (submit_yes a e up)

-- ---- a completion that is accepted

module _ (p : RingConsumer) (ring counts : List ℕ) (id len : ℕ) where
  abbrev completes : taken.Outcome
  completes = complete_of p ring counts id len

  abbrev complete_no : ℕ
  complete_no = complete_refusal p (length ring) id counts

  complete_accepted : completes.answer.number ≡ 0 → complete_no ≡ 0
  complete_accepted e =
      by_eq complete_no 0 (λ z. z) (λ z. absurd (z (sym (ap (λ (o : taken.Outcome). o.answer.number) (complete_refused p ring counts id len z)) ∙ e)))

  pub complete_told :
      Awaits p.layout.driver p.used ring → completes.answer.number ≡ 0 → p.used.head < completes.end.used.head
      → get_or (tell_of p.used completes).answer.values 0 0 ≡ 1
  unfolding tell_of
  complete_told a e up =
      let z = complete_accepted e in
      let n = get_or counts id 0 in
      let r = complete_ready p (length ring) id counts z in
      let end : completes.end ≡ completed_of p n = ap (λ (o : taken.Outcome). o.end) (complete_done p ring counts id len z) in
      let went : completes.end.used ≡ steps p.layout.size n p.used = ap (λ (x : RingConsumer). x.used) (end ∙ completed_is p n) in
      let same : completes.end.layout ≡ p.layout = ap (λ (x : RingConsumer). x.layout) (end ∙ completed_is p n) in
      let area = complete_clear p ring counts id len z p.layout.driver 4 (slot_in_table p.layout p.used p.layout.driver 4 r.sound.used r.sound.laid.table_driver) in
      let yes : told completes.end.layout.driver completes.end.layout.size p.used completes.end.used completes.ring ≡ true =
      ap₂ (λ (m : Layout) (c : RingCursor). told m.driver m.size p.used c completes.ring) same went
      ∙ moved_told p.layout.driver p.layout.size n p.used completes.ring (awaits_same p.layout.driver p.used ring completes.ring area a)
      r.sound.laid.high (omega (arith, r.room, r.sound.inflight)) r.sound.used
      (omega (arith, up, ap (λ (c : RingCursor). c.head) went)) in
      simp (eq-eqb completes.answer.number 0 e, yes)
