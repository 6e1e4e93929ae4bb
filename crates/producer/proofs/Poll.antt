-- The ways a poll and a question for the next ID end.
-- Assumes nothing.
use Prim.Native.Nat.{ℕ, ◌+◌, ◌≤◌, ◌<◌}
use mathlib.Core.Path.{◌≡◌, ap}
use mathlib.Core.List.{List, [], ◌∷◌}
use mathlib.Core.Bool.{true, not, ◌||◌}
use native.Mathlib.Omega.{arith}
use lib.Dec.{ltb, leb, eqb}
use lib.ListN.{length, get_or}
use borrow.Author.Tests.{eq-eqb, ne_eqb, eqb-true, eqb-false, ltb-false, leb-false, not-false}
use Rattle.base.specs.Answer.{done, refused}
use Rattle.base.proofs.Tests.{neither, positive}
use Rattle.cursor.specs.Cursor as moves
use Rattle.cursor.specs.Cursor.{steps, advance_of}
use Rattle.cursor.proofs.Ready.{advance_ready}
use Rattle.desc.specs.declared.Descriptor.{Descriptor}
use Rattle.desc.specs.Flags.{is_used}
use Rattle.producer.specs.declared.RingProducer.{RingProducer}
use Rattle.producer.specs.Record.{bad_record, bad_lent}
use Rattle.producer.specs.Outcome.{outcome}
use Rattle.producer.specs.Submit.{top_of}
use Rattle.producer.proofs.Ready.{Sound, sound, Lent, lent}
use Rattle.base.proofs.Ladder.{passed, both_passed, cond_lt, both_below}
use Rattle.ring.specs.Slots.{slot_of}
use Rattle.producer.specs.Poll.{poll_refusal, polled_of, poll_of, next_refusal, next_of}

-- what a poll that is not refused may count on
module _ (p : RingProducer) (bytes : ℕ) (d : Descriptor) (ids : ℕ) (counts : List ℕ) where
  pub record PollReady : Type 0 where
    pub sound : Sound p
    pub lent : Lent p bytes ids (length counts)
    pub used : is_used d.flags p.used.wrap ≡ true
    pub id : d.id < p.layout.size
    pub held : 0 < get_or counts d.id 0
    pub room : p.free + get_or counts d.id 0 ≤ p.layout.size
    pub stack : p.height < p.layout.size

  pub poll_ready : poll_refusal p bytes d ids counts ≡ 0 → PollReady
  unfolding poll_refusal
  poll_ready e =
      let n = get_or counts d.id 0 in
      let e₁ = both_passed (bad_record p) (bad_lent p bytes ids (length counts)) _ e in
      let e₂ = passed (not (is_used d.flags p.used.wrap)) 3 _ (omega arith) e₁.1.1 in
      let e₃ = passed _ 5 0 (omega arith) e₂.1 in
      let i = neither (leb p.layout.size d.id) _ e₃.0 in
      let h = neither (eqb n 0) _ i.1 in
      let r = neither (ltb p.layout.size (p.free + n)) _ h.1 in
      record {
        sound = sound p e₁.0;
        lent = lent p bytes ids (length counts) e₁.1.0;
        used = not-false (is_used d.flags p.used.wrap) e₂.0;
        id = leb-false p.layout.size d.id i.0;
        held = positive (eqb-false n 0 h.0);
        room = ltb-false p.layout.size (p.free + n) r.0;
        stack = leb-false p.layout.size p.height r.1;
      }

  pub poll_below : poll_refusal p bytes d ids counts < 9
  unfolding poll_refusal
  poll_below =
      both_below (bad_record p) (bad_lent p bytes ids (length counts)) _
      (cond_lt (not (is_used d.flags p.used.wrap)) 3 _ (omega arith)
      (cond_lt (leb p.layout.size d.id
      || (eqb (get_or counts d.id 0) 0
      || (ltb p.layout.size (p.free + get_or counts d.id 0) || leb p.layout.size p.height))) 5 0 (omega arith) (omega arith)))

  -- and the used cursor moves by the count
  pub poll_moves :
      poll_refusal p bytes d ids counts ≡ 0
      → (advance_of p.layout.size (get_or counts d.id 0) p.used).cursor ≡ steps p.layout.size (get_or counts d.id 0) p.used
  poll_moves e =
      let r = poll_ready e in
      let l = r.sound.laid in
      ap (λ (o : moves.Outcome). o.cursor)
      (advance_ready p.layout.size (get_or counts d.id 0) p.used
      (record { low = l.low; high = l.high; head = r.sound.used; move = omega arith }))

module _ (p : RingProducer) (ring ids counts : List ℕ) where
  abbrev at_used : Descriptor
  at_used = slot_of p.layout.table p.used ring

  abbrev no : ℕ
  no = poll_refusal p (length ring) at_used (length ids) counts

  pub poll_refused : (no ≡ 0 → ⊥) → poll_of p ring ids counts ≡ outcome (refused no) p ring ids counts
  unfolding poll_of
  poll_refused h = simp (ne_eqb no 0 h)

  pub poll_done : no ≡ 0 → poll_of p ring ids counts ≡ polled_of p at_used ring ids counts
  unfolding poll_of
  poll_done h = simp (eq-eqb no 0 h)

-- what a question for the next ID that is not refused may count on
module _ (p : RingProducer) (ids counts : List ℕ) where
  pub record NextReady : Type 0 where
    pub sound : Sound p
    pub ids_whole : p.layout.size ≤ length ids
    pub counts_whole : p.layout.size ≤ length counts
    pub stack : 0 < p.height
    pub id : top_of p ids < p.layout.size
    pub unheld : get_or counts (top_of p ids) 0 ≡ 0

  pub next_ready : next_refusal p ids counts ≡ 0 → NextReady
  unfolding next_refusal
  next_ready e =
      let e₁ = both_passed (bad_record p) (ltb (length ids) p.layout.size || ltb (length counts) p.layout.size) _ e in
      let e₂ = passed (eqb p.height 0) 4 _ (omega arith) e₁.1.1 in
      let e₃ = passed _ 5 0 (omega arith) e₂.1 in
      let l = neither (ltb (length ids) p.layout.size) _ e₁.1.0 in
      let i = neither (leb p.layout.size (top_of p ids)) _ e₃.0 in
      record {
        sound = sound p e₁.0;
        ids_whole = ltb-false (length ids) p.layout.size l.0;
        counts_whole = ltb-false (length counts) p.layout.size l.1;
        stack = positive (eqb-false p.height 0 e₂.0);
        id = leb-false p.layout.size (top_of p ids) i.0;
        unheld = eqb-true (get_or counts (top_of p ids) 0) 0 (not-false (eqb (get_or counts (top_of p ids) 0) 0) i.1);
      }

  pub next_below : next_refusal p ids counts < 9
  unfolding next_refusal
  next_below =
      both_below (bad_record p) (ltb (length ids) p.layout.size || ltb (length counts) p.layout.size) _
      (cond_lt (eqb p.height 0) 4 _ (omega arith)
      (cond_lt (leb p.layout.size (top_of p ids) || not (eqb (get_or counts (top_of p ids) 0) 0)) 5 0 (omega arith) (omega arith)))

  pub next_refused : (next_refusal p ids counts ≡ 0 → ⊥) → next_of p ids counts ≡ refused (next_refusal p ids counts)
  unfolding next_of
  next_refused h = simp (ne_eqb (next_refusal p ids counts) 0 h)

  pub next_done : next_refusal p ids counts ≡ 0 → next_of p ids counts ≡ done (top_of p ids ∷ [])
  unfolding next_of
  next_done h = simp (eq-eqb (next_refusal p ids counts) 0 h)
