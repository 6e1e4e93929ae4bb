-- The ways a poll ends.
-- Assumes nothing.
use Prim.Native.Nat.{ℕ, ◌+◌, ◌≤◌, ◌<◌}
use mathlib.Core.Path.{◌≡◌, ◌∙◌}
use mathlib.Core.List.{List, [], ◌∷◌, map}
use mathlib.Core.Bool.{true, false, not, ◌||◌}
use native.Mathlib.Omega.{arith}
use lib.Dec.{ltb, leb, eqb}
use lib.ListN.{length, get_or, set}
use lib.Seq.{sets}
use borrow.Author.Tests.{eq-eqb, ne_eqb, le-ltb, lt-leb, eqb-true, ltb-false, leb-false, not-false}
use Rattle.base.specs.Answer.{done, refused, bit}
use Rattle.base.proofs.Tests.{neither}
use Rattle.base.proofs.Ladder.{passed, both_passed, cond_lt, both_below, Rungs, rung, no_rung}
use Rattle.desc.specs.declared.Descriptor.{Descriptor}
use Rattle.desc.specs.Flags.{is_avail}
use Rattle.walk.specs.declared.Walk.{Walk}
use Rattle.walk.specs.Walk.{slots_from, addr_of, len_of}
use Rattle.consumer.specs.declared.RingConsumer.{RingConsumer}
use Rattle.consumer.specs.Record.{bad_record, bad_lent, bytes_refusal}
use Rattle.consumer.specs.Poll.{taken, head_refusal, walk_refusal, walked_of, head_of, poll_refusal, past_of, polled_of, poll_of, peek_of}
use Rattle.consumer.proofs.Ready.{Sound, sound, Lent, lent}

-- what a poll may count on that is not refused up to its head
module _ (p : RingConsumer) (bytes : ℕ) (d : Descriptor) (counts addrs lens : ℕ) where
  pub record HeadReady : Type 0 where
    pub sound : Sound p
    pub lent : Lent p bytes counts
    pub addrs_whole : p.layout.size ≤ addrs
    pub lens_whole : p.layout.size ≤ lens
    pub avail : is_avail d.flags p.avail.wrap ≡ true

  abbrev head : ℕ → ℕ
  head = head_refusal p bytes d counts addrs lens

  pub head_ready : (rest : ℕ) → head rest ≡ 0 → HeadReady × (rest ≡ 0)
  unfolding head_refusal
  head_ready rest e =
      let e₁ = both_passed (bad_record p) (bad_lent p bytes counts || (ltb addrs p.layout.size || ltb lens p.layout.size)) _ e in
      let e₂ = passed (not (is_avail d.flags p.avail.wrap)) 3 rest (omega arith) e₁.1.1 in
      let l = neither (bad_lent p bytes counts) _ e₁.1.0 in
      let o = neither (ltb addrs p.layout.size) _ l.1 in (
        record {
          sound = sound p e₁.0;
          lent = lent p bytes counts l.0;
          addrs_whole = ltb-false addrs p.layout.size o.0;
          lens_whole = ltb-false lens p.layout.size o.1;
          avail = not-false (is_avail d.flags p.avail.wrap) e₂.0;
        },
        e₂.1,
      )

  pub head_below : (rest : ℕ) → rest < 9 → head rest < 9
  unfolding head_refusal
  head_below rest h =
      both_below (bad_record p) (bad_lent p bytes counts || (ltb addrs p.layout.size || ltb lens p.layout.size)) _
      (cond_lt (not (is_avail d.flags p.avail.wrap)) 3 rest (omega arith) h)

  -- read the other way: with nothing of these in its way, a poll goes on behind the head
  pub head_goes :
      bad_record p ≡ false → bad_lent p bytes counts ≡ false → p.layout.size ≤ addrs → p.layout.size ≤ lens
      → is_avail d.flags p.avail.wrap ≡ true → (rest : ℕ) → head rest ≡ rest
  unfolding head_refusal
  head_goes r l a b v rest = simp (r, l, le-ltb addrs p.layout.size a, le-ltb lens p.layout.size b, v)

  -- what comes behind the head counts exactly if nothing before it refuses
  pub head_rungs : Rungs head
  unfolding head_refusal
  head_rungs =
      rung (bad_record p) 7 _ (omega arith)
      (rung (bad_lent p bytes counts || (ltb addrs p.layout.size || ltb lens p.layout.size)) 8 _ (omega arith)
      (rung (not (is_avail d.flags p.avail.wrap)) 3 _ (omega arith) no_rung))

-- and behind its walk
module _ (p : RingConsumer) (w : Walk) (id : ℕ) (counts : List ℕ) where
  pub record WalkReady : Type 0 where
    pub good : w.bad ≡ false
    pub whole : w.more ≡ false
    pub below : id < p.layout.size
    pub unheld : get_or counts id 0 ≡ 0
    pub room : p.inflight + w.count ≤ p.layout.size

  pub walk_ready : walk_refusal p w id counts ≡ 0 → WalkReady
  unfolding walk_refusal
  walk_ready e =
      let e₁ = passed (w.bad || w.more) 2 _ (omega arith) e in
      let e₂ = passed _ 5 0 (omega arith) e₁.1 in
      let b = neither w.bad w.more e₁.0 in
      let i = neither (leb p.layout.size id) _ e₂.0 in
      let h = neither (not (eqb (get_or counts id 0) 0)) _ i.1 in
      record {
        good = b.0;
        whole = b.1;
        below = leb-false p.layout.size id i.0;
        unheld = eqb-true (get_or counts id 0) 0 (not-false (eqb (get_or counts id 0) 0) h.0);
        room = ltb-false p.layout.size (p.inflight + w.count) h.1;
      }

  pub walk_goes :
      w.bad ≡ false → w.more ≡ false → id < p.layout.size → get_or counts id 0 ≡ 0 → p.inflight + w.count ≤ p.layout.size
      → walk_refusal p w id counts ≡ 0
  unfolding walk_refusal
  walk_goes b m i h r =
      simp (b, m, lt-leb p.layout.size id i, eq-eqb (get_or counts id 0) 0 h, le-ltb p.layout.size (p.inflight + w.count) r)

  pub walk_below : walk_refusal p w id counts < 9
  unfolding walk_refusal
  walk_below =
      cond_lt (w.bad || w.more) 2 _ (omega arith)
      (cond_lt (leb p.layout.size id
      || (not (eqb (get_or counts id 0) 0) || ltb p.layout.size (p.inflight + w.count))) 5 0 (omega arith) (omega arith))

module _ (p : RingConsumer) (ring counts addrs lens : List ℕ) where
  abbrev no : ℕ
  no = poll_refusal p ring counts (length addrs) (length lens)

  abbrev at_head : ℕ
  at_head = head_refusal p (length ring) (head_of p ring) (length counts) (length addrs) (length lens) 0

  abbrev at_walk : ℕ
  at_walk = walk_refusal p (walked_of p ring) (head_of p ring).id counts

  -- the three ways: refused up to the head, refused behind the walk, taken
  pub poll_stopped : (at_head ≡ 0 → ⊥) → poll_of p ring counts addrs lens ≡ taken (refused at_head) p counts addrs lens
  unfolding poll_of poll_refusal
  poll_stopped h =
      let e = (head_rungs p (length ring) (head_of p ring) (length counts) (length addrs) (length lens)).stops at_walk h in
      simp (e, ne_eqb at_head 0 h)

  pub poll_refused : at_head ≡ 0 → (at_walk ≡ 0 → ⊥) → poll_of p ring counts addrs lens ≡ taken (refused at_walk) p counts addrs lens
  unfolding poll_of poll_refusal
  poll_refused z h =
      let e = (head_rungs p (length ring) (head_of p ring) (length counts) (length addrs) (length lens)).passes at_walk z in
      simp (e, ne_eqb at_walk 0 h)

  pub poll_taken :
      at_head ≡ 0 → at_walk ≡ 0
      → poll_of p ring counts addrs lens ≡ polled_of p ring (head_of p ring).id (walked_of p ring) counts addrs lens
  unfolding poll_of poll_refusal
  poll_taken z h =
      let e = (head_rungs p (length ring) (head_of p ring) (length counts) (length addrs) (length lens)).passes at_walk z in
      simp (e, eq-eqb at_walk 0 h)

  -- all of a poll that is not refused, in one equation
  pub poll_takes :
      no ≡ 0
      → poll_of p ring counts addrs lens
      ≡ taken (done ((head_of p ring).id ∷ (walked_of p ring).count ∷ (walked_of p ring).readable ∷ []))
      (past_of p (walked_of p ring).at (walked_of p ring).count) (set counts (head_of p ring).id (walked_of p ring).count)
      (sets addrs 0 (map addr_of (slots_from p.layout.table p.layout.size ring p.avail (walked_of p ring).count)))
      (sets lens 0 (map len_of (slots_from p.layout.table p.layout.size ring p.avail (walked_of p ring).count)))
  unfolding poll_of polled_of
  poll_takes h = simp (eq-eqb no 0 h)

  -- and what is not in its way, it takes
  pub poll_goes : at_head ≡ 0 → at_walk ≡ 0 → no ≡ 0
  unfolding poll_refusal
  poll_goes z h = (head_rungs p (length ring) (head_of p ring) (length counts) (length addrs) (length lens)).passes at_walk z ∙ h

  -- what a poll that is not refused may count on
  pub record PollReady : Type 0 where
    pub at_head_ready : HeadReady p (length ring) (head_of p ring) (length counts) (length addrs) (length lens)
    pub at_walk_ready : WalkReady p (walked_of p ring) (head_of p ring).id counts

  pub poll_ready : no ≡ 0 → PollReady
  unfolding poll_refusal
  poll_ready e =
      let h = head_ready p (length ring) (head_of p ring) (length counts) (length addrs) (length lens) at_walk e in
      record { at_head_ready = h.0; at_walk_ready = walk_ready p (walked_of p ring) (head_of p ring).id counts h.1 }

module _ (p : RingConsumer) (ring : List ℕ) where
  pub peek_refused : (bytes_refusal p (length ring) ≡ 0 → ⊥) → peek_of p ring ≡ refused (bytes_refusal p (length ring))
  unfolding peek_of
  peek_refused h = simp (ne_eqb (bytes_refusal p (length ring)) 0 h)

  pub peek_done : bytes_refusal p (length ring) ≡ 0 → peek_of p ring ≡ done (bit (is_avail (head_of p ring).flags p.avail.wrap) ∷ [])
  unfolding peek_of
  peek_done h = simp (eq-eqb (bytes_refusal p (length ring)) 0 h)
