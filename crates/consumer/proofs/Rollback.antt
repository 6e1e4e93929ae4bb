-- The ways a rollback ends.
-- Assumes nothing.
use Prim.Native.Nat.{ℕ, ◌+◌, ◌≤◌, ◌<◌}
use mathlib.Core.Path.{◌≡◌, refl, sym, ap, ◌∙◌}
use mathlib.Core.Logic.{◌⊎◌, inl, inr, ⊎_elim}
use mathlib.Core.List.{List, [], ◌∷◌}
use mathlib.Core.Bool.{Bool, true, false, not, cond, ◌||◌, ◌&&◌, beq}
use native.Mathlib.Omega.{arith}
use lib.Dec.{ltb, leb, eqb}
use lib.ListN.{length}
use borrow.Author.Tests.{eq-eqb, ne_eqb, eqb-true, ltb-false, leb-false, not-false}
use Rattle.base.specs.Answer.{done, refused}
use Rattle.base.proofs.Tests.{neither, split}
use Rattle.base.proofs.Ladder.{passed, both_passed, both_below, Rungs, rung, no_rung}
use Rattle.cursor.specs.declared.RingCursor.{RingCursor}
use Rattle.cursor.specs.Cursor.{at, steps}
use Rattle.undo.specs.Undo.{bad_ids, total_of, sum_of, cleared_of}
use Rattle.undo.proofs.Laws.{sum_is_done, sum_is_refused}
use Rattle.consumer.specs.declared.RingConsumer.{RingConsumer}
use Rattle.consumer.specs.declared.Checkpoint.{Checkpoint}
use Rattle.consumer.specs.Record.{bad_record}
use Rattle.consumer.specs.Outcome.{rolled}
use Rattle.consumer.specs.Rollback.{handed_refusal, same_of, stale_of, rollback_refusal, back_of, rollback_of}
use Rattle.consumer.proofs.Ready.{Sound, sound}

-- what a rollback may count on that is not refused for what it was handed
module _ (p : RingConsumer) (cp : Checkpoint) (counts : ℕ) where
  pub record HandedReady : Type 0 where
    pub sound : Sound p
    pub avail : cp.avail.head < p.layout.size
    pub used : cp.used.head < p.layout.size
    pub counts_whole : p.layout.size ≤ counts

  pub handed_ready : (rest : ℕ) → handed_refusal p cp counts rest ≡ 0 → HandedReady × (rest ≡ 0)
  unfolding handed_refusal
  handed_ready rest e =
      let e₁ = both_passed (bad_record p || (leb p.layout.size cp.avail.head || leb p.layout.size cp.used.head)) (ltb counts p.layout.size) rest e in
      let a = neither (bad_record p) _ e₁.0 in
      let b = neither (leb p.layout.size cp.avail.head) _ a.1 in (
        record {
          sound = sound p a.0;
          avail = leb-false p.layout.size cp.avail.head b.0;
          used = leb-false p.layout.size cp.used.head b.1;
          counts_whole = ltb-false counts p.layout.size e₁.1.0;
        },
        e₁.1.1,
      )

  pub handed_below : handed_refusal p cp counts 0 < 9
  unfolding handed_refusal
  handed_below =
      both_below (bad_record p || (leb p.layout.size cp.avail.head || leb p.layout.size cp.used.head)) (ltb counts p.layout.size) 0 (omega arith)

  pub handed_rungs : Rungs (handed_refusal p cp counts)
  unfolding handed_refusal
  handed_rungs =
      rung (bad_record p || (leb p.layout.size cp.avail.head || leb p.layout.size cp.used.head)) 7 _ (omega arith)
      (rung (ltb counts p.layout.size) 8 _ (omega arith) no_rung)

-- a checkpoint that is not stale: what its tests say
pub same_cursor : (a b : RingCursor) → same_of a b ≡ true → a ≡ b
same_cursor a b e = let h = both_hold (eqb a.head b.head) _ e in
    λ i. at (eqb-true a.head b.head h.0 i) (beq_true a.wrap b.wrap h.1 i)
  where
    both_hold : (x y : Bool) → x && y ≡ true → (x ≡ true) × (y ≡ true)
    both_hold true y e = (refl, e)
    both_hold false y e = let z : ◌≡◌ {A = ℕ} 0 1 = cc in absurd (omega arith)

    beq_true : (x y : Bool) → beq x y ≡ true → x ≡ y
    beq_true true true e = refl
    beq_true false false e = refl
    beq_true true false e = let z : ◌≡◌ {A = ℕ} 0 1 = cc in absurd (omega arith)
    beq_true false true e = let z : ◌≡◌ {A = ℕ} 0 1 = cc in absurd (omega arith)

module _ (p : RingConsumer) (cp : Checkpoint) (n : ℕ) where
  pub record Current : Type 0 where
    pub used : p.used ≡ cp.used
    pub inflight : p.inflight ≡ cp.inflight + n
    pub avail : p.avail ≡ steps p.layout.size n cp.avail

  pub current : stale_of p cp n ≡ false → Current
  unfolding stale_of
  current e =
      let a = neither (not (same_of p.used cp.used)) _ e in
      let b = neither (not (eqb p.inflight (cp.inflight + n))) _ a.1 in
      record {
        used = same_cursor p.used cp.used (not-false _ a.0);
        inflight = eqb-true p.inflight (cp.inflight + n) (not-false _ b.0);
        avail = same_cursor p.avail (steps p.layout.size n cp.avail) (not-false _ b.1);
      }

  -- a sum above what is in flight is not the checkpoint's
  pub over_stale : p.inflight < n → stale_of p cp n ≡ true
  over_stale h = split (stale_of p cp n) (λ t. t) (λ f. absurd (omega (arith, (current f).inflight)))

either : (a b : Bool) → (a ≡ true) ⊎ (b ≡ true) → a || b ≡ true
either true b o = refl
either false b o = ⊎_elim (λ z. let y : ◌≡◌ {A = ℕ} 0 1 = cc in absurd (omega arith)) (λ t. t) o

module _ (p : RingConsumer) (counts : List ℕ) (cp : Checkpoint) (ids : List ℕ) where
  abbrev handed : ℕ
  handed = handed_refusal p cp (length counts) 0

  abbrev bad : Bool
  bad = bad_ids p.layout.size counts ids

  abbrev stale : Bool
  stale = stale_of p cp (total_of counts ids)

  pub rollback_stopped : (handed ≡ 0 → ⊥) → rollback_of p counts cp ids ≡ rolled (refused handed) p counts
  unfolding rollback_of rollback_refusal
  rollback_stopped h =
      let e = (handed_rungs p cp (length counts)).stops (cond (bad || stale) 9 0) h in
      simp (e, ne_eqb handed 0 h)

  pub rollback_refused : handed ≡ 0 → bad || stale ≡ true → rollback_of p counts cp ids ≡ rolled (refused 9) p counts
  unfolding rollback_of rollback_refusal
  rollback_refused z h =
      let e : handed_refusal p cp (length counts) (cond (bad || stale) 9 0) ≡ 9 =
      (handed_rungs p cp (length counts)).passes (cond (bad || stale) 9 0) z ∙ ap (λ (b : Bool). cond b 9 0) h in
      simp e

  pub rollback_done : handed ≡ 0 → bad || stale ≡ false → rollback_of p counts cp ids ≡ rolled (done []) (back_of p cp) (cleared_of counts ids)
  unfolding rollback_of rollback_refusal
  rollback_done z h =
      let e : handed_refusal p cp (length counts) (cond (bad || stale) 9 0) ≡ 0 =
      (handed_rungs p cp (length counts)).passes (cond (bad || stale) 9 0) z ∙ ap (λ (b : Bool). cond b 9 0) h in
      simp e

  -- by the whole refusal: the counts cleared, or as they were
  pub rollback_cleared : rollback_refusal p counts cp ids ≡ 0 → (rollback_of p counts cp ids).counts ≡ cleared_of counts ids
  unfolding rollback_of
  rollback_cleared z = simp (eq-eqb (rollback_refusal p counts cp ids) 0 z)

  pub rollback_kept : (rollback_refusal p counts cp ids ≡ 0 → ⊥) → (rollback_of p counts cp ids).counts ≡ counts
  unfolding rollback_of
  rollback_kept z = simp (ne_eqb (rollback_refusal p counts cp ids) 0 z)

  -- what the sum of the list says, where what was handed in is good: it stops exactly if an ID is bad or the sum is above what is in
  -- flight, and a sum above what is in flight is not the checkpoint's
  pub sum_stops : HandedReady p cp (length counts) → (k : ℕ) → refused k ≡ sum_of p.layout.size p.inflight counts ids → bad || stale ≡ true
  sum_stops h k e =
      ⊎_elim (λ b. either bad stale (inl b)) (λ o. either bad stale (inr (over_stale p cp (total_of counts ids) o)))
      (sum_is_refused p.layout.size p.inflight counts ids h.sound.laid.high h.sound.inflight h.counts_whole k e)

  pub sum_goes :
      HandedReady p cp (length counts) → (n : ℕ) → done (n ∷ []) ≡ sum_of p.layout.size p.inflight counts ids
      → (bad ≡ false) × ((n ≡ total_of counts ids) × (total_of counts ids ≤ p.inflight))
  sum_goes h n e = sum_is_done p.layout.size p.inflight counts ids h.sound.laid.high h.sound.inflight h.counts_whole n e

  pub is_stale : (n : ℕ) → n ≡ total_of counts ids → stale_of p cp n ≡ true → bad || stale ≡ true
  is_stale n e t = either bad stale (inr (ap (stale_of p cp) (sym e) ∙ t))

  pub is_current : (n : ℕ) → n ≡ total_of counts ids → bad ≡ false → stale_of p cp n ≡ false → bad || stale ≡ false
  is_current n e b t = simp (b, ap (stale_of p cp) (sym e) ∙ t)

  -- what an accepted rollback may count on
  pub record RollbackReady : Type 0 where
    pub given : HandedReady p cp (length counts)
    pub listed : bad ≡ false
    pub current : Current p cp (total_of counts ids)

  pub rollback_ready : rollback_refusal p counts cp ids ≡ 0 → RollbackReady
  unfolding rollback_refusal
  rollback_ready e =
      let h = handed_ready p cp (length counts) (cond (bad || stale) 9 0) e in
      let g = neither bad stale (passed (bad || stale) 9 0 (omega arith) h.1).0 in
      record { given = h.0; listed = g.0; current = current p cp (total_of counts ids) g.1 }
