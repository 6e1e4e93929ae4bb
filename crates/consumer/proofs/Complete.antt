-- The ways a completion ends.
-- Assumes nothing.
use Prim.Native.Nat.{ℕ, ◌≤◌, ◌<◌}
use mathlib.Core.Path.{◌≡◌}
use mathlib.Core.List.{List, []}
use mathlib.Core.Bool.{◌||◌}
use native.Mathlib.Omega.{arith}
use lib.Dec.{ltb, leb, eqb}
use lib.ListN.{length, get_or, set}
use borrow.Author.Tests.{eq-eqb, ne_eqb, eqb-false, ltb-false, leb-false}
use Rattle.base.specs.Answer.{done, refused}
use Rattle.base.proofs.Tests.{neither, positive}
use Rattle.base.proofs.Ladder.{passed, both_passed, cond_lt, both_below}
use Rattle.consumer.specs.declared.RingConsumer.{RingConsumer}
use Rattle.consumer.specs.Record.{bad_record, bad_lent}
use Rattle.consumer.specs.Outcome.{outcome}
use Rattle.consumer.specs.Complete.{complete_refusal, used_put, completed_of, complete_of}
use Rattle.consumer.proofs.Ready.{Sound, sound, Lent, lent}

-- what a completion that is not refused may count on
module _ (p : RingConsumer) (bytes id : ℕ) (counts : List ℕ) where
  pub record CompleteReady : Type 0 where
    pub sound : Sound p
    pub lent : Lent p bytes (length counts)
    pub below : id < p.layout.size
    pub held : 0 < get_or counts id 0
    pub room : get_or counts id 0 ≤ p.inflight

  pub complete_ready : complete_refusal p bytes id counts ≡ 0 → CompleteReady
  unfolding complete_refusal
  complete_ready e =
      let n = get_or counts id 0 in
      let e₁ = both_passed (bad_record p) (bad_lent p bytes (length counts)) _ e in
      let e₂ = passed _ 5 0 (omega arith) e₁.1.1 in
      let i = neither (leb p.layout.size id) _ e₂.0 in
      let h = neither (eqb n 0) _ i.1 in
      record {
        sound = sound p e₁.0;
        lent = lent p bytes (length counts) e₁.1.0;
        below = leb-false p.layout.size id i.0;
        held = positive (eqb-false n 0 h.0);
        room = ltb-false p.inflight n h.1;
      }

  pub complete_below : complete_refusal p bytes id counts < 9
  unfolding complete_refusal
  complete_below =
      both_below (bad_record p) (bad_lent p bytes (length counts)) _
      (cond_lt (leb p.layout.size id || (eqb (get_or counts id 0) 0 || ltb p.inflight (get_or counts id 0))) 5 0 (omega arith) (omega arith))

module _ (p : RingConsumer) (ring counts : List ℕ) (id len : ℕ) where
  abbrev no : ℕ
  no = complete_refusal p (length ring) id counts

  pub complete_refused : (no ≡ 0 → ⊥) → complete_of p ring counts id len ≡ outcome (refused no) p ring counts
  unfolding complete_of
  complete_refused h = simp (ne_eqb no 0 h)

  pub complete_done :
      no ≡ 0
      → complete_of p ring counts id len ≡ outcome (done []) (completed_of p (get_or counts id 0)) (used_put p id len ring) (set counts id 0)
  unfolding complete_of
  complete_done h = simp (eq-eqb no 0 h)
