-- The ways a submission ends.
-- Assumes nothing.
use Prim.Native.Nat.{ℕ, ◌≤◌, ◌<◌}
use mathlib.Core.Path.{◌≡◌}
use mathlib.Core.List.{List}
use mathlib.Core.Bool.{not, ◌||◌}
use native.Mathlib.Omega.{arith}
use lib.Dec.{ltb, leb, eqb}
use lib.ListN.{length, get_or}
use borrow.Author.Tests.{eq-eqb, ne_eqb, eqb-true, eqb-false, ltb-false, leb-false, not-false}
use Rattle.base.specs.Answer.{refused}
use Rattle.base.proofs.Tests.{neither, positive}
use Rattle.base.proofs.Ladder.{passed, both_passed, cond_lt, both_below}
use Rattle.chain.specs.Chain.{bad_slices}
use Rattle.chain.proofs.Laws.{Good, good}
use Rattle.producer.specs.declared.RingProducer.{RingProducer}
use Rattle.producer.specs.Outcome.{outcome}
use Rattle.producer.specs.Record.{bad_record, bad_lent}
use Rattle.producer.specs.Submit.{top_of, submit_refusal, element_of, put_chain, submitted_of, submit_of}
use Rattle.producer.proofs.Ready.{Sound, sound, Lent, lent}

-- what a submission that is not refused may count on
module _ (p : RingProducer) (bytes : ℕ) (ids counts : List ℕ) (n lens readable : ℕ) where
  pub record SubmitReady : Type 0 where
    pub sound : Sound p
    pub lent : Lent p bytes (length ids) (length counts)
    pub chain : Good n lens readable
    pub elements : 0 < n
    pub room : n ≤ p.free
    pub stack : 0 < p.height
    pub id : top_of p ids < p.layout.size
    pub unheld : get_or counts (top_of p ids) 0 ≡ 0

  pub submit_ready : submit_refusal p bytes ids counts n lens readable ≡ 0 → SubmitReady
  unfolding submit_refusal
  submit_ready e =
      let e₁ = both_passed (bad_record p) (bad_lent p bytes (length ids) (length counts) || bad_slices n lens readable) _ e in
      let e₂ = passed (eqb n 0) 1 _ (omega arith) e₁.1.1 in
      let e₃ = passed (ltb p.free n) 3 _ (omega arith) e₂.1 in
      let e₄ = passed (eqb p.height 0) 4 _ (omega arith) e₃.1 in
      let e₅ = passed _ 5 0 (omega arith) e₄.1 in
      let l = neither (bad_lent p bytes (length ids) (length counts)) _ e₁.1.0 in
      let i = neither (leb p.layout.size (top_of p ids)) _ e₅.0 in
      record {
        sound = sound p e₁.0;
        lent = lent p bytes (length ids) (length counts) l.0;
        chain = good n lens readable l.1;
        elements = positive (eqb-false n 0 e₂.0);
        room = ltb-false p.free n e₃.0;
        stack = positive (eqb-false p.height 0 e₄.0);
        id = leb-false p.layout.size (top_of p ids) i.0;
        unheld = eqb-true (get_or counts (top_of p ids) 0) 0 (not-false (eqb (get_or counts (top_of p ids) 0) 0) i.1);
      }

  pub submit_below : submit_refusal p bytes ids counts n lens readable < 9
  unfolding submit_refusal
  submit_below =
      both_below (bad_record p) (bad_lent p bytes (length ids) (length counts) || bad_slices n lens readable) _
      (cond_lt (eqb n 0) 1 _ (omega arith)
      (cond_lt (ltb p.free n) 3 _ (omega arith)
      (cond_lt (eqb p.height 0) 4 _ (omega arith)
      (cond_lt (leb p.layout.size (top_of p ids) || not (eqb (get_or counts (top_of p ids) 0) 0)) 5 0 (omega arith) (omega arith)))))

module _ (p : RingProducer) (ring ids counts addrs lens : List ℕ) (readable : ℕ) where
  abbrev no : ℕ
  no = submit_refusal p (length ring) ids counts (length addrs) (length lens) readable

  pub submit_refused : (no ≡ 0 → ⊥) → submit_of p ring ids counts addrs lens readable ≡ outcome (refused no) p ring ids counts
  unfolding submit_of
  submit_refused h = simp (ne_eqb no 0 h)

  pub submit_done :
      no ≡ 0 → submit_of p ring ids counts addrs lens readable
      ≡ submitted_of p ids counts (length addrs) (top_of p ids)
      (put_chain p.layout (element_of (top_of p ids) addrs lens readable) (length addrs) p.avail ring)
  unfolding submit_of
  submit_done h = simp (eq-eqb no 0 h)
