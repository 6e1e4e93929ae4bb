-- The ways a notification's call ends.
-- Assumes nothing.
use Prim.Native.Nat.{ℕ, ◌<◌}
use mathlib.Core.Path.{◌≡◌}
use mathlib.Core.List.{List, [], ◌∷◌}
use mathlib.Core.Bool.{◌||◌}
use native.Mathlib.Omega.{arith}
use lib.Dec.{leb}
use lib.ListN.{length}
use borrow.Author.Tests.{eq-eqb, ne_eqb, leb-false}
use Rattle.base.specs.Answer.{done, refused, bit}
use Rattle.cursor.specs.declared.RingCursor.{RingCursor}
use Rattle.layout.specs.Layout.{outside}
use Rattle.layout.proofs.Laws.{Within, within}
use Rattle.producer.specs.declared.RingProducer.{RingProducer}
use Rattle.producer.specs.Record.{bad_record, bytes_refusal}
use Rattle.producer.specs.Outcome.{changed}
use Rattle.producer.proofs.Ready.{Sound, sound}
use Rattle.base.proofs.Tests.{neither}
use Rattle.base.proofs.Ladder.{both_passed, both_below}
use Rattle.ring.specs.Events.{told}
use Rattle.producer.specs.Notices.{since_refusal, shadow_of, notice_of, since_of}

-- what a call that is lent the bytes and handed a cursor may count on
pub record SinceReady (p : RingProducer) (bytes : ℕ) (old : RingCursor) : Type 0 where
  pub sound : Sound p
  pub old_below : old.head < p.layout.size
  pub bytes_whole : Within p.layout bytes

pub since_ready : (p : RingProducer) (bytes : ℕ) (old : RingCursor) → since_refusal p bytes old ≡ 0 → SinceReady p bytes old
unfolding since_refusal
since_ready p bytes old e =
    let h = both_passed (bad_record p || leb p.layout.size old.head) (outside p.layout bytes) 0 e in
    let a = neither (bad_record p) _ h.0 in
    record {
      sound = sound p a.0;
      old_below = leb-false p.layout.size old.head a.1;
      bytes_whole = within p.layout bytes h.1.0;
    }

pub since_below : (p : RingProducer) (bytes : ℕ) (old : RingCursor) → since_refusal p bytes old < 9
unfolding since_refusal
since_below p bytes old = both_below (bad_record p || leb p.layout.size old.head) (outside p.layout bytes) 0 (omega arith)

module _ (p : RingProducer) (ring : List ℕ) (flags : ℕ) (bytes : List ℕ) where
  abbrev no : ℕ
  no = bytes_refusal p (length ring)

  pub notice_refused : (no ≡ 0 → ⊥) → notice_of p ring flags bytes ≡ changed (refused no) p ring
  unfolding notice_of
  notice_refused h = simp (ne_eqb no 0 h)

  pub notice_done : no ≡ 0 → notice_of p ring flags bytes ≡ changed (done []) (shadow_of p flags) bytes
  unfolding notice_of
  notice_done h = simp (eq-eqb no 0 h)

module _ (p : RingProducer) (ring : List ℕ) (old : RingCursor) where
  pub since_refused : (since_refusal p (length ring) old ≡ 0 → ⊥) → since_of p ring old ≡ refused (since_refusal p (length ring) old)
  unfolding since_of
  since_refused h = simp (ne_eqb (since_refusal p (length ring) old) 0 h)

  pub since_done :
      since_refusal p (length ring) old ≡ 0
      → since_of p ring old ≡ done (bit (told p.layout.device p.layout.size old p.avail ring) ∷ [])
  unfolding since_of
  since_done h = simp (eq-eqb (since_refusal p (length ring) old) 0 h)
