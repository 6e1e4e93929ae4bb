-- The ways a notification's call ends.
-- Assumes nothing.
use Prim.Native.Nat.{ℕ}
use mathlib.Core.Path.{◌≡◌}
use mathlib.Core.List.{List, []}
use lib.ListN.{length}
use borrow.Author.Tests.{eq-eqb, ne_eqb}
use Rattle.base.specs.Answer.{done, refused}
use Rattle.consumer.specs.declared.RingConsumer.{RingConsumer}
use Rattle.consumer.specs.Record.{bytes_refusal}
use Rattle.consumer.specs.Outcome.{changed}
use Rattle.consumer.specs.Notices.{shadow_of, notice_of}

module _ (p : RingConsumer) (ring : List ℕ) (flags : ℕ) (bytes : List ℕ) where
  abbrev no : ℕ
  no = bytes_refusal p (length ring)

  pub notice_refused : (no ≡ 0 → ⊥) → notice_of p ring flags bytes ≡ changed (refused no) p ring
  unfolding notice_of
  notice_refused h = simp (ne_eqb no 0 h)

  pub notice_done : no ≡ 0 → notice_of p ring flags bytes ≡ changed (done []) (shadow_of p flags) bytes
  unfolding notice_of
  notice_done h = simp (eq-eqb no 0 h)
