-- What a call that is not refused may count on, of its record and what it is lent.
-- Assumes nothing.
use Prim.Native.Nat.{ℕ, ◌≤◌, ◌<◌}
use mathlib.Core.Path.{◌≡◌, sym, ap, ◌∙◌}
use mathlib.Core.Bool.{false, cond}
use native.Mathlib.Omega.{arith}
use lib.Dec.{leb}
use borrow.Author.Tests.{ltb-false, leb-false}
use Rattle.base.proofs.Tests.{neither}
use Rattle.base.proofs.Ladder.{passed, both_passed, both_below}
use Rattle.base.proofs.Refusals.{number_low}
use Rattle.std.specs.Prelude.{Result, Ok, ⊤}
use Rattle.base.specs.declared.RingError.{RingError}
use Rattle.base.specs.Refusals.{number_of}
use Rattle.base.specs.Answer.{refusal}
use Rattle.layout.specs.Layout.{bad_layout, outside}
use Rattle.layout.proofs.Laws.{Laid, laid, Within, within}
use Rattle.consumer.specs.declared.RingConsumer.{RingConsumer}
use Rattle.consumer.specs.Record.{bad_record, bad_lent, bytes_refusal, lent_refusal}

-- none of 7's conditions holds of the record
pub record Sound (p : RingConsumer) : Type 0 where
  pub laid : Laid p.layout
  pub avail : p.avail.head < p.layout.size
  pub used : p.used.head < p.layout.size
  pub inflight : p.inflight ≤ p.layout.size

pub sound : (p : RingConsumer) → bad_record p ≡ false → Sound p
unfolding bad_record
sound p e =
    let a = neither (bad_layout p.layout) _ e in
    let b = neither (leb p.layout.size p.avail.head) _ a.1 in
    let d = neither (leb p.layout.size p.used.head) _ b.1 in
    record {
      laid = laid p.layout a.0;
      avail = leb-false p.layout.size p.avail.head b.0;
      used = leb-false p.layout.size p.used.head d.0;
      inflight = ltb-false p.layout.size p.inflight d.1;
    }

-- nor of 8's, of the bytes and the counts
pub record Lent (p : RingConsumer) (bytes counts : ℕ) : Type 0 where
  pub bytes_whole : Within p.layout bytes
  pub counts_whole : p.layout.size ≤ counts

pub lent : (p : RingConsumer) (bytes counts : ℕ) → bad_lent p bytes counts ≡ false → Lent p bytes counts
unfolding bad_lent
lent p bytes counts e =
    let a = neither (outside p.layout bytes) _ e in
    record {
      bytes_whole = within p.layout bytes a.0;
      counts_whole = ltb-false counts p.layout.size a.1;
    }

-- what a call that is lent the bytes alone, and one that is lent the counts too, may count on
pub record BytesReady (p : RingConsumer) (bytes : ℕ) : Type 0 where
  pub sound : Sound p
  pub bytes_whole : Within p.layout bytes

pub bytes_ready : (p : RingConsumer) (bytes : ℕ) → bytes_refusal p bytes ≡ 0 → BytesReady p bytes
unfolding bytes_refusal
bytes_ready p bytes e =
    let h = both_passed (bad_record p) (outside p.layout bytes) 0 e in
    record { sound = sound p h.0; bytes_whole = within p.layout bytes h.1.0 }

pub record LentReady (p : RingConsumer) (bytes counts : ℕ) : Type 0 where
  pub sound : Sound p
  pub lent : Lent p bytes counts

pub lent_ready : (p : RingConsumer) (bytes counts : ℕ) → lent_refusal p bytes counts ≡ 0 → LentReady p bytes counts
unfolding lent_refusal
lent_ready p bytes counts e =
    let h = both_passed (bad_record p) (bad_lent p bytes counts) 0 e in
    record { sound = sound p h.0; lent = lent p bytes counts h.1.0 }

pub bytes_below : (p : RingConsumer) (bytes : ℕ) → bytes_refusal p bytes < 9
unfolding bytes_refusal
bytes_below p bytes = both_below (bad_record p) (outside p.layout bytes) 0 (omega arith)

pub lent_below : (p : RingConsumer) (bytes counts : ℕ) → lent_refusal p bytes counts < 9
unfolding lent_refusal
lent_below p bytes counts = both_below (bad_record p) (bad_lent p bytes counts) 0 (omega arith)

-- a record that is not refused is sound
pub record_sound : (p : RingConsumer) (r : Result ⊤ RingError) (u : ⊤) → r ≡ Ok u → refusal r ≡ cond (bad_record p) 7 0 → Sound p
record_sound p r u e f = sound p (passed (bad_record p) 7 0 (omega arith) (sym f ∙ ap refusal e)).0

-- a call's exit by a refusal, of which n is the number: `why` says what the definition gives where that is not 0
pub by_error :
    {A : Type 0} (f : ℕ → A) (y : A) (e : RingError) (n : ℕ) → number_of e ≡ n → ((n ≡ 0 → ⊥) → y ≡ f n) → f (number_of e) ≡ y
by_error f y e n h why = ap f h ∙ sym (why (λ z. omega (arith, h, z, number_low e)))
