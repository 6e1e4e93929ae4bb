-- What a call that is not refused may count on, of its record and what it is lent.
-- Assumes nothing.
use Prim.Native.Nat.{ℕ, ◌≤◌, ◌<◌}
use mathlib.Core.Path.{◌≡◌, sym}
use mathlib.Core.Bool.{false, cond}
use native.Mathlib.Omega.{arith}
use lib.Dec.{ltb, leb}
use borrow.Author.Tests.{ltb-false, leb-false}
use Rattle.base.proofs.Ladder.{passed, both_passed, both_below}
use Rattle.base.proofs.Tests.{neither}
use Rattle.layout.specs.Layout.{bad_layout, outside}
use Rattle.layout.proofs.Laws.{Laid, laid, Within, within}
use Rattle.producer.specs.declared.RingProducer.{RingProducer}
use Rattle.producer.specs.Record.{bad_record, bad_lent, bytes_refusal, lent_refusal}

-- none of 7's conditions holds of the record
pub record Sound (p : RingProducer) : Type 0 where
  pub laid : Laid p.layout
  pub avail : p.avail.head < p.layout.size
  pub used : p.used.head < p.layout.size
  pub free : p.free ≤ p.layout.size
  pub height : p.height ≤ p.layout.size

pub sound : (p : RingProducer) → bad_record p ≡ false → Sound p
unfolding bad_record
sound p e =
    let a = neither (bad_layout p.layout) _ e in
    let b = neither (leb p.layout.size p.avail.head) _ a.1 in
    let d = neither (leb p.layout.size p.used.head) _ b.1 in
    let f = neither (ltb p.layout.size p.free) _ d.1 in
    record {
      laid = laid p.layout a.0;
      avail = leb-false p.layout.size p.avail.head b.0;
      used = leb-false p.layout.size p.used.head d.0;
      free = ltb-false p.layout.size p.free f.0;
      height = ltb-false p.layout.size p.height f.1;
    }

-- nor of 8's, of the bytes and the tables
pub record Lent (p : RingProducer) (bytes ids counts : ℕ) : Type 0 where
  pub bytes_whole : Within p.layout bytes
  pub ids_whole : p.layout.size ≤ ids
  pub counts_whole : p.layout.size ≤ counts

pub lent : (p : RingProducer) (bytes ids counts : ℕ) → bad_lent p bytes ids counts ≡ false → Lent p bytes ids counts
unfolding bad_lent
lent p bytes ids counts e =
    let a = neither (outside p.layout bytes) _ e in
    let b = neither (ltb ids p.layout.size) _ a.1 in
    record {
      bytes_whole = within p.layout bytes a.0;
      ids_whole = ltb-false ids p.layout.size b.0;
      counts_whole = ltb-false counts p.layout.size b.1;
    }

-- what a call that is lent the bytes alone, and one that is lent both tables too, may count on
pub record BytesReady (p : RingProducer) (bytes : ℕ) : Type 0 where
  pub sound : Sound p
  pub bytes_whole : Within p.layout bytes

pub bytes_ready : (p : RingProducer) (bytes : ℕ) → bytes_refusal p bytes ≡ 0 → BytesReady p bytes
unfolding bytes_refusal
bytes_ready p bytes e =
    let h = both_passed (bad_record p) (outside p.layout bytes) 0 e in
    record { sound = sound p h.0; bytes_whole = within p.layout bytes h.1.0 }

pub record LentReady (p : RingProducer) (bytes ids counts : ℕ) : Type 0 where
  pub sound : Sound p
  pub lent : Lent p bytes ids counts

pub lent_ready : (p : RingProducer) (bytes ids counts : ℕ) → lent_refusal p bytes ids counts ≡ 0 → LentReady p bytes ids counts
unfolding lent_refusal
lent_ready p bytes ids counts e =
    let h = both_passed (bad_record p) (bad_lent p bytes ids counts) 0 e in
    record { sound = sound p h.0; lent = lent p bytes ids counts h.1.0 }

pub bytes_below : (p : RingProducer) (bytes : ℕ) → bytes_refusal p bytes < 9
unfolding bytes_refusal
bytes_below p bytes = both_below (bad_record p) (outside p.layout bytes) 0 (omega arith)

pub lent_below : (p : RingProducer) (bytes ids counts : ℕ) → lent_refusal p bytes ids counts < 9
unfolding lent_refusal
lent_below p bytes ids counts = both_below (bad_record p) (bad_lent p bytes ids counts) 0 (omega arith)

-- a record that is not refused has no more free slots than slots
pub no_more_free : (p : RingProducer) → ◌≡◌ {A = ℕ} 0 (cond (bad_record p) 7 0) → p.free ≤ p.layout.size
no_more_free p e = (sound p (passed (bad_record p) 7 0 (omega arith) (sym e)).0).free
