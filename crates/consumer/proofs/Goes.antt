-- The ladders read the other way: what each call answers where its record and all that it is lent is sound, and what it leaves.
-- Assumes nothing.
use Prim.Native.Nat.{ℕ, ◌+◌, ◌-◌, ◌≤◌, ◌<◌}
use mathlib.Core.Path.{◌≡◌, refl, sym, ◌∙◌, ap}
use mathlib.Core.List.{List, [], ◌∷◌}
use mathlib.Core.Bool.{Bool, true, false, cond, ◌||◌, ◌&&◌, beq}
use native.Mathlib.Omega.{arith}
use lib.Dec.{ltb, leb, eqb}
use lib.ListN.{length, get_or}
use borrow.Author.Tests.{eq-eqb, ne_eqb, le-ltb, lt-leb}
use Rattle.base.specs.Answer.{Answer, valued, bit}
use Rattle.base.proofs.Refusals.{valued_number}
use Rattle.base.proofs.Tests.{or_true}
use Rattle.cursor.specs.declared.RingCursor.{RingCursor}
use Rattle.cursor.specs.Cursor.{fresh, steps}
use Rattle.desc.specs.declared.Descriptor.{Descriptor}
use Rattle.desc.specs.Flags.{is_avail}
use Rattle.event.specs.Event.{ENABLE}
use Rattle.layout.specs.declared.Layout.{Layout}
use Rattle.layout.specs.Layout.{bad_layout, outside}
use Rattle.ring.specs.Events.{told}
use Rattle.consumer.specs.declared.RingConsumer.{RingConsumer}
use Rattle.consumer.specs.declared.Checkpoint.{Checkpoint}
use Rattle.consumer.specs.Record.{bad_record, bad_lent, bytes_refusal}
use Rattle.consumer.specs.Outcome.{Outcome, outcome}
use Rattle.consumer.specs.Poll.{head_refusal, past_of}
use Rattle.consumer.specs.Complete.{complete_refusal, completed_of, tell_of}
use Rattle.consumer.specs.Rollback.{handed_refusal, same_of, stale_of, back_of}
use Rattle.consumer.specs.Notices.{shadow_of}
use Rattle.consumer.specs.Fresh.{fresh_of}

pub not_bad :
    (p : RingConsumer) → bad_layout p.layout ≡ false → p.avail.head < p.layout.size → p.used.head < p.layout.size
    → p.inflight ≤ p.layout.size → bad_record p ≡ false
unfolding bad_record
not_bad p l a u i =
    simp (l, lt-leb p.layout.size p.avail.head a, lt-leb p.layout.size p.used.head u, le-ltb p.layout.size p.inflight i)

pub not_bad_lent :
    (p : RingConsumer) (bytes counts : ℕ) → outside p.layout bytes ≡ false → p.layout.size ≤ counts → bad_lent p bytes counts ≡ false
unfolding bad_lent
not_bad_lent p bytes counts o k = simp (o, le-ltb counts p.layout.size k)

-- ---- polls

module _ (p : RingConsumer) (bytes : ℕ) (d : Descriptor) (counts addrs lens : ℕ)
    (r : bad_record p ≡ false) (l : bad_lent p bytes counts ≡ false) where
  pub head_short : ltb addrs p.layout.size || ltb lens p.layout.size ≡ true → (rest : ℕ) → head_refusal p bytes d counts addrs lens rest ≡ 8
  unfolding head_refusal
  head_short s rest = simp (r, l, s)

  pub head_blocks :
      p.layout.size ≤ addrs → p.layout.size ≤ lens → is_avail d.flags p.avail.wrap ≡ false
      → (rest : ℕ) → head_refusal p bytes d counts addrs lens rest ≡ 3
  unfolding head_refusal
  head_blocks a b v rest = simp (r, l, le-ltb addrs p.layout.size a, le-ltb lens p.layout.size b, v)

pub past_is :
    (p : RingConsumer) (at : RingCursor) (n : ℕ)
    → past_of p at n ≡ record { layout = p.layout; avail = at; used = p.used; inflight = p.inflight + n; shadow = p.shadow }
unfolding past_of
past_is p at n = refl

pub bytes_goes : (p : RingConsumer) (bytes : ℕ) → bad_record p ≡ false → outside p.layout bytes ≡ false → bytes_refusal p bytes ≡ 0
unfolding bytes_refusal
bytes_goes p bytes r o = simp (r, o)

-- ---- completions

module _ (p : RingConsumer) (bytes id : ℕ) (counts : List ℕ)
    (r : bad_record p ≡ false) (l : bad_lent p bytes (length counts) ≡ false) where
  pub complete_goes :
      id < p.layout.size → 0 < get_or counts id 0 → get_or counts id 0 ≤ p.inflight → complete_refusal p bytes id counts ≡ 0
  unfolding complete_refusal
  complete_goes i k f =
      simp (r, l, lt-leb p.layout.size id i, ne_eqb (get_or counts id 0) 0 (λ e. omega arith), le-ltb p.inflight (get_or counts id 0) f)

  pub complete_unheld :
      leb p.layout.size id || (eqb (get_or counts id 0) 0 || ltb p.inflight (get_or counts id 0)) ≡ true → complete_refusal p bytes id counts ≡ 5
  unfolding complete_refusal
  complete_unheld u = simp (r, l, u)

pub completed_is :
    (p : RingConsumer) (n : ℕ)
    → completed_of p n
    ≡ record { layout = p.layout; avail = p.avail; used = steps p.layout.size n p.used; inflight = p.inflight - n; shadow = p.shadow }
unfolding completed_of
completed_is p n = refl

module _ (old : RingCursor) (o : Outcome) where
  pub tell_number : (tell_of old o).answer.number ≡ o.answer.number
  unfolding tell_of
  tell_number = valued_number _ o.answer

  -- the value that is told
  abbrev pub tell_answer : Answer
  tell_answer = valued (bit (told o.end.layout.driver o.end.layout.size old o.end.used o.ring) ∷ []) o.answer

  pub tell_answer_lem : (tell_of old o).answer ≡ tell_answer
  unfolding tell_of
  tell_answer_lem = refl

  pub tell_leaves : tell_of old o ≡ outcome (tell_of old o).answer o.end o.ring o.counts
  unfolding tell_of
  tell_leaves = refl

-- ---- rollbacks

module _ (p : RingConsumer) (cp : Checkpoint) (counts : ℕ) where
  pub handed_bad :
      leb p.layout.size cp.avail.head || leb p.layout.size cp.used.head ≡ true → (rest : ℕ) → handed_refusal p cp counts rest ≡ 7
  unfolding handed_refusal
  handed_bad h rest = simp h (ap (λ (b : Bool). cond b 7 (cond (ltb counts p.layout.size) 8 rest)) (or_true (bad_record p)))

  pub handed_goes :
      bad_record p ≡ false → cp.avail.head < p.layout.size → cp.used.head < p.layout.size → p.layout.size ≤ counts
      → (rest : ℕ) → handed_refusal p cp counts rest ≡ rest
  unfolding handed_refusal
  handed_goes r a u k rest =
      simp (r, lt-leb p.layout.size cp.avail.head a, lt-leb p.layout.size cp.used.head u, le-ltb counts p.layout.size k)

pub same_yes : (a b : RingCursor) → a ≡ b → same_of a b ≡ true
same_yes a b e = ap (same_of a) (sym e) ∙ same a.head a.wrap
  where
    same : (h : ℕ) (w : Bool) → eqb h h && beq w w ≡ true
    same h true = simp (eq-eqb h h refl)
    same h false = simp (eq-eqb h h refl)

pub not_stale :
    (p : RingConsumer) (cp : Checkpoint) (n : ℕ) → p.used ≡ cp.used → p.inflight ≡ cp.inflight + n
    → p.avail ≡ steps p.layout.size n cp.avail → stale_of p cp n ≡ false
unfolding stale_of
not_stale p cp n u i a =
    simp (same_yes p.used cp.used u, eq-eqb p.inflight (cp.inflight + n) i, same_yes p.avail (steps p.layout.size n cp.avail) a)

pub back_is :
    (p : RingConsumer) (cp : Checkpoint)
    → back_of p cp ≡ record { layout = p.layout; avail = cp.avail; used = p.used; inflight = cp.inflight; shadow = p.shadow }
unfolding back_of
back_is p cp = refl

pub shadow_is :
    (p : RingConsumer) (f : ℕ)
    → shadow_of p f ≡ record { layout = p.layout; avail = p.avail; used = p.used; inflight = p.inflight; shadow = f }
unfolding shadow_of
shadow_is p f = refl

-- ---- a fresh record
pub fresh_is : (l : Layout) → fresh_of l ≡ record { layout = l; avail = fresh; used = fresh; inflight = 0; shadow = ENABLE }
unfolding fresh_of
fresh_is l = refl
