-- The ladders read the other way: what each call answers where its record and all that it is lent is sound, and what it leaves.
-- Assumes nothing.
use Prim.Native.Nat.{ℕ, ◌+◌, ◌-◌, ◌≤◌, ◌<◌}
use mathlib.Core.Path.{◌≡◌, refl, ap}
use mathlib.Core.List.{List, [], ◌∷◌}
use mathlib.Core.Bool.{Bool, true, false, cond}
use native.Mathlib.Omega.{arith}
use lib.Dec.{leb, eqb}
use lib.ListN.{length, get_or, set}
use borrow.Author.Tests.{eq-eqb, ne_eqb, lt-ltb, le-ltb, lt-leb}
use Rattle.base.specs.Answer.{Answer, done, valued, bit}
use Rattle.base.proofs.Refusals.{valued_number}
use Rattle.base.proofs.Tests.{split, or_true}
use Rattle.cursor.specs.declared.RingCursor.{RingCursor}
use Rattle.cursor.specs.Cursor.{fresh, steps}
use Rattle.desc.specs.declared.Descriptor.{Descriptor}
use Rattle.desc.specs.Flags.{is_used}
use Rattle.event.specs.Event.{ENABLE}
use Rattle.layout.specs.declared.Layout.{Layout}
use Rattle.layout.specs.Layout.{bad_layout, outside}
use Rattle.chain.specs.Chain.{bad_slices}
use Rattle.ring.specs.Events.{told}
use Rattle.producer.specs.declared.RingProducer.{RingProducer}
use Rattle.producer.specs.Record.{bad_record, bad_lent, bytes_refusal}
use Rattle.producer.specs.Outcome.{Outcome, outcome}
use Rattle.producer.specs.Submit.{top_of, submit_refusal, taken_of, submitted_of, Written}
use Rattle.producer.specs.Tell.{tell_of}
use Rattle.producer.specs.Poll.{poll_refusal, freed_of, polled_of, next_refusal}
use Rattle.producer.specs.Notices.{since_refusal, shadow_of}
use Rattle.producer.specs.Fresh.{fresh_of}
use Rattle.producer.proofs.Submit.{submit_ready}
use Rattle.producer.proofs.Poll.{poll_ready, poll_moves}

pub not_bad :
    (p : RingProducer) → bad_layout p.layout ≡ false → p.avail.head < p.layout.size → p.used.head < p.layout.size
    → p.free ≤ p.layout.size → p.height ≤ p.layout.size → bad_record p ≡ false
unfolding bad_record
not_bad p l a u f h =
    simp (l, lt-leb p.layout.size p.avail.head a, lt-leb p.layout.size p.used.head u, le-ltb p.layout.size p.free f, le-ltb p.layout.size p.height h)

pub not_bad_lent :
    (p : RingProducer) (bytes ids counts : ℕ) → outside p.layout bytes ≡ false → p.layout.size ≤ ids → p.layout.size ≤ counts
    → bad_lent p bytes ids counts ≡ false
unfolding bad_lent
not_bad_lent p bytes ids counts o i k = simp (o, le-ltb ids p.layout.size i, le-ltb counts p.layout.size k)

-- ---- submissions

module _ (p : RingProducer) (bytes : ℕ) (ids counts : List ℕ) (n lens readable : ℕ)
    (r : bad_record p ≡ false) (l : bad_lent p bytes (length ids) (length counts) ≡ false) where
  pub submit_bad_chain : bad_slices n lens readable ≡ true → submit_refusal p bytes ids counts n lens readable ≡ 8
  unfolding submit_refusal
  submit_bad_chain c = simp (r, l, c)

  module _ (c : bad_slices n lens readable ≡ false) where
    pub submit_empty : n ≡ 0 → submit_refusal p bytes ids counts n lens readable ≡ 1
    unfolding submit_refusal
    submit_empty z = simp (r, l, c, eq-eqb n 0 z)

    pub submit_blocks : 0 < n → p.free < n → submit_refusal p bytes ids counts n lens readable ≡ 3
    unfolding submit_refusal
    submit_blocks z f = simp (r, l, c, ne_eqb n 0 (λ e. omega arith), lt-ltb p.free n f)

    pub submit_goes :
        0 < n → n ≤ p.free → 0 < p.height → top_of p ids < p.layout.size → get_or counts (top_of p ids) 0 ≡ 0
        → submit_refusal p bytes ids counts n lens readable ≡ 0
    unfolding submit_refusal
    submit_goes z f h t u =
        simp (r, l, c, ne_eqb n 0 (λ e. omega arith), le-ltb p.free n f, ne_eqb p.height 0 (λ e. omega arith), lt-leb p.layout.size (top_of p ids) t, eq-eqb (get_or counts (top_of p ids) 0) 0 u)

pub submitted_is :
    (p : RingProducer) (ids counts : List ℕ) (n id : ℕ) (w : Written)
    → submitted_of p ids counts n id w ≡ outcome (done (id ∷ [])) (taken_of p w.past n) w.bytes ids (set counts id n)
unfolding submitted_of
submitted_is p ids counts n id w = refl

pub taken_is :
    (p : RingProducer) (past : RingCursor) (n : ℕ)
    → taken_of p past n
    ≡ record { layout = p.layout; avail = past; used = p.used; free = p.free - n; height = p.height - 1; shadow = p.shadow }
unfolding taken_of
taken_is p past n = refl

-- ---- polls and the next ID

module _ (p : RingProducer) (bytes : ℕ) (d : Descriptor) (ids : ℕ) (counts : List ℕ)
    (r : bad_record p ≡ false) (l : bad_lent p bytes ids (length counts) ≡ false) where
  pub poll_blocks : is_used d.flags p.used.wrap ≡ false → poll_refusal p bytes d ids counts ≡ 3
  unfolding poll_refusal
  poll_blocks u = simp (r, l, u)

  pub poll_goes :
      is_used d.flags p.used.wrap ≡ true → d.id < p.layout.size → 0 < get_or counts d.id 0
      → p.free + get_or counts d.id 0 ≤ p.layout.size → p.height < p.layout.size → poll_refusal p bytes d ids counts ≡ 0
  unfolding poll_refusal
  poll_goes u i k f h =
      simp (r, l, u, lt-leb p.layout.size d.id i, ne_eqb (get_or counts d.id 0) 0 (λ e. omega arith), le-ltb p.layout.size (p.free + get_or counts d.id 0) f, lt-leb p.layout.size p.height h)

pub polled_is :
    (p : RingProducer) (d : Descriptor) (ring ids counts : List ℕ)
    → polled_of p d ring ids counts
    ≡ outcome (done (d.id ∷ d.len ∷ [])) (freed_of p (get_or counts d.id 0)) ring (set ids p.height d.id) (set counts d.id 0)
unfolding polled_of
polled_is p d ring ids counts = refl

pub freed_is :
    (p : RingProducer) (n : ℕ)
    → freed_of p n
    ≡ record { layout = p.layout; avail = p.avail; used = steps p.layout.size n p.used; free = p.free + n; height = p.height + 1; shadow = p.shadow }
unfolding freed_of
freed_is p n = refl

module _ (p : RingProducer) (ids counts : List ℕ)
    (r : bad_record p ≡ false) (i : p.layout.size ≤ length ids) (k : p.layout.size ≤ length counts) where
  pub next_none : p.height ≡ 0 → next_refusal p ids counts ≡ 4
  unfolding next_refusal
  next_none h = simp (r, le-ltb (length ids) p.layout.size i, le-ltb (length counts) p.layout.size k, eq-eqb p.height 0 h)

  pub next_goes : 0 < p.height → top_of p ids < p.layout.size → get_or counts (top_of p ids) 0 ≡ 0 → next_refusal p ids counts ≡ 0
  unfolding next_refusal
  next_goes h t u =
      simp (r, le-ltb (length ids) p.layout.size i, le-ltb (length counts) p.layout.size k, ne_eqb p.height 0 (λ e. omega arith), lt-leb p.layout.size (top_of p ids) t, eq-eqb (get_or counts (top_of p ids) 0) 0 u)

-- ---- notifications

pub bytes_goes : (p : RingProducer) (bytes : ℕ) → bad_record p ≡ false → outside p.layout bytes ≡ false → bytes_refusal p bytes ≡ 0
unfolding bytes_refusal
bytes_goes p bytes r o = simp (r, o)

pub since_goes :
    (p : RingProducer) (bytes : ℕ) (old : RingCursor) → bad_record p ≡ false → outside p.layout bytes ≡ false → old.head < p.layout.size
    → since_refusal p bytes old ≡ 0
unfolding since_refusal
since_goes p bytes old r o h = simp (r, o, lt-leb p.layout.size old.head h)

pub since_bad : (p : RingProducer) (bytes : ℕ) (old : RingCursor) → leb p.layout.size old.head ≡ true → since_refusal p bytes old ≡ 7
unfolding since_refusal
since_bad p bytes old h = simp h (ap (λ (b : Bool). cond b 7 (cond (outside p.layout bytes) 8 0)) (or_true (bad_record p)))

pub shadow_is :
    (p : RingProducer) (f : ℕ)
    → shadow_of p f ≡ record { layout = p.layout; avail = p.avail; used = p.used; free = p.free; height = p.height; shadow = f }
unfolding shadow_of
shadow_is p f = refl

-- ---- with notify: the same outcome, but for one value more

module _ (old : RingCursor) (o : Outcome) where
  pub tell_number : (tell_of old o).answer.number ≡ o.answer.number
  unfolding tell_of
  tell_number = valued_number _ o.answer

  pub tell_value : get_or (tell_of old o).answer.values 0 0 ≡ get_or o.answer.values 0 0
  unfolding tell_of
  tell_value = split (eqb o.answer.number 0) (λ t. simp t) (λ f. simp f)

  -- the value that is told
  abbrev pub tell_answer : Answer
  tell_answer = valued (get_or o.answer.values 0 0 ∷ bit (told o.end.layout.device o.end.layout.size old o.end.avail o.ring) ∷ []) o.answer

  pub tell_answer_lem : (tell_of old o).answer ≡ tell_answer
  unfolding tell_of
  tell_answer_lem = refl

  pub tell_leaves : tell_of old o ≡ outcome (tell_of old o).answer o.end o.ring o.ids o.counts
  unfolding tell_of
  tell_leaves = refl

-- ---- a fresh record
pub fresh_is : (l : Layout) → fresh_of l ≡ record { layout = l; avail = fresh; used = fresh; free = l.size; height = l.size; shadow = ENABLE }
unfolding fresh_of
fresh_is l = refl

-- ---- what the search applies where a submission or a poll is not refused
pub ruleset submits = (submit_ready, submitted_is, taken_is)

pub ruleset polls = (poll_ready, poll_moves, polled_is, freed_is)
