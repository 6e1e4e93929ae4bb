-- The walk and the copy, slot by slot.
-- Assumes nothing.
use Prim.Native.Nat.{ℕ, zero, suc, ◌+◌, ◌-◌, ◌≤◌, ◌<◌}
use mathlib.Core.Path.{◌≡◌, refl, sym, ◌∙◌, ap, ap₂}
use mathlib.Core.List.{List, map}
use mathlib.Core.Bool.{Bool, true, false, cond, not, ◌&&◌, ◌||◌}
use native.Mathlib.Omega.{arith}
use native.Mathlib.Numerals.{add-one}
use lib.Dec.{ltb}
use lib.ListN.{length, get_or, set}
use lib.Seq.{sets}
use borrow.Author.Tests.{lt-ltb, le-ltb}
use Rattle.base.proofs.Tests.{by_lt}
use Rattle.cursor.specs.declared.RingCursor.{RingCursor}
use Rattle.cursor.specs.Cursor.{step, steps}
use Rattle.cursor.proofs.Laws.{steps_none, steps_one, steps_add}
use Rattle.desc.specs.declared.Descriptor.{Descriptor}
use Rattle.desc.specs.Flags.{NEXT, WRITE, INDIRECT, has}
use Rattle.ring.specs.Slots.{slot_of}
use Rattle.walk.specs.declared.Walk.{Walk}
use Rattle.walk.specs.Walk.{start, spoilt, look_of, walk_of, slots_from}

module _ (table size : ℕ) (ring : List ℕ) where
  pub walk_more :
      (k : ℕ) (w : Walk) → 0 < k → w.more ≡ true
      → walk_of table size ring k w ≡ walk_of table size ring (k - 1) (look_of size w (slot_of table w.at ring))
  unfolding walk_of
  walk_more zero w h e = absurd (omega arith)
  walk_more (suc k) w h e =
      let q : k ≡ suc k - 1 = omega arith in
      simp e (ap (λ (j : ℕ). walk_of table size ring j (look_of size w (slot_of table w.at ring))) q)

  pub walk_done : (k : ℕ) (w : Walk) → w.more ≡ false → walk_of table size ring k w ≡ w
  unfolding walk_of
  walk_done zero w e = refl
  walk_done (suc k) w e = simp e

  pub walk_none : (k : ℕ) (w : Walk) → k ≤ 0 → walk_of table size ring k w ≡ w
  unfolding walk_of
  walk_none zero w h = refl
  walk_none (suc k) w h = absurd (omega arith)

  -- a field of each slot's descriptor, copied from place i on
  pub copy_more :
      (A : Descriptor → ℕ) (l : List ℕ) (c : RingCursor) (n i : ℕ) → i < n
      → sets l i (map A (slots_from table size ring c (n - i)))
      ≡ sets (set l i (A (slot_of table c ring))) (i + 1) (map A (slots_from table size ring (step size c) (n - (i + 1))))
  unfolding slots_from
  copy_more A l c n i h =
      let e : n - i ≡ suc (n - (i + 1)) = omega arith in
      ap (λ (k : ℕ). sets l i (map A (slots_from table size ring c k))) e
      ∙ ap (λ (j : ℕ). sets (set l i (A (slot_of table c ring))) j (map A (slots_from table size ring (step size c) (n - (i + 1)))))
      (sym (add-one i))

  pub copy_none :
      (A : Descriptor → ℕ) (l : List ℕ) (c : RingCursor) (n i : ℕ) → n ≤ i
      → sets l i (map A (slots_from table size ring c (n - i))) ≡ l
  unfolding slots_from
  copy_none A l c n i h =
      let e : n - i ≡ 0 = omega arith in
      ap (λ (k : ℕ). sets l i (map A (slots_from table size ring c k))) e

pub one_or_none : (b : Bool) → cond b 0 1 ≤ 1
one_or_none true = omega arith
one_or_none false = omega arith

pub look_count : (size : ℕ) (w : Walk) (d : Descriptor) → (look_of size w d).count ≡ w.count + 1
unfolding look_of
look_count size w d = refl

pub look_readable : (size : ℕ) (w : Walk) (d : Descriptor) → (look_of size w d).readable ≤ w.readable + 1
unfolding look_of
look_readable size w d = omega (arith, one_or_none (has d.flags WRITE))

-- ---- what a copy hands out: the slots' fields, in their order

module _ (table size : ℕ) (ring : List ℕ) where
  pub slots_length : (A : Descriptor → ℕ) (n : ℕ) (c : RingCursor) → length (map A (slots_from table size ring c n)) ≡ n
  unfolding slots_from
  slots_length A zero c = refl
  slots_length A (suc n) c = ap suc (slots_length A n (step size c))

  pub slots_at :
      (A : Descriptor → ℕ) (n k : ℕ) (c : RingCursor) → k < n
      → get_or (map A (slots_from table size ring c n)) k 0 ≡ A (slot_of table (steps size k c) ring)
  unfolding slots_from steps
  slots_at A zero k c h = absurd (omega arith)
  slots_at A (suc n) zero c h = refl
  slots_at A (suc n) (suc k) c h = slots_at A n k (step size c) (omega arith)

-- ---- a walk over a chain that is good comes to its end

-- n slots from the cursor on: NEXT on all but the last, WRITE behind the first r, INDIRECT on none
pub record Spelt (table size : ℕ) (ring : List ℕ) (c : RingCursor) (n r : ℕ) : Type 0 where
  pub next : (j : ℕ) → j < n → has (slot_of table (steps size j c) ring).flags NEXT ≡ ltb (j + 1) n
  pub write : (j : ℕ) → j < n → has (slot_of table (steps size j c) ring).flags WRITE ≡ not (ltb j r)
  pub indirect : (j : ℕ) → j < n → has (slot_of table (steps size j c) ring).flags INDIRECT ≡ false

module _ (table size : ℕ) (ring : List ℕ) (c : RingCursor) (n r : ℕ) (s : Spelt table size ring c n r) where
  -- behind i slots of it
  abbrev pub come : ℕ → Walk
  come i =
      record {
        at = steps size i c;
        count = i;
        readable = cond (ltb i r) i r;
        more = ltb i n;
        writing = ltb r i;
        bad = false;
      }

  come_more : (i : ℕ) → i < n → look_of size (come i) (slot_of table (steps size i c) ring) ≡ come (i + 1)
  unfolding look_of
  come_more i h =
      let d = slot_of table (steps size i c) ring in
      let w = s.write i h in
      let x = s.indirect i h in
      let p : step size (steps size i c) ≡ steps size (i + 1) c =
      sym (steps_one size (steps size i c)) ∙ sym (steps_add size i 1 c) in
      let spoil : spoilt (come i) d ≡ false = simp (x, w) (ordered i) in
      let q : cond (ltb i r) i r + cond (has d.flags WRITE) 0 1 ≡ cond (ltb (i + 1) r) (i + 1) r = rw w (counted i) in
      let g : has d.flags WRITE || ltb r i ≡ ltb r (i + 1) = rw w (written i) in
      let m : has d.flags NEXT && not (spoilt (come i) d) ≡ ltb (i + 1) n = rw spoil (rw (s.next i h) (and_true (ltb (i + 1) n))) in
      λ k. record { at = p k; count = i + 1; readable = q k; more = m k; writing = g k; bad = spoil k }
    where
      and_true : (b : Bool) → b && not false ≡ b
      and_true true = refl
      and_true false = refl

      ordered : (j : ℕ) → not (not (ltb j r)) && ltb r j ≡ false
      ordered j =
          by_lt j r
          (λ l. simp (lt-ltb j r l, le-ltb r j (omega arith)))
          (λ l. simp (le-ltb j r l))

      counted : (j : ℕ) → cond (ltb j r) j r + cond (not (ltb j r)) 0 1 ≡ cond (ltb (j + 1) r) (j + 1) r
      counted j =
          by_lt j r
          (λ l. simp (lt-ltb j r l)
          (by_lt (j + 1) r (λ q. simp (lt-ltb (j + 1) r q)) (λ q. simp (le-ltb (j + 1) r q) (omega arith))))
          (λ l. simp (le-ltb j r l, le-ltb (j + 1) r (omega arith)) (omega arith))

      written : (j : ℕ) → not (ltb j r) || ltb r j ≡ ltb r (j + 1)
      written j =
          by_lt j r
          (λ l. simp (lt-ltb j r l, le-ltb r j (omega arith)) (sym (le-ltb r (j + 1) (omega arith))))
          (λ l. simp (le-ltb j r l) (sym (lt-ltb r (j + 1) (omega arith))))

  -- from there on, with slots enough to look at
  pub walk_come : (k i : ℕ) → i ≤ n → n ≤ i + k → walk_of table size ring k (come i) ≡ come n
  walk_come zero i h t =
      walk_none table size ring zero (come i) (omega arith)
      ∙ ap come (omega arith)
  walk_come (suc k) i h t =
      by_lt i n
      (λ l.
      walk_more table size ring (suc k) (come i) (omega arith) (lt-ltb i n l)
      ∙ ap₂ (walk_of table size ring) (omega arith) (come_more i l)
      ∙ walk_come k (i + 1) (omega arith) (omega arith))
      (λ l. walk_done table size ring (suc k) (come i) (le-ltb i n l) ∙ ap come (omega arith))

  -- the whole walk of a chain of no more than ring-size slots, r of them readable
  pub walk_whole :
      0 < n → n ≤ size → r ≤ n
      → walk_of table size ring size (start c)
      ≡ record { at = steps size n c; count = n; readable = r; more = false; writing = ltb r n; bad = false }
  walk_whole z h t =
      ap (walk_of table size ring size) begin
      ∙ walk_come size 0 (omega arith) (omega arith)
      ∙ (λ k. record { at = steps size n c; count = n; readable = ends k; more = le-ltb n n (omega arith) k; writing = ltb r n; bad = false })
    where
      first : cond (ltb 0 r) 0 r ≡ 0
      first = by_lt 0 r (λ l. simp (lt-ltb 0 r l)) (λ l. simp (le-ltb 0 r l) (omega arith))

      begin : start c ≡ come 0
      begin =
          sym (λ k. record {
            at = steps_none size c k;
            count = 0;
            readable = first k;
            more = lt-ltb 0 n z k;
            writing = le-ltb r 0 (omega arith) k;
            bad = false;
          })

      ends : cond (ltb n r) n r ≡ r
      ends = simp (le-ltb n r t)
