-- What a geometry that is not refused may count on.
-- Assumes nothing.
use Prim.Native.Nat.{ℕ, ◌+◌, ◌%◌, ◌≤◌, ◌<◌}
use mathlib.Core.Path.{◌≡◌, ap, ◌∙◌}
use mathlib.Core.Logic.{◌⊎◌, inl, inr}
use mathlib.Core.Bool.{Bool, true, false, not, ◌||◌}
use native.Mathlib.Omega.{arith}
use lib.Dec.{ltb, leb, eqb}
use borrow.Author.Tests.{eqb-true, eqb-false, ltb-false, leb-true, not-false}
use lib.ListN.{get_or}
use Rattle.base.specs.declared.RingError.{RingError}
use Rattle.base.specs.Refusals.{number_of}
use Rattle.base.specs.Answer.{Answer, done, refused}
use Rattle.base.proofs.Refusals.{number_low}
use Rattle.base.proofs.Tests.{split, neither, positive}
use Rattle.layout.specs.declared.Layout.{Layout}
use Rattle.layout.specs.Layout.{layout, apart, table_bytes, bad_layout, outside, values_of, open_of}

-- one of two areas ends by the other's start
abbrev pub Apart : ℕ → ℕ → ℕ → ℕ → Type 0
Apart a n b m = (a + n ≤ b) ⊎ (b + m ≤ a)

pub is_apart : (a n b m : ℕ) → apart a n b m ≡ true → Apart a n b m
unfolding apart
is_apart a n b m e =
    split (leb (a + n) b)
    (λ l. inl (leb-true (a + n) b l))
    (λ l. inr (leb-true (b + m) a (rest (leb (a + n) b) (leb (b + m) a) l e)))
  where
    rest : (x y : Bool) → x ≡ false → x || y ≡ true → y ≡ true
    rest false y l e = e
    rest true y l e = let z : ◌≡◌ {A = ℕ} 0 1 = cc in absurd (omega arith)

-- none of 6's conditions holds, apart from fitting the lent bytes
pub record Laid (l : Layout) : Type 0 where
  pub low : 0 < l.size
  pub high : l.size ≤ 32768
  pub table : l.table % 16 ≡ 0
  pub driver : l.driver % 4 ≡ 0
  pub device : l.device % 4 ≡ 0
  pub table_driver : Apart l.table (table_bytes l) l.driver 4
  pub table_device : Apart l.table (table_bytes l) l.device 4
  pub driver_device : Apart l.driver 4 l.device 4

pub laid : (l : Layout) → bad_layout l ≡ false → Laid l
unfolding bad_layout
laid l e =
    let b1 = neither (eqb l.size 0) _ e in
    let b2 = neither (ltb 32768 l.size) _ b1.1 in
    let b3 = neither (not (eqb (l.table % 16) 0)) _ b2.1 in
    let b4 = neither (not (eqb (l.driver % 4) 0)) _ b3.1 in
    let b5 = neither (not (eqb (l.device % 4) 0)) _ b4.1 in
    let b6 = neither (not (apart l.table (table_bytes l) l.driver 4)) _ b5.1 in
    let b7 = neither (not (apart l.table (table_bytes l) l.device 4)) _ b6.1 in
    record {
      low = positive (eqb-false l.size 0 b1.0);
      high = ltb-false 32768 l.size b2.0;
      table = eqb-true (l.table % 16) 0 (not-false (eqb (l.table % 16) 0) b3.0);
      driver = eqb-true (l.driver % 4) 0 (not-false (eqb (l.driver % 4) 0) b4.0);
      device = eqb-true (l.device % 4) 0 (not-false (eqb (l.device % 4) 0) b5.0);
      table_driver = is_apart l.table (table_bytes l) l.driver 4 (not-false _ b6.0);
      table_device = is_apart l.table (table_bytes l) l.device 4 (not-false _ b7.0);
      driver_device = is_apart l.driver 4 l.device 4 (not-false _ b7.1);
    }

-- the three areas are whole in so many bytes
pub record Within (l : Layout) (bytes : ℕ) : Type 0 where
  pub table : l.table + table_bytes l ≤ bytes
  pub driver : l.driver + 4 ≤ bytes
  pub device : l.device + 4 ≤ bytes

pub within : (l : Layout) (bytes : ℕ) → outside l bytes ≡ false → Within l bytes
unfolding outside
within l bytes e =
    let b1 = neither (not (leb (l.table + table_bytes l) bytes)) _ e in
    let b2 = neither (not (leb (l.driver + 4) bytes)) _ b1.1 in
    record {
      table = leb-true (l.table + table_bytes l) bytes (not-false _ b1.0);
      driver = leb-true (l.driver + 4) bytes (not-false _ b2.0);
      device = leb-true (l.device + 4) bytes (not-false _ b2.1);
    }

pub refuses : (l : Layout) (bytes : ℕ) → bad_layout l || outside l bytes ≡ true → open_of l bytes ≡ refused 6
unfolding open_of
refuses l bytes e = simp e

-- a ring that opens has both
pub opens : (l : Layout) (bytes : ℕ) → bad_layout l || outside l bytes ≡ false → open_of l bytes ≡ done (values_of l)
unfolding open_of
opens l bytes e = simp e

-- read the other way: what an end that opens learns from the answer
module _ (l : Layout) (bytes : ℕ) where
  abbrev bad : Bool
  bad = bad_layout l || outside l bytes

  pub layout_refused : (e : RingError) → refused (number_of e) ≡ open_of l bytes → bad ≡ true
  layout_refused e h =
      split bad (λ t. t) (λ f. absurd (zero_not e (ap (λ (a : Answer). a.number) (h ∙ opens l bytes f))))
    where
      zero_not : (d : RingError) → number_of d ≡ 0 → ⊥
      zero_not d z = omega (arith, number_low d)

  pub layout_taken : (m : Layout) → done (values_of m) ≡ open_of l bytes → (bad ≡ false) × (m ≡ l)
  layout_taken m h =
      split bad
      (λ t. absurd (six (ap (λ (a : Answer). a.number) (h ∙ refuses l bytes t))))
      (λ f. (f, same (h ∙ opens l bytes f)))
    where
      six : ◌≡◌ {A = ℕ} 0 6 → ⊥
      six z = omega arith

      same : done (values_of m) ≡ done (values_of l) → m ≡ l
      same g = λ i. layout (get_or (g i).values 0 0) (get_or (g i).values 1 0) (get_or (g i).values 2 0) (get_or (g i).values 3 0)
