-- What callers use of a sum and of a clearing, and not their definitions.
-- Assumes nothing.
use Rattle.std.proofs.Common.{◌≡◌, ℕ, ◌+◌, ◌<◌, ◌≤◌, Bool, true, false, cond, ◌||◌, eqb, ltb, leb, ◌⊎◌, List, [], ◌∷◌, length, get_or, drop, set, sym, refl, ap, ◌∙◌, inl, inr, ⊎_elim, add-one, arith, length-set, drop_of_length-le, drop-cons, get_or-set_other, get_or-set_same, le-ltb, ne_eqb}
use borrow.Author.Tests.{eqb-false}
use Rattle.base.specs.Answer.{Answer, done, refused}
use Rattle.base.proofs.Tests.{split, by_lt, by_eq, neither}
use Rattle.undo.specs.Undo.{named, bad_ids, total_of, sum_of, cleared_of}
use Rattle.undo.proofs.Marks.{walked}
use Rattle.undo.proofs.Judged.{judge, judge_bad, judge_over, judge_good, judged}

module _ (size most : ℕ) (counts ids : List ℕ) (s : size ≤ 32768) (m : most ≤ size) (l : size ≤ length counts) where
  -- then 9, or the sum
  sum_judged : sum_of size most counts ids ≡ judge (bad_ids size counts ids) most 0 (total_of counts ids)
  unfolding sum_of
  sum_judged =
      simp (le-ltb 32768 size s, le-ltb size most m, le-ltb (length counts) size l)
      (ap (λ (n : ℕ). cond (bad_ids size counts ids || ltb most (total_of counts ids)) (refused 9) (done (n ∷ []))) (omega arith))

  -- which is what the pass over the table finds
  pub sum_walked : sum_of size most counts ids ≡ walked size most counts most ids
  sum_walked =
      sum_judged
      ∙ ap (λ (x : ℕ). judge (bad_ids size counts ids) most x (total_of counts ids)) (omega arith)
      ∙ sym (judged size most counts most ids (omega arith) (omega arith) l)

  pub sum_refused_9 :
      (bad_ids size counts ids ≡ true) ⊎ (most < total_of counts ids) → sum_of size most counts ids ≡ refused 9
  sum_refused_9 o =
      sum_judged
      ∙ ⊎_elim (λ b. judge_bad (bad_ids size counts ids) most 0 (total_of counts ids) b)
      (λ h. judge_over (bad_ids size counts ids) most 0 (total_of counts ids) h) o

  pub sum_done :
      bad_ids size counts ids ≡ false → total_of counts ids ≤ most → sum_of size most counts ids ≡ done (total_of counts ids ∷ [])
  sum_done b h =
      sum_judged
      ∙ judge_good (bad_ids size counts ids) most 0 (total_of counts ids) b h
      ∙ ap (λ (n : ℕ). done (n ∷ [])) (omega arith)

  -- each list is of one of the two kinds
  either :
      {P : Type 0} → ((bad_ids size counts ids ≡ true) ⊎ (most < total_of counts ids) → P)
      → (bad_ids size counts ids ≡ false → total_of counts ids ≤ most → P) → P
  either f g =
      split (bad_ids size counts ids) (λ b. f (inl b)) (λ b. by_lt most (total_of counts ids) (λ h. f (inr h)) (λ h. g b h))

  -- the answer read the other way: the sum was given, or a refusal
  pub sum_is_done :
      (n : ℕ) → done (n ∷ []) ≡ sum_of size most counts ids
      → (bad_ids size counts ids ≡ false) × ((n ≡ total_of counts ids) × (total_of counts ids ≤ most))
  sum_is_done n e =
      either
      (λ o. absurd (omega (arith, ap (λ (a : Answer). a.number) (e ∙ sum_refused_9 o))))
      (λ b h. (b, (ap (λ (a : Answer). get_or a.values 0 0) (e ∙ sum_done b h), h)))

  pub sum_is_refused :
      (k : ℕ) → refused k ≡ sum_of size most counts ids → (bad_ids size counts ids ≡ true) ⊎ (most < total_of counts ids)
  sum_is_refused k e =
      either (λ o. o)
      (λ b h. absurd (omega (arith, ap (λ (a : Answer). length a.values) (e ∙ sum_done b h))))

-- ---- the table behind a clearing

-- as the loop goes
pub cleared_more :
    (t ids : List ℕ) (k : ℕ) → k < length ids
    → cleared_of t (drop k ids) ≡ cleared_of (set t (get_or ids k 0) 0) (drop (k + 1) ids)
unfolding cleared_of
cleared_more t ids k h = rw (add-one, drop-cons ids k 0)

pub cleared_all : (t ids : List ℕ) (k : ℕ) → length ids ≤ k → cleared_of t (drop k ids) ≡ t
unfolding cleared_of
cleared_all t ids k h = ap (cleared_of t) (drop_of_length-le ids {i = k} h)

-- the table is as long as before
pub cleared_length : (t ids : List ℕ) → length (cleared_of t ids) ≡ length t
unfolding cleared_of
cleared_length t [] = refl
cleared_length t (id ∷ ids) = cleared_length (set t id 0) ids ∙ length-set t id 0

-- an ID that is not named keeps its count
pub cleared_other : (t ids : List ℕ) (id : ℕ) → named id ids ≡ false → get_or (cleared_of t ids) id 0 ≡ get_or t id 0
unfolding cleared_of named
cleared_other t [] id e = refl
cleared_other t (j ∷ ids) id e =
    let a = neither (eqb id j) (named id ids) e in
    cleared_other (set t j 0) ids id a.1 ∙ get_or-set_other t j id 0 0 (eqb-false id j a.0)

-- and one that is named has 0
pub cleared_named :
    (t ids : List ℕ) (id : ℕ) → id < length t → named id ids ≡ true → get_or (cleared_of t ids) id 0 ≡ 0
unfolding cleared_of named
cleared_named t [] id l e = let z : ◌≡◌ {A = ℕ} 0 1 = cc in absurd (omega arith)
cleared_named t (j ∷ ids) id l e =
    split (named id ids)
    (λ n. cleared_named (set t j 0) ids id (omega (arith, length-set t j 0)) n)
    (λ n. by_eq id j
    (λ q. cleared_other (set t j 0) ids id n ∙ ap (λ (i : ℕ). get_or (set t i 0) id 0) (sym q) ∙ get_or-set_same t id 0 0 l)
    (λ q. let z : ◌≡◌ {A = Bool} true false = sym e ∙ ap (λ (b : Bool). b || named id ids) (ne_eqb id j q) ∙ n in
    let z' : ◌≡◌ {A = ℕ} 0 1 = cc in absurd (omega arith)))

-- ---- the definitions, one ID at a time

pub named_cons : (id first : ℕ) (ids : List ℕ) → named id (first ∷ ids) ≡ eqb id first || named id ids
unfolding named
named_cons id first ids = refl

pub named_none : (id : ℕ) → named id [] ≡ false
unfolding named
named_none id = refl

pub bad_none : (size : ℕ) (counts : List ℕ) → bad_ids size counts [] ≡ false
unfolding bad_ids
bad_none size counts = refl

pub bad_cons :
    (size : ℕ) (counts : List ℕ) (id : ℕ) (ids : List ℕ)
    → bad_ids size counts (id ∷ ids) ≡ leb size id || (eqb (get_or counts id 0) 0 || (named id ids || bad_ids size counts ids))
unfolding bad_ids
bad_cons size counts id ids = refl

pub total_none : (counts : List ℕ) → total_of counts [] ≡ 0
unfolding total_of
total_none counts = refl

pub total_cons : (counts : List ℕ) (id : ℕ) (ids : List ℕ) → total_of counts (id ∷ ids) ≡ get_or counts id 0 + total_of counts ids
unfolding total_of
total_cons counts id ids = refl
