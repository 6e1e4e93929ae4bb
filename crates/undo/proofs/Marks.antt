-- The two passes over the table: the first marks and stops at a bad ID, the second takes the marks away.
-- Assumes nothing.
use Rattle.std.proofs.Common.{◌≡◌, ℕ, suc, ◌+◌, ◌-◌, ◌<◌, ◌≤◌, Bool, true, false, cond, ◌||◌, eqb, ltb, leb, List, [], ◌∷◌, ◌++◌, length, get_or, take, drop, set, sym, refl, ap, ◌∙◌, add-one, arith, drop_of_length-le, drop-cons, get_or-set_other, get_or-set_same, set-set}
use lib.Seq.{set_comm, set_out, set-get_or, take-suc}
use Rattle.base.specs.Answer.{Answer, done, refused}
use borrow.Author.Tests.{eqb-false, ltb-false}
use Rattle.base.proofs.Tests.{by_lt, by_eq, neither, positive}
use Rattle.undo.specs.Undo.{mark, flip, flipped}

-- twice is as before
flip_flip : (t : List ℕ) (i : ℕ) → get_or t i 0 < 65536 → flip (flip t i) i ≡ t
flip_flip t i h =
    by_lt i (length t)
    (λ l. ap (λ (v : ℕ). set (flip t i) i (mark v)) (get_or-set_same t i (mark (get_or t i 0)) 0 l)
    ∙ set-set t i (mark (get_or t i 0)) (mark (mark (get_or t i 0)))
    ∙ ap (set t i) (omega arith)
    ∙ set-get_or t i 0)
    (λ l. ap (λ (u : List ℕ). flip u i) (set_out t i (mark (get_or t i 0)) l) ∙ set_out t i (mark (get_or t i 0)) l)

-- and two flips may go in either order
flip_comm : (t : List ℕ) (i j : ℕ) → flip (flip t i) j ≡ flip (flip t j) i
flip_comm t i j =
    let m = mark (get_or t i 0) in
    let n = mark (get_or t j 0) in
    by_eq i j
    (λ e. ap (λ (k : ℕ). flip (flip t i) k) (sym e) ∙ ap (λ (k : ℕ). flip (flip t k) i) e)
    (λ d. ap (λ (v : ℕ). set (flip t i) j (mark v)) (get_or-set_other t i j m 0 (λ e. d (sym e)))
    ∙ set_comm t i j m n d
    ∙ sym (ap (λ (v : ℕ). set (flip t j) i (mark v)) (get_or-set_other t j i n 0 d)))

flipped_flip : (t ids : List ℕ) (i : ℕ) → flipped (flip t i) ids ≡ flip (flipped t ids) i
unfolding flipped
flipped_flip t [] i = refl
flipped_flip t (j ∷ ids) i = ap (λ (u : List ℕ). flipped u ids) (flip_comm t i j) ∙ flipped_flip (flip t j) ids i

-- a flip more
flipped_snoc : (t ids : List ℕ) (i : ℕ) → flipped t (ids ++ (i ∷ [])) ≡ flip (flipped t ids) i
unfolding flipped
flipped_snoc t [] i = refl
flipped_snoc t (j ∷ ids) i = flipped_snoc (flip t j) ids i

pub flipped_none : (t : List ℕ) → flipped t [] ≡ t
unfolding flipped
flipped_none t = refl

pub flipped_more :
    (t ids : List ℕ) (k : ℕ) → k < length ids → flip (flipped t (take k ids)) (get_or ids k 0) ≡ flipped t (take (k + 1) ids)
flipped_more t ids k h =
    sym (ap (flipped t) (ap (λ (n : ℕ). take n ids) (add-one k) ∙ take-suc ids k 0 h) ∙ flipped_snoc t (take k ids) (get_or ids k 0))

-- one that is marked, and its mark taken away with the others
pub flipped_marked :
    (t ids : List ℕ) (k : ℕ) → k < length ids → get_or t (get_or ids k 0) 0 < 65536
    → flipped (flip t (get_or ids k 0)) (take (k + 1) ids) ≡ flipped t (take k ids)
flipped_marked t ids k h l =
    let i = get_or ids k 0 in
    sym (flipped_more (flip t i) ids k h)
    ∙ sym (flipped_flip (flip t i) (take k ids) i)
    ∙ ap (λ (u : List ℕ). flipped u (take k ids)) (flip_flip t i l)

-- the first pass stops at an ID, where `left` is left of what the sum may be
unfoldable pub stops : ℕ → List ℕ → ℕ → ℕ → Bool
stops size t left id = leb size id || (eqb (get_or t id 0) 0 || ltb left (get_or t id 0))

-- so each turn of it takes one slot at least, and no more than is left
pub goes : (size : ℕ) (t : List ℕ) (left id : ℕ) → stops size t left id ≡ false → (0 < get_or t id 0) × (get_or t id 0 ≤ left)
unfolding stops
goes size t left id e =
    let b = neither (eqb (get_or t id 0) 0) _ (neither (leb size id) _ e).1 in
    (positive (eqb-false (get_or t id 0) 0 b.0), ltb-false left (get_or t id 0) b.1)

-- what the first pass answers
unfoldable pub walked : ℕ → ℕ → List ℕ → ℕ → List ℕ → Answer
walked size most t left [] = done ((most - left) ∷ [])
walked size most t left (id ∷ ids) =
    cond (stops size t left id) (refused 9) (walked size most (flip t id) (left - get_or t id 0) ids)

-- ---- the first pass, as the loop goes

module _ (size most : ℕ) (t : List ℕ) (left : ℕ) (ids : List ℕ) (k : ℕ) where
  abbrev id : ℕ
  id = get_or ids k 0

  abbrev next : Answer
  next = walked size most (flip t id) (left - get_or t id 0) (drop (suc k) ids)

  pub walk_more :
      k < length ids → stops size t left id ≡ false
      → walked size most (flip t id) (left - get_or t id 0) (drop (k + 1) ids) ≡ walked size most t left (drop k ids)
  unfolding walked
  walk_more l e =
      ap (λ (n : ℕ). walked size most (flip t id) (left - get_or t id 0) (drop n ids)) (add-one k)
      ∙ sym (ap (walked size most t left) (drop-cons ids k 0 l) ∙ ap (λ (b : Bool). cond b (refused 9) next) e)

  -- where it stops before the list ends, and behind the list
  pub walk_stopped : k < length ids → stops size t left id ≡ true → walked size most t left (drop k ids) ≡ refused 9
  unfolding walked
  walk_stopped l e = ap (walked size most t left) (drop-cons ids k 0 l) ∙ ap (λ (b : Bool). cond b (refused 9) next) e

  pub walk_through : length ids ≤ k → walked size most t left (drop k ids) ≡ done ((most - left) ∷ [])
  unfolding walked
  walk_through l = ap (walked size most t left) (drop_of_length-le ids {i = k} l)
