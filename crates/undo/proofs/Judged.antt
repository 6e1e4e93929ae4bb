-- The first pass goes through the whole list exactly if no ID is bad and the sum is not above what it may be.
-- Assumes nothing.
use Rattle.std.proofs.Common.{◌≡◌, ℕ, ◌+◌, ◌-◌, ◌<◌, ◌≤◌, Bool, true, false, cond, ◌||◌, eqb, ltb, leb, List, [], ◌∷◌, length, get_or, set, sym, refl, ap, ◌∙◌, ap₂, arith, get_or-set_other, get_or-set_same, le-ltb, lt-ltb, eq-eqb, ne_eqb, le-leb}
use lib.Seq.{set_comm}
use borrow.Author.Tests.{eqb-false, lt-leb}
use Rattle.base.specs.Answer.{Answer, done, refused}
use Rattle.base.proofs.Tests.{split, by_lt, by_eq, neither, positive}
use Rattle.undo.specs.Undo.{named, bad_ids, total_of, mark, flip}
use Rattle.undo.proofs.Marks.{stops, walked}

-- an ID at the head of the list, by the tests' own words
module _ (size : ℕ) (t : List ℕ) (left id : ℕ) where
  stops_out : size ≤ id → stops size t left id ≡ true
  unfolding stops
  stops_out h = simp (le-leb size id h)

  stops_none : get_or t id 0 ≡ 0 → stops size t left id ≡ true
  unfolding stops
  stops_none h = split (leb size id) (λ e. simp e) (λ e. simp (e, eq-eqb (get_or t id 0) 0 h))

  stops_over : left < get_or t id 0 → stops size t left id ≡ true
  unfolding stops
  stops_over h =
      split (leb size id) (λ e. simp e)
      (λ e. simp (e, ne_eqb (get_or t id 0) 0 (λ z. omega arith), lt-ltb left (get_or t id 0) h))

  stops_not : id < size → 0 < get_or t id 0 → get_or t id 0 ≤ left → stops size t left id ≡ false
  unfolding stops
  stops_not a b d =
      simp (lt-leb size id a, ne_eqb (get_or t id 0) 0 (λ z. omega arith), le-ltb left (get_or t id 0) d)

-- an ID whose entry is above what is left is not passed
blocked :
    (size most : ℕ) (t : List ℕ) (left id : ℕ) (ids : List ℕ) → left < get_or t id 0 → named id ids ≡ true
    → walked size most t left ids ≡ refused 9
unfolding walked named
blocked size most t left id [] h e = let z : ◌≡◌ {A = ℕ} 0 1 = cc in absurd (omega arith)
blocked size most t left id (j ∷ ids) h e =
    split (stops size t left j)
    (λ s. simp s)
    (λ s. by_eq id j
    (λ q. let z : ◌≡◌ {A = Bool} true false = sym (stops_over size t left j (omega (arith, ap (λ (n : ℕ). get_or t n 0) q))) ∙ s in
    let z' : ◌≡◌ {A = ℕ} 0 1 = cc in absurd (omega arith))
    (λ q. let r : named id ids ≡ true = ap (λ (b : Bool). b || named id ids) (sym (ne_eqb id j q)) ∙ e in
    simp s (blocked size most (flip t j) (left - get_or t j 0) id ids
    (omega (arith, get_or-set_other t j id (mark (get_or t j 0)) 0 q)) r)))

-- an ID that is not named does not matter
unnamed :
    (size most : ℕ) (t : List ℕ) (left id v : ℕ) (ids : List ℕ) → named id ids ≡ false
    → walked size most (set t id v) left ids ≡ walked size most t left ids
unfolding walked named stops
unnamed size most t left id v [] e = refl
unnamed size most t left id v (j ∷ ids) e =
    let a = neither (eqb id j) (named id ids) e in
    let n = eqb-false id j a.0 in
    let g = get_or-set_other t id j v 0 (λ q. n (sym q)) in
    ap₂ (λ (x : ℕ) (u : Answer). cond (leb size j || (eqb x 0 || ltb left x)) (refused 9) u)
    g
    (ap₂ (λ (x : ℕ) (u : List ℕ). walked size most u (left - x) ids)
    g
    (ap (λ (x : ℕ). set (set t id v) j (mark x)) g ∙ set_comm t id j v (mark (get_or t j 0)) n)
    ∙ unnamed size most (flip t j) (left - get_or t j 0) id v ids a.1)

-- what is to be answered, where s of the sum is behind and `left` ahead
abbrev pub judge : Bool → ℕ → ℕ → ℕ → Answer
judge bad left s n = cond (bad || ltb left n) (refused 9) (done ((s + n) ∷ []))

pub judge_bad : (bad : Bool) (left s n : ℕ) → bad ≡ true → judge bad left s n ≡ refused 9
judge_bad bad left s n e = simp e

pub judge_over : (bad : Bool) (left s n : ℕ) → left < n → judge bad left s n ≡ refused 9
judge_over true left s n h = refl
judge_over false left s n h = simp (lt-ltb left n h)

pub judge_good : (bad : Bool) (left s n : ℕ) → bad ≡ false → n ≤ left → judge bad left s n ≡ done ((s + n) ∷ [])
judge_good bad left s n e h = simp (e, le-ltb left n h)

-- v of what is left moved behind
judge_moved : (bad : Bool) (left s v n : ℕ) → v ≤ left → judge bad (left - v) (s + v) n ≡ judge bad left s (v + n)
judge_moved true left s v n h = refl
judge_moved false left s v n h =
    by_lt left (v + n)
    (λ l. simp (lt-ltb left (v + n) l, lt-ltb (left - v) n (omega arith)))
    (λ l. simp (le-ltb left (v + n) l, le-ltb (left - v) n (omega arith)) (ap (λ (x : ℕ). done (x ∷ [])) (omega arith)))

-- the bad lists, by their first ID
module _ (size : ℕ) (t : List ℕ) (id : ℕ) (ids : List ℕ) where
  bad_out : size ≤ id → bad_ids size t (id ∷ ids) ≡ true
  unfolding bad_ids
  bad_out h = simp (le-leb size id h)

  bad_none : id < size → get_or t id 0 ≡ 0 → bad_ids size t (id ∷ ids) ≡ true
  unfolding bad_ids
  bad_none h z = simp (lt-leb size id h, eq-eqb (get_or t id 0) 0 z)

  bad_twice : id < size → (get_or t id 0 ≡ 0 → ⊥) → named id ids ≡ true → bad_ids size t (id ∷ ids) ≡ true
  unfolding bad_ids
  bad_twice h z n = simp (lt-leb size id h, ne_eqb (get_or t id 0) 0 z, n)

  bad_later : id < size → (get_or t id 0 ≡ 0 → ⊥) → named id ids ≡ false → bad_ids size t (id ∷ ids) ≡ bad_ids size t ids
  unfolding bad_ids
  bad_later h z n = simp (lt-leb size id h, ne_eqb (get_or t id 0) 0 z, n)

-- a marked ID is not passed a second time
marked_twice :
    (size most : ℕ) (t : List ℕ) (left id : ℕ) (ids : List ℕ) → left < 65536 → id < length t → 0 < get_or t id 0
    → get_or t id 0 ≤ left → named id ids ≡ true → walked size most (flip t id) (left - get_or t id 0) ids ≡ refused 9
marked_twice size most t left id ids a l p r n =
    blocked size most (flip t id) (left - get_or t id 0) id ids
    (omega (arith, get_or-set_same t id (mark (get_or t id 0)) 0 l)) n

pub judged :
    (size most : ℕ) (t : List ℕ) (left : ℕ) (ids : List ℕ) → left ≤ most → most < 65536 → size ≤ length t
    → walked size most t left ids ≡ judge (bad_ids size t ids) left (most - left) (total_of t ids)
unfolding walked total_of bad_ids
judged size most t left [] a b d = simp (le-ltb left 0 (omega arith)) (ap (λ (x : ℕ). done (x ∷ [])) (omega arith))
judged size most t left (id ∷ ids) a b d =
    let v = get_or t id 0 in
    let n = total_of t ids in
    let s = most - left in
    by_lt id size
    (λ i. by_eq v 0
    (λ z. simp (stops_none size t left id z) (sym (judge_bad _ left s (v + n) (bad_none size t id ids i z))))
    (λ z. by_lt left v
    (λ o. simp (stops_over size t left id o) (sym (judge_over (bad_ids size t (id ∷ ids)) left s (v + n) (omega arith))))
    (λ r. split (named id ids)
    (λ e. simp (stops_not size t left id i (positive z) r)
    (marked_twice size most t left id ids (omega arith) (omega arith) (positive z) r e
    ∙ sym (judge_bad _ left s (v + n) (bad_twice size t id ids i z e))))
    (λ e. simp (stops_not size t left id i (positive z) r)
    (unnamed size most t (left - v) id (mark v) ids e
    ∙ judged size most t (left - v) ids (omega arith) b d
    ∙ ap (λ (x : ℕ). judge (bad_ids size t ids) (left - v) x n) (omega arith)
    ∙ judge_moved (bad_ids size t ids) left s v n r
    ∙ ap (λ (x : Bool). judge x left s (v + n)) (sym (bad_later size t id ids i z e)))))))
    (λ o. simp (stops_out size t left id o) (sym (judge_bad _ left s (v + n) (bad_out size t id ids o))))
