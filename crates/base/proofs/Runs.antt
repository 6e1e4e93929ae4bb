-- Runs of stores in lent bytes, for any width.
-- Assumes nothing.
use Prim.Native.Nat.{ℕ, ◌+◌, ◌-◌, ◌≤◌, ◌<◌, suc}
use mathlib.Core.Path.{◌≡◌, refl, sym, ◌∙◌, ap, ap₂}
use mathlib.Core.Logic.{◌⊎◌, ⊎_elim}
use mathlib.Core.List.{List, [], ◌∷◌, ◌++◌, append_assoc, append-nil}
use mathlib.Core.Bool.{cond}
use native.Mathlib.Omega.{arith}
use native.Mathlib.Numerals.{add-one}
use native.Mathlib.Nat.{add-zero, add-suc, suc-add}
use lib.Dec.{leb}
use lib.ListN.{length, get_or, take, drop, set, replicate, length-take, length-drop, length-replicate, drop_of_length-le}
use lib.Seq.{sets, sets-eq, take-suc, length-take-le, drop-set-lt, drop-set-add, take-set-le, drop_at, take_at, get_or-take, get_or-drop, length-sets}
use lib.Seq.{drop-cons, drop-drop}
use borrow.Rule.Slice.PartMut.{put_mid}
use borrow.Author.Tests.{le-leb, lt-leb}
use Rattle.base.specs.Answer.{outcome, done, refused}
use Rattle.base.specs.Bytes.{put_of, get_of}
use Rattle.base.proofs.Tests.{by_lt}

-- the elements of a part, copied over or filled, are stores one after the other
pub pasted : {A : Type 0} (vs l : List A) (i n : ℕ) → n ≡ length vs → i + length vs ≤ length l → put_mid i n l vs ≡ sets l i vs
pasted vs l i n e h =
    ap (λ (p : List _). take i l ++ (vs ++ p)) (drop-drop n i l ∙ ap (λ (k : ℕ). drop (i + k) l) e)
    ∙ sym (append_assoc (take i l) vs (drop (i + length vs) l))
    ∙ sym (sets-eq vs l i h)

pub filled :
    {A : Type 0} (v : A) (l : List A) (i k n : ℕ) → k ≡ n → i + n ≤ length l
    → put_mid i k l (replicate (length (take k (drop i l))) v) ≡ sets l i (replicate n v)
filled v l i k n e h =
    let there : i + length (replicate n v) ≤ length l = omega (arith, h, length-replicate n v) in
    ap (λ (m : ℕ). put_mid i k l (replicate m v)) (length-take-le k (drop i l) (omega (arith, length-drop i l)) ∙ e)
    ∙ pasted (replicate n v) l i k (omega (arith, e, length-replicate n v)) there

-- one store more at the end of a run
sets_snoc : (vs l : List ℕ) (i a : ℕ) → set (sets l i vs) (i + length vs) a ≡ sets l i (vs ++ (a ∷ []))
sets_snoc [] l i a = ap (λ (k : ℕ). set l k a) (add-zero i)
sets_snoc (v ∷ vs) l i a =
    ap (λ (k : ℕ). set (sets (set l i v) (suc i) vs) k a) (add-suc i (length vs) ∙ sym (suc-add i (length vs)))
    ∙ sets_snoc vs (set l i v) (suc i) a

pub sets_more :
    (vs l : List ℕ) (i k : ℕ) → k < length vs
    → set (sets l i (take k vs)) (i + k) (get_or vs k 0) ≡ sets l i (take (k + 1) vs)
sets_more vs l i k h =
    ap (λ (n : ℕ). set (sets l i (take k vs)) (i + n) (get_or vs k 0)) (sym (length-take-le k vs (omega arith)))
    ∙ sets_snoc (take k vs) l i (get_or vs k 0)
    ∙ ap (sets l i) (sym (ap (λ (n : ℕ). take n vs) (add-one k) ∙ take-suc vs k 0 h))

-- a part behind the stores, a part before them, and the part itself
part_after : (vs l : List ℕ) (i n j : ℕ) → i + length vs ≤ j → take n (drop j (sets l i vs)) ≡ take n (drop j l)
part_after [] l i n j h = refl
part_after (v ∷ vs) l i n j h =
    part_after vs (set l i v) (suc i) n j (omega arith) ∙ ap (take n) (drop-set-lt j l i v (omega arith))

part_before : (vs l : List ℕ) (i n j : ℕ) → j + n ≤ i → take n (drop j (sets l i vs)) ≡ take n (drop j l)
part_before [] l i n j h = refl
part_before (v ∷ vs) l i n j h =
    let e : i ≡ j + (i - j) = omega arith in
    part_before vs (set l i v) (suc i) n j (omega arith)
    ∙ ap (λ (k : ℕ). take n (drop j (set l k v))) e
    ∙ ap (take n) (drop-set-add j l (i - j) v)
    ∙ take-set-le n (drop j l) (i - j) v (omega arith)

pub part_same : (vs l : List ℕ) (i : ℕ) → i + length vs ≤ length l → take (length vs) (drop i (sets l i vs)) ≡ vs
part_same vs l i h =
    ap (λ (x : List ℕ). take (length vs) (drop i x))
    (sets-eq vs l i h ∙ append_assoc (take i l) vs (drop (i + length vs) l))
    ∙ ap (take (length vs)) (drop_at (take i l) (vs ++ drop (i + length vs) l) i (length-take-le i l (omega arith)))
    ∙ take_at vs (drop (i + length vs) l) (length vs) refl

-- a part of n from place i: its length, and its entries
pub part_length : (l : List ℕ) (i n : ℕ) → i + n ≤ length l → length (take n (drop i l)) ≡ n
part_length l i n h = simp (length-take, length-drop) (omega arith)

pub part_at : (l : List ℕ) (i n k : ℕ) → k < n → get_or (take n (drop i l)) k 0 ≡ get_or l (i + k) 0
part_at l i n k h = get_or-take n (drop i l) k 0 h ∙ get_or-drop i l k 0

-- its first entry, and the part behind it
pub part_cons :
    (l : List ℕ) (i j n : ℕ) → j ≡ i + 1 → i < length l → take (n + 1) (drop i l) ≡ get_or l i 0 ∷ take n (drop j l)
part_cons l i j n e h =
    ap₂ (λ (m : ℕ) (x : List ℕ). take m x) (add-one n) (drop-cons l i 0 h)
    ∙ ap (λ (k : ℕ). get_or l i 0 ∷ take n (drop k l)) (sym (e ∙ add-one i))

-- stores over a whole list leave the stored
pub sets_whole : (vs l : List ℕ) → length vs ≡ length l → sets l 0 vs ≡ vs
sets_whole vs l e =
    sets-eq vs l 0 (omega arith)
    ∙ ap (λ (n : ℕ). vs ++ drop (0 + n) l) e
    ∙ ap (λ (x : List ℕ). vs ++ x) (drop_of_length-le l {i = 0 + length l} (omega arith))
    ∙ append-nil vs

-- what a caller uses of `put`, `zero` and of a read
pub put_fits : (l : List ℕ) (i : ℕ) (bs : List ℕ) → i + length bs ≤ length l → put_of l i bs ≡ outcome (done []) (sets l i bs)
unfolding put_of
put_fits l i bs h = simp (le-leb (i + length bs) (length l) h)

pub put_short : (l : List ℕ) (i : ℕ) (bs : List ℕ) → length l < i + length bs → put_of l i bs ≡ outcome (refused 8) l
unfolding put_of
put_short l i bs h = simp (lt-leb (i + length bs) (length l) h)

pub get_fits : (l : List ℕ) (i n : ℕ) → i + n ≤ length l → get_of l i n ≡ take n (drop i l)
unfolding get_of
get_fits l i n h = simp (le-leb (i + n) (length l) h)

pub get_short : (l : List ℕ) (i n : ℕ) → length l < i + n → get_of l i n ≡ replicate n 0
unfolding get_of
get_short l i n h = simp (lt-leb (i + n) (length l) h)

-- a read of what was put there, and of what lies behind it or before it
pub get_same : (vs l : List ℕ) (i : ℕ) → i + length vs ≤ length l → get_of (sets l i vs) i (length vs) ≡ vs
get_same vs l i h =
    get_fits (sets l i vs) i (length vs) (omega (arith, length-sets l i vs)) ∙ part_same vs l i h

pub get_other :
    (vs l : List ℕ) (i n j : ℕ) → (i + length vs ≤ j) ⊎ (j + n ≤ i) → get_of (sets l i vs) j n ≡ get_of l j n
unfolding get_of
get_other vs l i n j o =
    ap₂ (λ (m : ℕ) (x : List ℕ). cond (leb (j + n) m) x (replicate n 0)) (length-sets l i vs)
    (⊎_elim (λ h. part_after vs l i n j h) (λ h. part_before vs l i n j h) o)

-- what a read gives has its length
pub get_length : (l : List ℕ) (i n : ℕ) → length (get_of l i n) ≡ n
get_length l i n =
    by_lt (length l) (i + n)
    (λ h. ap length (get_short l i n h) ∙ length-replicate n 0)
    (λ h. ap length (get_fits l i n h) ∙ part_length l i n h)

-- the first n bytes of what is left from a place on, and zeros where there are fewer
pub left_whole : (l rest : List ℕ) (i n : ℕ) → rest ≡ drop i l → n ≤ length rest → take n rest ≡ get_of l i n
left_whole l rest i n e h =
    let m : length rest ≡ length l - i = ap length e ∙ length-drop i l in
    by_lt (length l) (i + n)
    (λ p.
    let z : n ≡ 0 = omega arith in
    ap (λ (k : ℕ). take k rest) z ∙ ap (λ (k : ℕ). replicate k 0) (sym z) ∙ sym (get_short l i n p))
    (λ p. ap (take n) e ∙ sym (get_fits l i n p))

pub left_short : (l rest : List ℕ) (i n : ℕ) → rest ≡ drop i l → length rest < n → replicate n 0 ≡ get_of l i n
left_short l rest i n e h = sym (get_short l i n (omega (arith, ap length e, length-drop i l)))
