-- Values stored into the first entries of a list, whatever their type. What does not fit is left out.
-- Assumes nothing.
use Prim.Native.Nat.{ℕ, zero, suc, ◌+◌, ◌≤◌, ◌<◌, min}
use mathlib.Core.Path.{◌≡◌, refl, sym, ◌∙◌, ap}
use mathlib.Core.List.{List, [], ◌∷◌, ◌++◌, append-nil}
use native.Mathlib.Omega.{arith}
use lib.ListN.{length, get_or, take, drop, set, length-take, drop_of_length-le}
use lib.Seq.{sets}

-- stores after the first element leave it
sets_cons : {A : Type 0} (x : A) (l : List A) (i : ℕ) (vs : List A) → sets (x ∷ l) (suc i) vs ≡ x ∷ sets l i vs
sets_cons x l i [] = refl
sets_cons x l i (v ∷ vs) = sets_cons x (set l i v) (suc i) vs

-- and there are none past the end
sets_none : {A : Type 0} (i : ℕ) (vs : List A) → sets [] i vs ≡ []
sets_none i [] = refl
sets_none i (v ∷ vs) = sets_none (suc i) vs

-- l with the first i of the values
abbrev pub filled : {A : Type 0} → List A → List A → ℕ → List A
filled vs l i = take i vs ++ drop i l

-- one value more
pub filled_next :
    {A : Type 0} (vs l : List A) (i : ℕ) (d v : A) → i < length l → i < length vs → get_or vs i d ≡ v
    → set (filled vs l i) i v ≡ filled vs l (i + 1)
filled_next [] l i d v h g e = absurd (omega arith)
filled_next (w ∷ vs) [] i d v h g e = absurd (omega arith)
filled_next (w ∷ vs) (x ∷ l) zero d v h g e = ap (λ (y : _). y ∷ l) (sym e)
filled_next (w ∷ vs) (x ∷ l) (suc i) d v h g e =
    let s : suc (i + 1) ≡ suc i + 1 = omega arith in
    ap (λ (m : List _). w ∷ m) (filled_next vs l i d v (omega arith) (omega arith) e)
    ∙ ap (λ (k : ℕ). filled (w ∷ vs) (x ∷ l) k) s

-- stores from the start, as far as there are entries
stored : {A : Type 0} (vs l : List A) → sets l 0 vs ≡ filled vs l (min (length l) (length vs))
stored [] l = let e : 0 ≡ min (length l) 0 = omega arith in ap (λ (k : ℕ). filled [] l k) e
stored (v ∷ vs) [] =
    let e : 0 ≡ min 0 (suc (length vs)) = omega arith in
    sets_none 0 (v ∷ vs) ∙ ap (λ (k : ℕ). filled (v ∷ vs) [] k) e
stored (v ∷ vs) (x ∷ l) =
    let e : suc (min (length l) (length vs)) ≡ min (suc (length l)) (suc (length vs)) = omega arith in
    sets_cons v l 0 vs ∙ ap (λ (m : List _). v ∷ m) (stored vs l) ∙ ap (λ (k : ℕ). filled (v ∷ vs) (x ∷ l) k) e

-- all of the first part is filled, and what is past it stays
pub filled_all :
    {A : Type 0} (vs l : List A) (m k : ℕ) → m ≡ k → k ≡ min (length l) (length vs)
    → filled vs (take k l) m ++ drop k l ≡ sets l 0 vs
filled_all vs l m k d e =
    let short : length (take k l) ≤ m = omega (arith, length-take k l) in
    ap (λ (p : List _). (take m vs ++ p) ++ drop k l) (drop_of_length-le (take k l) short)
    ∙ ap (λ (p : List _). p ++ drop k l) (append-nil (take m vs))
    ∙ ap (λ (i : ℕ). take i vs ++ drop k l) d
    ∙ ap (filled vs l) e
    ∙ sym (stored vs l)
