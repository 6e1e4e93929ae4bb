-- Numbers put into a buffer, one after the other.
-- Assumes nothing.
use Prim.Native.Nat.{ℕ, ◌+◌, ◌≤◌, ◌<◌}
use mathlib.Core.Path.{◌≡◌, refl, sym, ap, ap₂, ◌∙◌}
use mathlib.Core.List.{List, [], ◌∷◌, ◌++◌, map}
use native.Mathlib.Numerals.{add-one}
use native.Mathlib.Nat.{add-zero}
use lib.ListN.{length, get_or, drop, drop_of_length-le}
use lib.Seq.{drop-cons, get_or-drop, drop-drop}
use Rattle.text.specs.Text.{Written, put_text}
use Rattle.lines.specs.Text.{spaced, put_values, pairs_of}

pub no_values : (w : Written) → put_values [] w ≡ w
unfolding put_values
no_values w = refl

pub one_value : (x : ℕ) (w : Written) → put_values (x ∷ []) w ≡ put_text (spaced x) w
unfolding put_values
one_value x w = refl

pub values_append : (xs ys : List ℕ) (w : Written) → put_values (xs ++ ys) w ≡ put_values ys (put_values xs w)
unfolding put_values
values_append [] ys w = refl
values_append (x ∷ xs) ys w = values_append xs ys (put_text (spaced x) w)

-- the numbers from the k-th on: the k-th, and those behind it
module _ {A : Type 0} (value : A → ℕ) (s : List A) (k : ℕ) (w : Written) where
  pub values_next :
      (d x : A) → k < length s → x ≡ get_or s k d
      → put_values (map value (drop k s)) w ≡ put_values (map value (drop (k + 1) s)) (put_values (value x ∷ []) w)
  values_next d x h e =
      ap (λ (l : List A). put_values (map value l) w)
      (drop-cons s k d h ∙ ap₂ (λ (y : A) (i : ℕ). y ∷ drop i s) (sym e) (sym (add-one k)))
      ∙ values_append (value x ∷ []) (map value (drop (k + 1) s)) w

  pub values_done : length s ≤ k → put_values (map value (drop k s)) w ≡ w
  values_done h = ap (λ (l : List A). put_values (map value l) w) (drop_of_length-le s h) ∙ no_values w

-- the pairs from the k-th on
pub pairs_next :
    (addrs lens : List ℕ) (k : ℕ) (w : Written) → k < length addrs
    → put_values (pairs_of (drop k addrs) (drop k lens)) w
    ≡ put_values (pairs_of (drop (k + 1) addrs) (drop (k + 1) lens))
    (put_values (get_or lens k 0 ∷ []) (put_values (get_or addrs k 0 ∷ []) w))
unfolding pairs_of
pairs_next addrs lens k w h =
    let f : List ℕ → List ℕ = λ (x : List ℕ). pairs_of x (drop k lens) in
    let e : drop k addrs ≡ get_or addrs k 0 ∷ drop (k + 1) addrs =
    drop-cons addrs k 0 h ∙ ap (λ (i : ℕ). get_or addrs k 0 ∷ drop i addrs) (sym (add-one k)) in
    let g : get_or (drop k lens) 0 0 ≡ get_or lens k 0 =
    get_or-drop k lens 0 0 ∙ ap (λ (i : ℕ). get_or lens i 0) (add-zero k) in
    let d : drop 1 (drop k lens) ≡ drop (k + 1) lens = drop-drop 1 k lens in
    ap (λ (x : List ℕ). put_values x w)
    (ap f e ∙ ap₂ (λ (y : ℕ) (t : List ℕ). get_or addrs k 0 ∷ y ∷ pairs_of (drop (k + 1) addrs) t) g d)
    ∙ values_append (get_or addrs k 0 ∷ []) (get_or lens k 0 ∷ pairs_of (drop (k + 1) addrs) (drop (k + 1) lens)) w
    ∙ values_append (get_or lens k 0 ∷ []) (pairs_of (drop (k + 1) addrs) (drop (k + 1) lens)) (put_values (get_or addrs k 0 ∷ []) w)

pub pairs_done : (addrs lens : List ℕ) (k : ℕ) (w : Written) → length addrs ≤ k → put_values (pairs_of (drop k addrs) lens) w ≡ w
unfolding pairs_of
pairs_done addrs lens k w h =
    ap (λ (x : List ℕ). put_values (pairs_of x lens) w) (drop_of_length-le addrs h) ∙ no_values w
