-- Little-endian numbers, for any number of bytes.
-- Assumes nothing.
use Prim.Native.Nat.{ℕ, zero, suc, ◌+◌, ◌*◌, ◌/◌, ◌%◌, ◌^◌, ◌≤◌, ◌<◌}
use mathlib.Core.Path.{◌≡◌, refl, sym, ◌∙◌, ap, ap₂}
use mathlib.Core.List.{List, [], ◌∷◌, ◌++◌}
use native.Mathlib.Omega.{arith}
use native.Mathlib.Nat.{add-zero, add-suc, suc-add, pow-suc, div-lt_iff_lt-mul}
use lib.ListN.{length, get_or, take, drop}
use lib.Seq.{drop-cons, get_or-drop}
use Rattle.base.specs.Bytes.{bytes_of, word_at}

pub length_bytes : (k n : ℕ) → length (bytes_of k n) ≡ k
unfolding bytes_of
length_bytes zero n = refl
length_bytes (suc k) n = ap suc (length_bytes k (n / 256))

-- what is before a word does not matter
word_shift : (x : ℕ) (bs : List ℕ) (i k : ℕ) → word_at (x ∷ bs) (suc i) k ≡ word_at bs i k
unfolding word_at
word_shift x bs i zero = refl
word_shift x bs i (suc k) = ap (λ (n : ℕ). get_or bs i 0 + 256 * n) (word_shift x bs (suc i) k)

pub word_after : (ps bs : List ℕ) (i k : ℕ) → word_at (ps ++ bs) (length ps + i) k ≡ word_at bs i k
word_after [] bs i k = ap (λ (n : ℕ). word_at bs n k) (omega arith)
word_after (p ∷ ps) bs i k =
    ap (λ (n : ℕ). word_at (p ∷ (ps ++ bs)) n k) (suc-add (length ps) i)
    ∙ word_shift p (ps ++ bs) (length ps + i) k
    ∙ word_after ps bs i k

-- a word of what is left from a place on is the word at that place
pub word_drop : (l : List ℕ) (k i w : ℕ) → word_at (drop k l) i w ≡ word_at l (k + i) w
unfolding word_at
word_drop l k i zero = refl
word_drop l k i (suc w) =
    ap₂ (λ (x y : ℕ). x + 256 * y)
    (get_or-drop k l i 0)
    (word_drop l k (suc i) w ∙ ap (λ (j : ℕ). word_at l j w) (add-suc k i))

pub word_from : (s t : List ℕ) (k w : ℕ) → t ≡ drop k s → word_at s k w ≡ word_at t 0 w
word_from s t k w e =
    ap (λ (j : ℕ). word_at s j w) (sym (add-zero k)) ∙ sym (word_drop s k 0 w) ∙ ap (λ (l : List ℕ). word_at l 0 w) (sym e)

-- a word of eight bytes is made of two of four, the lower first
halves : (bs : List ℕ) → word_at bs 0 8 ≡ word_at bs 0 4 + 256 ^ 4 * word_at bs 4 4
unfolding word_at
halves bs = omega arith

pub word_halves : (bs : List ℕ) (i : ℕ) → word_at bs i 8 ≡ word_at bs i 4 + 256 ^ 4 * word_at bs (i + 4) 4
word_halves bs i =
    word_from bs (drop i bs) i 8 refl
    ∙ halves (drop i bs)
    ∙ ap₂ (λ (x y : ℕ). x + 256 ^ 4 * y) (sym (word_from bs (drop i bs) i 4 refl)) (word_drop bs i 4 4)

-- the word of the bytes of n is n
pub word_bytes : (k n : ℕ) (rest : List ℕ) → n < 256 ^ k → word_at (bytes_of k n ++ rest) 0 k ≡ n
unfolding bytes_of word_at
word_bytes zero n rest h = omega arith
word_bytes (suc k) n rest h =
    let l : n < 256 ^ k * 256 = rw pow-suc at h in
    let e : word_at (bytes_of k (n / 256) ++ rest) 0 k ≡ n / 256 =
    word_bytes k (n / 256) rest ((div-lt_iff_lt-mul (omega arith)).1 l) in
    ap (λ (m : ℕ). n % 256 + 256 * m) (word_shift (n % 256) (bytes_of k (n / 256) ++ rest) 0 k ∙ e)
    ∙ omega arith

-- each number of a list is a byte
abbrev pub Bytes : List ℕ → Type 0
Bytes bs = (i : ℕ) → get_or bs i 0 < 256

pub bytes_are : (k n : ℕ) → Bytes (bytes_of k n)
unfolding bytes_of
bytes_are zero n i = omega arith
bytes_are (suc k) n zero = omega arith
bytes_are (suc k) n (suc i) = bytes_are k (n / 256) i

pub bytes_append : (a b : List ℕ) → Bytes a → Bytes b → Bytes (a ++ b)
bytes_append [] b ha hb i = hb i
bytes_append (x ∷ xs) b ha hb zero = ha zero
bytes_append (x ∷ xs) b ha hb (suc i) = bytes_append xs b (λ j. ha (suc j)) hb i

-- the bytes of the word of k bytes are those bytes
pub bytes_word : (k : ℕ) (bs : List ℕ) (i : ℕ) → Bytes bs → i + k ≤ length bs → bytes_of k (word_at bs i k) ≡ take k (drop i bs)
unfolding bytes_of word_at
bytes_word zero bs i b h = refl
bytes_word (suc k) bs i b h =
    let x = get_or bs i 0 in
    let w = word_at bs (suc i) k in
    ap₂ (λ (p : ℕ) (q : List ℕ). p ∷ q)
    (omega (arith, b i))
    (ap (bytes_of k) (omega (arith, b i)) ∙ bytes_word k bs (suc i) b (omega arith))
    ∙ sym (ap (take (suc k)) (drop-cons bs i 0 (omega arith)))

-- a word of k bytes is in its range
pub word_below : (bs : List ℕ) (i k : ℕ) → Bytes bs → word_at bs i k < 256 ^ k
unfolding word_at
word_below bs i zero b = omega arith
word_below bs i (suc k) b = rw (pow-suc 256 k) (omega (arith, b i, word_below bs (suc i) k b))
