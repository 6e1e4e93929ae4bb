-- How much room text takes, and that texts for which there is room are not lost.
-- Assumes nothing.
use Prim.Native.Nat.{ℕ, zero, suc, ◌+◌, ◌-◌, ◌/◌, ◌%◌, ◌≤◌}
use mathlib.Core.Path.{◌≡◌, ap, ◌∙◌}
use mathlib.Core.List.{List, [], ◌∷◌, ◌++◌}
use native.Mathlib.Omega.{arith}
use lib.Dec.{ltb}
use lib.ListN.{length, replicate}
use lib.Seq.{sets, length-take-le, length-sets}
use Rattle.base.proofs.Tests.{chosen}
use Rattle.text.specs.Text.{digits_of, decimal_of, right_of, hex_of, Written, written, puts}
use Rattle.text.proofs.Decimal.{digits_length}
use Rattle.text.proofs.Texts.{text_fits, snoc_length}

-- the bytes of texts, one behind the other
abbrev pub room : List (List ℕ) → ℕ
room [] = 0
room (t ∷ ts) = length t + room ts

pub room_append : (ss ts : List (List ℕ)) → room (ss ++ ts) ≡ room ss + room ts
room_append [] ts = omega arith
room_append (s ∷ ss) ts = omega (arith, room_append ss ts)

-- ---- numbers

digits_short : (k n : ℕ) → length (digits_of k n) ≤ k
unfolding digits_of
digits_short zero n = omega arith
digits_short (suc k) n =
    chosen (λ (t : List ℕ). length t ≤ suc k) (ltb n 10) ((48 + n) ∷ []) (digits_of k (n / 10) ++ ((48 + n % 10) ∷ []))
    (omega arith)
    (omega (arith, snoc_length (digits_of k (n / 10)) (48 + n % 10), digits_short k (n / 10)))

pub decimal_short : (n : ℕ) → length (decimal_of n) ≤ 20
decimal_short n = digits_short 20 n

-- a column that is no wider than the longest number
pub right_short : (width n : ℕ) → width ≤ 20 → room (right_of width n) ≤ 20
right_short width n h =
    let d = decimal_short n in
    let b = length-take-le {A = ℕ} (width - length (decimal_of n)) (replicate 20 32) (omega arith) in
    omega arith

pub hex_length : (m n : ℕ) → length (hex_of m n) ≡ m
unfolding hex_of
hex_length m n = digits_length 16 m n

-- ---- texts that have room are whole in the buffer, so the place behind them is not `LOST`

pub texts_fit : (ts : List (List ℕ)) (l : List ℕ) (n : ℕ) → n + room ts ≤ length l → (puts ts (written n l)).place ≡ n + room ts
unfolding puts
texts_fit [] l n h = omega arith
texts_fit (t ∷ ts) l n h =
    ap (λ (w : Written). (puts ts w).place) (text_fits t l n (omega arith))
    ∙ texts_fit ts (sets l n t) (n + length t) (omega (arith, length-sets l n t))
    ∙ omega arith
