-- Text that is put into a lent buffer. No paper speaks of this: it is what programs print with.
use Rattle.std.specs.Prelude.{ℕ, zero, suc, ◌+◌, ◌-◌, ◌/◌, ◌%◌, List, [], ◌∷◌, ◌++◌, cond, ltb, leb, length, take, replicate}
use Prim.Native.Char.{code}
use Prim.Native.String.{String}
use Prim.Native.String.{[] as none, ◌∷◌ as ◌then◌}
use Rattle.std.proofs.lemmas.List.Edits.{sets}
use Rattle.io.specs.Digits.{last_digits}

-- words in ASCII: a byte for each character
unfoldable pub words : String → List ℕ
words none = []
words (c then s) = code c ∷ words s

-- the digits of a number of at most k, the highest first, with no zero in front; 48 is the character '0'
unfoldable pub digits_of : ℕ → ℕ → List ℕ
digits_of zero n = []
digits_of (suc k) n = cond (ltb n 10) ((48 + n) ∷ []) (digits_of k (n / 10) ++ ((48 + n % 10) ∷ []))

-- a number of 64 bits has at most 20
abbrev pub decimal_of : ℕ → List ℕ
decimal_of n = digits_of 20 n

-- a number and the character behind it
abbrev pub number_of : ℕ → ℕ → List ℕ
number_of end n = decimal_of n ++ (end ∷ [])

-- so many blanks, at most twenty; 32 is the blank
abbrev pub blanks_of : ℕ → List ℕ
blanks_of k = take k (replicate 20 32)

-- a number at the right of a column: blanks in front of it up to the column's width, at most twenty
abbrev pub right_of : ℕ → ℕ → List (List ℕ)
right_of width n = blanks_of (width - length (decimal_of n)) ∷ decimal_of n ∷ []

-- a number in m hexadecimal digits, the highest first
unfoldable pub hex_of : ℕ → ℕ → List ℕ
hex_of m n = last_digits 16 m n

-- where the buffer is written next, and the buffer
pub record Written : Type 0 where
  pub place : ℕ
  pub buffer : List ℕ

abbrev pub written : ℕ → List ℕ → Written
written n l = record { place = n; buffer = l }

-- the place that stands for text that did not fit: no buffer reaches so far
abbrev pub LOST : ℕ
LOST = 18446744073709551615

-- text at the place, and the place behind it; where it is not whole in the buffer nothing is put, and the text is lost
unfoldable pub put_text : List ℕ → Written → Written
put_text text w =
    cond (leb (w.place + length text) (length w.buffer))
    (written (w.place + length text) (sets w.buffer w.place text))
    (written LOST w.buffer)

-- texts, one behind the other
unfoldable pub puts : List (List ℕ) → Written → Written
puts [] w = w
puts (t ∷ ts) w = puts ts (put_text t w)
