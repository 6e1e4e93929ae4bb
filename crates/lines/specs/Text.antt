-- A line's numbers, put into a lent buffer (docs/TRACE.md, "Output: decimal numbers, one space between, one line each").
use Rattle.std.specs.Prelude.{ℕ, List, [], ◌∷◌, get_or, drop}
use Rattle.text.specs.Text.{words, number_of, Written, put_text}

-- the run's last line: "the line `bad`"
abbrev pub bad_line : List ℕ
bad_line = words "bad\n"

-- a number with a space (32) behind it, or behind the last number of a line its end (10)
abbrev pub spaced : ℕ → List ℕ
spaced n = number_of 32 n

abbrev pub ending : ℕ → List ℕ
ending n = number_of 10 n

-- numbers, each with a space behind it
unfoldable pub put_values : List ℕ → Written → Written
put_values [] w = w
put_values (x ∷ xs) w = put_values xs (put_text (spaced x) w)

-- "n times addr len": each address with its length, 0 where there is none
unfoldable pub pairs_of : List ℕ → List ℕ → List ℕ
pairs_of [] lens = []
pairs_of (a ∷ addrs) lens = a ∷ get_or lens 0 0 ∷ pairs_of addrs (drop 1 lens)
