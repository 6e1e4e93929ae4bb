-- A lent chain (document 01, "What must change shape" and refusal 8).
use Rattle.std.specs.Prelude.{ℕ, ◌-◌, [], Bool, not, cond, ◌||◌, ltb, leb, eqb, length}
use Rattle.base.specs.Answer.{Answer, done, refused}
use Rattle.base.specs.Part.{Slice, part}

-- no elements, behind the last one
abbrev pub empty_end : {A : Type 0} → ℕ → Slice A → Slice A
empty_end w s = part w (length s.elements) 0 s

-- "`readables` and `writables` hand back a part of one slice, or its empty end where the count passes its length"; w is the
-- width of an element in bytes
unfoldable pub readables_of : {A : Type 0} → ℕ → ℕ → Slice A → Slice A
readables_of w n s = cond (leb n (length s.elements)) (part w 0 n s) (empty_end w s)

-- what is left behind the readable part
unfoldable pub writables_of : {A : Type 0} → ℕ → ℕ → Slice A → Slice A
writables_of w n s =
    cond (leb n (length s.elements)) (part w n (length s.elements - n) s) (empty_end w s)

-- refusal 8: "chain slices of unequal length; readable count above the length"
unfoldable pub bad_slices : ℕ → ℕ → ℕ → Bool
bad_slices addrs lens readable = not (eqb addrs lens) || ltb addrs readable

-- "a separate call gives the 8"
unfoldable pub check_of : ℕ → ℕ → ℕ → Answer
check_of addrs lens readable = cond (bad_slices addrs lens readable) (refused 8) (done [])
