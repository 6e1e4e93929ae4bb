-- What is asked of a record is told by its answer.
-- Assumes nothing.
use Prim.Native.Nat.{ℕ}
use mathlib.Core.Path.{◌≡◌, ap}
use mathlib.Core.List.{List, [], ◌∷◌}
use mathlib.Core.Bool.{Bool, true, false}
use lib.ListN.{get_or}
use Rattle.std.specs.Prelude.{Result}
use Rattle.base.specs.declared.RingError.{RingError}
use Rattle.base.specs.Answer.{done, refused, bit}
use Rattle.base.proofs.Refusals.{bit_same, result_same}
use Rattle.cursor.specs.declared.RingCursor.{RingCursor}
use Rattle.cursor.specs.Cursor.{at, values_of}
use Rattle.desc.specs.declared.DescTable.{DescTable}
use Rattle.desc.specs.Table as tables
use Rattle.ring.specs.Asked.{ask_of, count_answer, bool_answer, cursor_answer, table_answer}

pub count_same : (x y : Result ℕ RingError) → count_answer x ≡ count_answer y → x ≡ y
count_same x y h = result_same (λ n. n ∷ []) (λ m n e. ap (λ (l : List ℕ). get_or l 0 0) e) x y h

pub bool_same : (x y : Result Bool RingError) → bool_answer x ≡ bool_answer y → x ≡ y
bool_same x y h = result_same (λ b. bit b ∷ []) (λ b d e. bit_same b d (ap (λ (l : List ℕ). get_or l 0 0) e)) x y h

pub cursor_same : (x y : Result RingCursor RingError) → cursor_answer x ≡ cursor_answer y → x ≡ y
cursor_same x y h =
    result_same values_of
    (λ c d e. λ i. at (get_or (e i) 0 0) (bit_same c.wrap d.wrap (ap (λ (l : List ℕ). get_or l 1 0) e) i)) x y h

pub table_same : (x y : Result DescTable RingError) → table_answer x ≡ table_answer y → x ≡ y
table_same x y h =
    result_same (λ t. t.base_addr ∷ t.len ∷ []) (λ t u e. λ i. tables.table (get_or (e i) 0 0) (get_or (e i) 1 0)) x y h

-- 7, or the values
pub ask_bad : (b : Bool) (vs : List ℕ) → b ≡ true → ask_of b vs ≡ refused 7
unfolding ask_of
ask_bad b vs e = simp e

pub ask_good : (b : Bool) (vs : List ℕ) → b ≡ false → ask_of b vs ≡ done vs
unfolding ask_of
ask_good b vs e = simp e
