-- A line's answer says what the call answered, in document 01's number and values.
-- Assumes nothing.
use Prim.Native.Nat.{ℕ}
use mathlib.Core.Path.{◌≡◌, refl}
use mathlib.Core.List.{[], ◌∷◌}
use mathlib.Core.Bool.{Bool}
use Rattle.std.specs.Prelude.{Result, Ok, Err}
use Rattle.base.specs.declared.RingError.{RingError}
use Rattle.base.specs.Answer.{bit, done}
use Rattle.cursor.specs.declared.RingCursor.{RingCursor}
use Rattle.cursor.specs.Cursor as cursors
use Rattle.ring.specs.Asked.{count_answer, bool_answer, cursor_answer}
use Rattle.lines.specs.Line.{held, line_by, call_of}

-- up to five values are held as they are
module _ (a b c d e : ℕ) where
  pub held_none : call_of (Ok (held [])) ≡ done []
  held_none = refl

  pub held_one : call_of (Ok (held (a ∷ []))) ≡ done (a ∷ [])
  held_one = refl

  pub held_two : call_of (Ok (held (a ∷ b ∷ []))) ≡ done (a ∷ b ∷ [])
  held_two = refl

  pub held_three : call_of (Ok (held (a ∷ b ∷ c ∷ []))) ≡ done (a ∷ b ∷ c ∷ [])
  held_three = refl

  pub held_five : call_of (Ok (held (a ∷ b ∷ c ∷ d ∷ e ∷ []))) ≡ done (a ∷ b ∷ c ∷ d ∷ e ∷ [])
  held_five = refl

-- so the line of what is asked of a record says what the ring's answer says
pub count_said : (r : Result ℕ RingError) → call_of (line_by (λ n. n ∷ []) r) ≡ count_answer r
count_said (Ok n) = refl
count_said (Err e) = refl

pub flag_said : (r : Result Bool RingError) → call_of (line_by (λ b. bit b ∷ []) r) ≡ bool_answer r
flag_said (Ok b) = refl
flag_said (Err e) = refl

pub cursor_said : (r : Result RingCursor RingError) → call_of (line_by cursors.values_of r) ≡ cursor_answer r
cursor_said (Ok c) = refl
cursor_said (Err e) = refl
