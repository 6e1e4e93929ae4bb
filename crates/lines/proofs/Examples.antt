-- The definitions, computed.
-- Assumes nothing.
use mathlib.Core.Path.{◌≡◌, refl}
use mathlib.Core.List.{[], ◌∷◌}
use Rattle.text.specs.Text.{digits_of, written, LOST, put_text}
use Rattle.lines.specs.Text.{put_values}

-- two numbers in five bytes, each with its space; in four bytes the second is lost, and the first stands
pub both_fit : put_values (7 ∷ 10 ∷ []) (written 0 (1 ∷ 2 ∷ 3 ∷ 4 ∷ 5 ∷ [])) ≡ written 5 (55 ∷ 32 ∷ 49 ∷ 48 ∷ 32 ∷ [])
unfolding put_values put_text digits_of
both_fit = refl

pub second_lost : put_values (7 ∷ 10 ∷ []) (written 0 (1 ∷ 2 ∷ 3 ∷ 4 ∷ [])) ≡ written LOST (55 ∷ 32 ∷ 3 ∷ 4 ∷ [])
unfolding put_values put_text digits_of
second_lost = refl
