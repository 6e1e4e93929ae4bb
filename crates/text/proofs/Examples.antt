-- The definitions, computed: values that meet the premises of the laws.
-- Assumes nothing.
use Prim.Native.Nat.{◌≤◌}
use mathlib.Core.Path.{◌≡◌, refl}
use mathlib.Core.List.{[], ◌∷◌}
use native.Mathlib.Omega.{arith}
use Rattle.io.specs.Digits.{last_digits, IsDigitCount}
use lib.ListN.{replicate}
use Rattle.text.specs.Text.{words, digits_of, decimal_of, right_of, hex_of, written, puts}
use Rattle.text.proofs.Decimal.{fewest_digits, at_most_20}
use Rattle.text.proofs.Texts.{hex_digits}
use Rattle.text.proofs.Room.{room, right_short, texts_fit}

-- 207 has three digits, and no fewer hold it
pub three_digits : IsDigitCount 10 1 207 3
three_digits = (omega arith, omega arith, λ h. omega arith)

pub spelt : decimal_of 207 ≡ 50 ∷ 48 ∷ 55 ∷ []
unfolding digits_of
spelt = refl

-- and so the laws about what `io::decimal` gives speak of it
pub as_decimal : last_digits 10 3 207 ≡ decimal_of 207
as_decimal = fewest_digits 20 3 207 (at_most_20 3 207 (omega arith) three_digits) three_digits

-- 0x7f78 in four hexadecimal digits
pub four_digits : IsDigitCount 16 4 0x7f78 4
four_digits = (omega arith, omega arith, λ h. absurd (omega (arith, h)))

pub as_hex : last_digits 16 4 0x7f78 ≡ hex_of 4 0x7f78
as_hex = hex_digits 4 4 0x7f78 (last_digits 16 4 0x7f78) (omega arith) (omega arith) four_digits refl

pub in_words : hex_of 4 0x7f78 ≡ words "7f78"
unfolding hex_of words
in_words = refl

-- two words of four bytes have room in four, and a column of five is no wider than twenty
pub no_byte_over : (puts (words "7f" ∷ words "78" ∷ []) (written 0 (replicate 4 0))).place ≡ 4
unfolding words
no_byte_over = texts_fit (words "7f" ∷ words "78" ∷ []) (replicate 4 0) 0 (omega arith)

pub column : room (right_of 5 207) ≤ 20
column = right_short 5 207 (omega arith)
