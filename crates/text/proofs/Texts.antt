-- Text put into a buffer, exit by exit.
-- Assumes nothing.
use Prim.Native.Nat.{ℕ, zero, suc, ◌+◌, ◌-◌, ◌/◌, ◌%◌, ◌^◌, ◌≤◌, ◌<◌, min}
use mathlib.Core.Path.{◌≡◌, refl, sym, ap, ap₂, ◌∙◌}
use mathlib.Core.List.{List, [], ◌∷◌, ◌++◌}
use native.Mathlib.Omega.{arith}
use native.Mathlib.Nat.{pow-le-pow_right, add-suc}
use lib.ListN.{length, set, length-append, take, drop, drop_of_length-le}
use mathlib.Core.Bool.{true, false}
use lib.Dec.{leb}
use lib.Seq.{sets, take_all, take-append_seam, get_or-append_seam, drop-append-le}
use borrow.Author.Tests.{le-leb, lt-leb, leb-true, leb-false}
use Rattle.std.proofs.lemmas.List.{drop-take}
use Rattle.std.specs.Prelude.{Result, Ok, Err, ⊤}
use Rattle.io.specs.Digits.{last_digits, hex_digit_ascii, IsDigitCount}
use Rattle.base.specs.declared.RingError.{RingError}
use Rattle.base.specs.Answer.{Answer, Outcome, outcome, answer_of}
use Rattle.base.specs.Bytes.{put_of}
use Rattle.base.proofs.Refusals.{not_done}
use Rattle.base.proofs.Runs.{put_fits, put_short, sets_more}
use Rattle.base.proofs.Tests.{by_lt}
use Rattle.text.specs.Text.{decimal_of, number_of, blanks_of, right_of, hex_of, Written, written, LOST, put_text, puts}
use Rattle.text.proofs.Decimal.{fewest_digits, digits_length}

module _ (text l : List ℕ) (n : ℕ) where
  pub text_fits :
      n + length text ≤ length l → put_text text (written n l) ≡ written (n + length text) (sets l n text)
  unfolding put_text
  text_fits h = simp (le-leb (n + length text) (length l) h)

  pub text_lost : length l < n + length text → put_text text (written n l) ≡ written LOST l
  unfolding put_text
  text_lost h = simp (lt-leb (n + length text) (length l) h)

-- text and one character behind it
pub snoc_length : (text : List ℕ) (x : ℕ) → length (text ++ (x ∷ [])) ≡ length text + 1
snoc_length text x = length-append text (x ∷ [])

pub sets_snoc : (text l : List ℕ) (n x : ℕ) → set (sets l n text) (n + length text) x ≡ sets l n (text ++ (x ∷ []))
sets_snoc text l n x =
    let vs = text ++ (x ∷ []) in
    let k = length text in
    ap₂ (λ (t : List ℕ) (y : ℕ). set (sets l n t) (n + k) y)
    (sym (take-append_seam text (x ∷ [])))
    (sym (get_or-append_seam text x [] 0))
    ∙ sets_more vs l n k (omega (arith, snoc_length text x))
    ∙ ap (sets l n) (take_all (k + 1) vs (omega (arith, snoc_length text x)))

-- what `base::bytes::put` answered, and what it left
module _ (text l l' : List ℕ) (n : ℕ) {r : Result ⊤ RingError} (left : outcome (answer_of r) l' ≡ put_of l n text) where
  answered : {q : Result ⊤ RingError} → r ≡ q → outcome (answer_of q) l' ≡ put_of l n text
  answered e = ap (λ (a : Result ⊤ RingError). outcome (answer_of a) l') (sym e) ∙ left

  pub put_ends : {u : ⊤} → r ≡ Ok u → n + length text ≤ length l
  put_ends e =
      by_lt (length l) (n + length text)
      (λ h. absurd (omega (arith, ap (λ (o : Outcome). o.answer.number) (answered e ∙ put_short l n text h))))
      (λ h. h)

  pub put_done : {u : ⊤} → r ≡ Ok u → written (n + length text) l' ≡ put_text text (written n l)
  put_done e =
      let h = put_ends e in
      ap (λ (o : Outcome). written (n + length text) o.bytes) (answered e ∙ put_fits l n text h) ∙ sym (text_fits text l n h)

  pub put_refused : {x : RingError} → r ≡ Err x → written LOST l' ≡ put_text text (written n l)
  put_refused {x} e =
      by_lt (length l) (n + length text)
      (λ h. ap (λ (o : Outcome). written LOST o.bytes) (answered e ∙ put_short l n text h) ∙ sym (text_lost text l n h))
      (λ h. not_done x [] (sym (ap (λ (o : Outcome). o.answer) (answered e ∙ put_fits l n text h))))

-- the k digits of x that `io::decimal` gives, and a character behind them
module _ (l : List ℕ) (n k x end : ℕ) (few : k ≤ 20) (fewest : IsDigitCount 10 1 x k) where
  spelt : last_digits 10 k x ≡ decimal_of x
  spelt = fewest_digits 20 k x few fewest

  long : length (number_of end x) ≡ k + 1
  long = snoc_length (decimal_of x) end ∙ ap (λ (t : List ℕ). length t + 1) (sym spelt) ∙ ap (λ (m : ℕ). m + 1) (digits_length 10 k x)

  pub number_put :
      (t l' : List ℕ) {a : Answer} → t ≡ last_digits 10 k x → leb (n + (k + 1)) (length l) ≡ true → outcome a l' ≡ put_of l n t
      → written (n + (k + 1)) (set l' (n + k) end) ≡ put_text (number_of end x) (written n l)
  number_put t l' d f e =
      let h : n + (k + 1) ≤ length l = leb-true (n + (k + 1)) (length l) f in
      let m : length t ≡ k = ap length d ∙ digits_length 10 k x in
      let p : l' ≡ sets l n t = ap (λ (o : Outcome). o.bytes) (e ∙ put_fits l n t (omega arith)) in
      let q : n + (k + 1) ≡ n + length (number_of end x) = omega (arith, long) in
      let g : n + length (number_of end x) ≤ length l = omega (arith, long) in
      ap₂ written q
      (ap₂ (λ (y : List ℕ) (i : ℕ). set y (n + i) end) p (sym m)
      ∙ sets_snoc t l n end
      ∙ ap (λ (y : List ℕ). sets l n (y ++ (end ∷ []))) (d ∙ spelt))
      ∙ sym (text_fits (number_of end x) l n g)

  pub number_lost : leb (n + (k + 1)) (length l) ≡ false → written LOST l ≡ put_text (number_of end x) (written n l)
  number_lost f =
      let h : length l < n + (k + 1) = leb-false (n + (k + 1)) (length l) f in
      sym (text_lost (number_of end x) l n (omega (arith, long)))

-- ---- texts, one behind the other

pub no_texts : (w : Written) → puts [] w ≡ w
unfolding puts
no_texts w = refl

pub one_text : (t : List ℕ) (w : Written) → puts (t ∷ []) w ≡ put_text t w
unfolding puts
one_text t w = refl

pub texts_append : (ss ts : List (List ℕ)) (w : Written) → puts (ss ++ ts) w ≡ puts ts (puts ss w)
unfolding puts
texts_append [] ts w = refl
texts_append (s ∷ ss) ts w = texts_append ss ts (put_text s w)

-- blanks, and behind them the k digits of x that `io::decimal` gives
pub right_put :
    (w : Written) (width k x : ℕ) (t : List ℕ) → k ≤ 20 → IsDigitCount 10 1 x k → t ≡ last_digits 10 k x
    → put_text t (put_text (blanks_of (width - k)) w) ≡ puts (right_of width x) w
unfolding puts
right_put w width k x t few fewest d =
    let spelt = fewest_digits 20 k x few fewest in
    let long : k ≡ length (decimal_of x) = sym (digits_length 10 k x) ∙ ap length spelt in
    ap₂ (λ (y : List ℕ) (m : ℕ). put_text y (put_text (blanks_of (width - m)) w)) (d ∙ spelt) long

-- a number that m hexadecimal digits hold has so many, where they are asked for
pub as_wide : (m k x : ℕ) → 0 < m → x < 16 ^ m → IsDigitCount 16 m x k → k ≡ m
as_wide m k x o h w =
    by_lt m k
    (λ l.
    let low : 16 ^ (k - 1) ≤ x = w.2 l in
    let high : 16 ^ m ≤ 16 ^ (k - 1) = pow-le-pow_right {n = 16} (omega arith) {i = m} {j = k - 1} (omega arith) in
    absurd (omega (arith, low, high, h)))
    (λ l. omega (arith, w.0))

pub hex_digits : (m k x : ℕ) (t : List ℕ) → 0 < m → x < 16 ^ m → IsDigitCount 16 m x k → t ≡ last_digits 16 k x → t ≡ hex_of m x
unfolding hex_of
hex_digits m k x t o h w d = d ∙ ap (λ (j : ℕ). last_digits 16 j x) (as_wide m k x o h w)

-- the last m of more digits
last_of : (b d m n : ℕ) → drop d (last_digits b (d + m) n) ≡ last_digits b m n
last_of b d zero n = drop_of_length-le (last_digits b (d + 0) n) {i = d} (omega (arith, digits_length b (d + 0) n))
last_of b d (suc m) n =
    ap (λ (k : ℕ). drop d (last_digits b k n)) (add-suc d m)
    ∙ drop-append-le d (last_digits b (d + m) (n / b)) (hex_digit_ascii (n % b) ∷ []) (omega (arith, digits_length b (d + m) (n / b)))
    ∙ ap (λ (t : List ℕ). t ++ (hex_digit_ascii (n % b) ∷ [])) (last_of b d m (n / b))

-- the last digits of those that `io::hex` gives, however many they are
pub hex_last :
    (k digits m x : ℕ) (out : List ℕ) → m ≡ min digits 16 → m ≤ k → take k out ≡ last_digits 16 k x
    → take (k - (k - m)) (drop (k - m) out) ≡ hex_of (min digits 16) x
unfolding hex_of
hex_last k digits m x out e few d =
    let there : (k - m) + m ≡ k = omega (arith, few) in
    ap (λ (j : ℕ). take j (drop (k - m) out)) (omega (arith, few))
    ∙ sym (drop-take (k - m) m out)
    ∙ ap (λ (j : ℕ). drop (k - m) (take j out)) there
    ∙ ap (drop (k - m)) (d ∙ ap (λ (j : ℕ). last_digits 16 j x) (sym there))
    ∙ last_of 16 (k - m) m x
    ∙ ap (λ (j : ℕ). last_digits 16 j x) e
