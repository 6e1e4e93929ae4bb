-- The refusals' numbers, and the answers that carry them.
-- Assumes nothing.
use Prim.Native.Nat.{ℕ, ◌<◌}
use mathlib.Core.Path.{◌≡◌, refl, sym, ap, ◌∙◌}
use mathlib.Core.List.{List, []}
use mathlib.Core.Bool.{Bool, true, false, cond}
use native.Mathlib.Omega.{arith}
use lib.Dec.{eqb}
use lib.ListN.{get_or}
use borrow.Author.Tests.{lt-ltb, eqb-true, ne_eqb}
use Rattle.base.specs.declared.RingError.{RingError}
use Rattle.base.specs.declared.RingError.TheVariants.{EmptyChain, BadChain, WouldBlock, OutOfMemory, InvalidState, InvalidLayout, BadRecord}
use Rattle.base.specs.declared.RingError.TheVariants.{BadLent, BadRollback}
use Rattle.std.specs.Prelude.{Result, Ok, Err, ⊤}
use Rattle.base.specs.Refusals.{number_of, listed}
use Rattle.base.specs.Answer.{Answer, done, refused, valued, bit, answer_by, answer_of, Outcome, outcome}
use Rattle.base.proofs.Tests.{split}

-- no refusal has number 0, and none is above 9
pub number_low : (e : RingError) → 0 < number_of e
number_low EmptyChain = omega arith
number_low BadChain = omega arith
number_low WouldBlock = omega arith
number_low OutOfMemory = omega arith
number_low InvalidState = omega arith
number_low InvalidLayout = omega arith
number_low BadRecord = omega arith
number_low BadLent = omega arith
number_low BadRollback = omega arith

-- a number of the table is listed as it stands
pub listed_in : (n : ℕ) → 0 < n → n < 9 → listed n ≡ n
unfolding listed
listed_in n l h = simp (lt-ltb 0 n l, lt-ltb n 9 h)

-- the table read the other way
back : ℕ → RingError
back n =
    cond (eqb n 1) EmptyChain
    (cond (eqb n 2) BadChain
    (cond (eqb n 3) WouldBlock
    (cond (eqb n 4) OutOfMemory
    (cond (eqb n 5) InvalidState
    (cond (eqb n 6) InvalidLayout
    (cond (eqb n 7) BadRecord
    (cond (eqb n 8) BadLent BadRollback)))))))

back_number : (e : RingError) → back (number_of e) ≡ e
unfolding back
back_number EmptyChain = refl
back_number BadChain = refl
back_number WouldBlock = refl
back_number OutOfMemory = refl
back_number InvalidState = refl
back_number InvalidLayout = refl
back_number BadRecord = refl
back_number BadLent = refl
back_number BadRollback = refl

-- two refusals of one number are one
pub number_same : (d e : RingError) → number_of d ≡ number_of e → d ≡ e
number_same d e h = sym (back_number d) ∙ ap back h ∙ back_number e

-- what is read off an answer: its number, and its values
abbrev pub number : Answer → ℕ
number a = a.number

abbrev pub value : ℕ → Answer → ℕ
value i a = get_or a.values i 0

-- no refusal is a success, and two refusals of one answer are one
pub not_done : {P : Type 0} (e : RingError) (vs : List ℕ) → done vs ≡ refused (number_of e) → P
not_done e vs h = absurd (omega (arith, ap number h, number_low e))

pub refused_same : (d e : RingError) → refused (number_of d) ≡ refused (number_of e) → d ≡ e
refused_same d e h = number_same d e (ap number h)

-- other values leave an answer its number, and a refusal as it is
pub valued_number : (vs : List ℕ) (a : Answer) → (valued vs a).number ≡ a.number
valued_number vs a =
    split (eqb a.number 0)
    (λ t. simp t (let e = eqb-true a.number 0 t in omega (arith, e)))
    (λ f. simp f)

pub valued_refused : (vs : List ℕ) (e : RingError) → valued vs (refused (number_of e)) ≡ refused (number_of e)
valued_refused vs e = simp (ne_eqb (number_of e) 0 (λ z. omega (arith, number_low e)))

-- a yes or no is known by its value
pub bit_same : (a b : Bool) → bit a ≡ bit b → a ≡ b
bit_same a b h = sym (back_bit a) ∙ ap (λ (n : ℕ). eqb n 1) h ∙ back_bit b
  where
    back_bit : (c : Bool) → eqb (bit c) 1 ≡ c
    back_bit true = refl
    back_bit false = refl

-- an answer is known by its number and values, where what is handed back is known by its values
pub result_same :
    {A : Type 0} (f : A → List ℕ) (known : (x y : A) → f x ≡ f y → x ≡ y) (a b : Result A RingError)
    → answer_by f a ≡ answer_by f b → a ≡ b
result_same f known (Ok x) (Ok y) h = ap Ok (known x y (ap (λ (a : Answer). a.values) h))
result_same f known (Ok x) (Err e) h = not_done e _ h
result_same f known (Err d) (Ok y) h = not_done d _ (sym h)
result_same f known (Err d) (Err e) h = ap Err (refused_same d e h)

pub reply_same : (a b : Result ⊤ RingError) → answer_of a ≡ answer_of b → a ≡ b
reply_same a b h = result_same (λ u. []) (λ x y e. refl) a b h

-- what an answer and the bytes at exit are known by
abbrev pub seen : Result ⊤ RingError × List ℕ → Outcome
seen x = outcome (answer_of x.0) x.1

pub seen_same : (x y : Result ⊤ RingError × List ℕ) → seen x ≡ seen y → x ≡ y
seen_same x y h i =
    (reply_same x.0 y.0 (ap (λ (o : Outcome). o.answer) h) i, ap (λ (o : Outcome). o.bytes) h i)
