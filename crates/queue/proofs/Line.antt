-- A line: what is put in comes out in order, one at each call that counts. Who has k ahead comes out at call k+1. Chains wait so for the
-- consumer's polls, and completions for the producer's.
-- Assumes nothing.
use mathlib.Core.Path.{◌≡◌, sym, ap, ◌∙◌, subst}
use mathlib.Core.Bool.{Bool, true, false, cond}
use Prim.Native.Nat.{ℕ, suc, ◌+◌, ◌≤◌, ◌<◌}
use native.Mathlib.Omega.{arith}
use mathlib.Core.List.{List, [], ◌∷◌, ◌++◌, append_assoc, append-nil, append_cancel_left}
use lib.ListN.{length, get_or, drop, length-append}
use lib.Seq.{drop-cons, drop-length}
use lib.Dec.{T}
use Rattle.queue.specs.Sentences.{counted}

-- what waits is y first
next_is : {A : Type 0} (P L F : List A) (y : A) (l rest : List A) (j : ℕ) → j < length F → P ≡ L ++ (drop j F ++ rest) → P ≡ L ++ (y ∷ l)
    → P ≡ (L ++ (y ∷ [])) ++ (drop (suc j) F ++ rest)
next_is {A} P L F y l rest j h e k =
    let d : drop j F ≡ get_or F j y ∷ drop (suc j) F = drop-cons F j y h in
    let c : get_or F j y ∷ (drop (suc j) F ++ rest) ≡ y ∷ l =
    ap (λ (z : List A). z ++ rest) (sym d) ∙ append_cancel_left L (drop j F ++ rest) (y ∷ l) (sym e ∙ k) in
    let s : get_or F j y ≡ y = cc c in
    e ∙ ap (λ (z : List A). L ++ (z ++ rest)) d ∙ ap (λ (z : A). L ++ (z ∷ (drop (suc j) F ++ rest))) s
    ∙ sym (append_assoc L (y ∷ []) (drop (suc j) F ++ rest))

-- something waits: none is not it
never_empty : {A : Type 0} (P L F : List A) (x : A) (l : List A) → P ≡ L ++ (F ++ (x ∷ l)) → P ≡ L → ⊥
never_empty P L F x l e k =
    let n : length P ≡ length L + (length F + suc (length l)) =
    ap length e ∙ length-append L (F ++ (x ∷ l)) ∙ ap (λ (m : ℕ). length L + m) (length-append F (x ∷ l)) in
    omega (arith, ap length k)

-- which events count, which of them gives an x, and what was put in and what came out, THE LATEST EVENT FIRST
module _ {A E : Type 0} (counts : E → Bool) (gives : A → E) (put came : List E → List A) where
  -- what an event does: it counts and gives the first that waits; it counts, and none waits; or it does not count, and may put some in
  pub data Moves (h : List E) (e : E) : Type 0 where
    given : (x : A) (later : List A) → counts e ≡ true → e ≡ gives x → put h ≡ came h ++ (x ∷ later) → put (e ∷ h) ≡ put h
        → came (e ∷ h) ≡ came h ++ (x ∷ []) → Moves h e
    none : counts e ≡ true → put h ≡ came h → Moves h e
    other : (more : List A) → counts e ≡ false → put (e ∷ h) ≡ put h ++ more → came (e ∷ h) ≡ came h → Moves h e

  -- each event of g does so, after h
  abbrev pub AllMove : List E → List E → Type 0
  AllMove h [] = Unit
  AllMove h (e ∷ g) = AllMove h g × Moves (g ++ h) e

  -- x waits after h, after those in front
  module _ (h : List E) (front later : List A) (x : A) (waits : put h ≡ came h ++ (front ++ (x ∷ later))) where
    -- after g, when the first j of those in front have come out
    abbrev Left : List E → ℕ → Type 0
    Left g j = (more : List A) × (put (g ++ h) ≡ came (g ++ h) ++ (drop j front ++ (x ∷ (later ++ more))))

    step : (g : List E) (e : E) (n : ℕ) → Moves (g ++ h) e → (n ≤ length front → Left g n) → cond (counts e) (suc n) n ≤ length front
        → Left (e ∷ g) (cond (counts e) (suc n) n)
    step g e n (given y l c is w a b) left m =
        let m' : suc n ≤ length front = subst (λ (t : Bool). cond t (suc n) n ≤ length front) c m in
        let k : Left g n = left (omega arith) in
        subst (λ (t : Bool). Left (e ∷ g) (cond t (suc n) n)) (sym c)
        (k.0, a ∙ next_is (put (g ++ h)) (came (g ++ h)) front y l (x ∷ (later ++ k.0)) n m' k.1 w ∙ ap (λ (z : List A). z ++ (drop (suc n) front ++ (x ∷ (later ++ k.0)))) (sym b))
    step g e n (none c w) left m =
        let m' : suc n ≤ length front = subst (λ (t : Bool). cond t (suc n) n ≤ length front) c m in
        let k : Left g n = left (omega arith) in
        absurd (never_empty (put (g ++ h)) (came (g ++ h)) (drop n front) x (later ++ k.0) k.1 w)
    step g e n (other more c a b) left m =
        let k : Left g n = left (subst (λ (t : Bool). cond t (suc n) n ≤ length front) c m) in
        let r : put (g ++ h) ++ more ≡ came (g ++ h) ++ (drop n front ++ (x ∷ (later ++ (k.0 ++ more)))) = ap (λ (z : List A). z ++ more) k.1 ∙ simp append_assoc in
        subst (λ (t : Bool). Left (e ∷ g) (cond t (suc n) n)) (sym c)
        (k.0 ++ more, a ∙ r ∙ ap (λ (z : List A). z ++ (drop n front ++ (x ∷ (later ++ (k.0 ++ more))))) (sym b))

    walk_on : (g : List E) → AllMove h g → counted counts g ≤ length front → Left g (counted counts g)
    walk_on [] m b = ([], waits ∙ ap (λ (z : List A). came h ++ (front ++ (x ∷ z))) (sym (append-nil later)))
    walk_on (e ∷ g) m b = step g e (counted counts g) m.1 (λ k. walk_on g m.0 k) b

    last : (g : List E) (e : E) → Left g (length front) → Moves (g ++ h) e → T (counts e) → e ≡ gives x
    last g e left m t = go m
      where
        tail_is : put (g ++ h) ≡ came (g ++ h) ++ (x ∷ (later ++ left.0))
        tail_is = left.1 ∙ ap (λ (z : List A). came (g ++ h) ++ (z ++ (x ∷ (later ++ left.0)))) (drop-length front)

        go : Moves (g ++ h) e → e ≡ gives x
        go (given y l c is w a b) =
            let z : y ∷ l ≡ x ∷ (later ++ left.0) = append_cancel_left (came (g ++ h)) (y ∷ l) (x ∷ (later ++ left.0)) (sym w ∙ tail_is) in
            is ∙ ap gives (cc z)
        go (none c w) = absurd (never_empty (put (g ++ h)) (came (g ++ h)) [] x (later ++ left.0) tail_is w)
        go (other more c a b) = absurd (subst T c t)

    -- g follows, in which as many calls count as there are in front; the next that counts gives x
    pub in_line : (g : List E) (e : E) → AllMove h (e ∷ g) → counted counts g ≡ length front → T (counts e) → e ≡ gives x
    in_line g e m n t = last g e (rw n at (walk_on g m.0 (omega arith))) m.1 t
