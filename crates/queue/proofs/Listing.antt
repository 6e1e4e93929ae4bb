-- Laws of lists: polls up to a number and after it, all but the last, and lists that name the same IDs as often.
-- Assumes nothing.
use mathlib.Core.Path.{◌≡◌, refl, sym, ap, ◌∙◌, subst}
use mathlib.Core.Logic.{◌≢◌, ◌⊎◌, inl, inr}
use mathlib.Core.Bool.{Bool, true, false, cond, not}
use Prim.Native.Nat.{ℕ, zero, suc, ◌+◌, ◌-◌, ◌≤◌, ◌<◌}
use native.Mathlib.Nat.{le_trans}
use native.Mathlib.Omega.{arith}
use mathlib.Core.List.{List, [], ◌∷◌, ◌++◌}
use lib.ListN.{length, take, drop, length-append, take-append-drop}
use lib.Seq.{take_at, drop_at, take-append-add, take-length}
use lib.Dec.{T, eqb, leb, le→leb, eqb→eq, eqb_refl}
use Rattle.queue.specs.History.{Poll, Item, items, ids, upto, after, but_last, times}
use Rattle.queue.specs.Sentences.{All}
use Rattle.queue.proofs.Model.{Member}

-- by cases on a test, with what it says
pub on_test {ℓ} : (X : Bool → Type ℓ) (b : Bool) → (T b → X true) → (T (not b) → X false) → X b
on_test X true f g = f tt
on_test X false f g = g tt

pub is_true : (b : Bool) → T b → b ≡ true
is_true true t = refl
is_true false t = absurd t

pub eqb_yes : (x : ℕ) → eqb x x ≡ true
eqb_yes x = is_true (eqb x x) (eqb_refl x)

pub eqb_no : (x y : ℕ) → x ≢ y → eqb x y ≡ false
eqb_no x y n = on_test (λ b. (T b → x ≡ y) → b ≡ false) (eqb x y) (λ t f. absurd (n (f tt))) (λ t f. refl) (λ t. eqb→eq x y t)

-- ---- all of a list

pub all_append : {A : Type 0} (P : A → Type 0) (xs ys : List A) → All P xs → All P ys → All P (xs ++ ys)
all_append P [] ys h k = k
all_append P (x ∷ xs) ys h k = (h.0, all_append P xs ys h.1 k)

pub all_left : {A : Type 0} (P : A → Type 0) (xs ys : List A) → All P (xs ++ ys) → All P xs
all_left P [] ys h = tt
all_left P (x ∷ xs) ys h = (h.0, all_left P xs ys h.1)

pub all_right : {A : Type 0} (P : A → Type 0) (xs ys : List A) → All P (xs ++ ys) → All P ys
all_right P [] ys h = h
all_right P (x ∷ xs) ys h = all_right P xs ys h.1

pub all_map : {A : Type 0} (P Q : A → Type 0) → ((x : A) → P x → Q x) → (xs : List A) → All P xs → All Q xs
all_map P Q f [] h = tt
all_map P Q f (x ∷ xs) h = (f x h.0, all_map P Q f xs h.1)

pub all_take : {A : Type 0} (P : A → Type 0) (n : ℕ) (xs : List A) → All P xs → All P (take n xs)
all_take P zero xs h = tt
all_take P (suc n) [] h = tt
all_take P (suc n) (x ∷ xs) h = (h.0, all_take P n xs h.1)

pub all_of : {A : Type 0} (P : A → Type 0) (x : A) (xs : List A) → Member x xs → All P xs → P x
all_of P x [] m h = absurd m
all_of P x (y ∷ xs) (inl e) h = subst P e h.0
all_of P x (y ∷ xs) (inr m) h = all_of P x xs m h.1

pub member_left : {A : Type 0} (x : A) (xs ys : List A) → Member x xs → Member x (xs ++ ys)
member_left x [] ys m = absurd m
member_left x (y ∷ xs) ys (inl e) = inl e
member_left x (y ∷ xs) ys (inr m) = inr (member_left x xs ys m)

pub member_last : {A : Type 0} (x : A) (xs : List A) → Member x (xs ++ (x ∷ []))
member_last x [] = inl refl
member_last x (y ∷ xs) = inr (member_last x xs)

pub member_snoc : {A : Type 0} (x : A) (xs : List A) (y : A) → Member x (xs ++ (y ∷ [])) → Member x xs ⊎ (y ≡ x)
member_snoc x [] y (inl e) = inr e
member_snoc x [] y (inr m) = absurd m
member_snoc x (z ∷ xs) y (inl e) = inl (inl e)
member_snoc x (z ∷ xs) y (inr m) = go (member_snoc x xs y m)
  where
    go : Member x xs ⊎ (y ≡ x) → Member x (z ∷ xs) ⊎ (y ≡ x)
    go (inl k) = inl (inr k)
    go (inr e) = inr e

pub nil_of : {A : Type 0} (l : List A) → length l ≡ 0 → l ≡ []
nil_of [] e = refl
nil_of (x ∷ l) e = absurd (omega arith)

-- ---- polls by their numbers

abbrev pub Under : ℕ → List Poll → Type 0
Under k ps = All (λ (p : Poll). p.no ≤ k) ps

abbrev pub Over : ℕ → List Poll → Type 0
Over k ps = All (λ (p : Poll). k < p.no) ps

-- each number is less than those that come after it
abbrev pub Rising : List Poll → Type 0
Rising [] = Unit
Rising (p ∷ ps) = Over p.no ps × Rising ps

pub under_mono : {a b : ℕ} → a ≤ b → (ps : List Poll) → Under a ps → Under b ps
under_mono {a} {b} l ps h = all_map (λ (p : Poll). p.no ≤ a) (λ (p : Poll). p.no ≤ b) (λ p k. le_trans k l) ps h

pub rising_snoc : (k : ℕ) (ps : List Poll) (p : Poll) → Under k ps → k < p.no → Rising ps → Rising (ps ++ (p ∷ []))
rising_snoc k [] p u l r = (tt, tt)
rising_snoc k (x ∷ ps) p u l r =
    (all_append (λ (z : Poll). x.no < z.no) ps (p ∷ []) r.0 (omega (arith, u.0), tt), rising_snoc k ps p u.1 l r.1)

pub rising_take : (n : ℕ) (ps : List Poll) → Rising ps → Rising (take n ps)
rising_take zero ps r = tt
rising_take (suc n) [] r = tt
rising_take (suc n) (p ∷ ps) r = (all_take (λ (z : Poll). p.no < z.no) n ps r.0, rising_take n ps r.1)

pub items_append : (xs ys : List Poll) → items (xs ++ ys) ≡ items xs ++ items ys
items_append [] ys = refl
items_append (x ∷ xs) ys = ap (λ (l : List Item). x.item ∷ l) (items_append xs ys)

pub ids_append : (xs ys : List Poll) → ids (xs ++ ys) ≡ ids xs ++ ids ys
ids_append [] ys = refl
ids_append (x ∷ xs) ys = ap (λ (l : List ℕ). x.item.id ∷ l) (ids_append xs ys)

pub length_items : (ps : List Poll) → length (items ps) ≡ length ps
length_items [] = refl
length_items (p ∷ ps) = ap suc (length_items ps)

pub length_ids : (ps : List Poll) → length (ids ps) ≡ length ps
length_ids [] = refl
length_ids (p ∷ ps) = ap suc (length_ids ps)

-- what is kept and what is cut off
pub upto_after : (k : ℕ) (ps : List Poll) → upto k ps ++ after k ps ≡ ps
upto_after k [] = refl
upto_after k (p ∷ ps) = go (leb p.no k) (upto_after k ps)
  where
    go : (b : Bool) → upto k ps ++ after k ps ≡ ps → cond b (p ∷ upto k ps) [] ++ cond b (after k ps) (p ∷ ps) ≡ p ∷ ps
    go true e = ap (λ (l : List Poll). p ∷ l) e
    go false e = refl

leb_yes : (a b : ℕ) → a ≤ b → leb a b ≡ true
leb_yes a b h = is_true (leb a b) (le→leb a b h)

pub upto_under : (k : ℕ) (s f : List Poll) → Under k s → upto k (s ++ f) ≡ s ++ upto k f
upto_under k [] f h = refl
upto_under k (p ∷ s) f h = rw (leb_yes p.no k h.0, upto_under k s f h.1)

pub after_under : (k : ℕ) (s f : List Poll) → Under k s → after k (s ++ f) ≡ after k f
after_under k [] f h = refl
after_under k (p ∷ s) f h = rw (leb_yes p.no k h.0) (after_under k s f h.1)

-- ---- all but the last

-- the part that is left and the part that is taken off
pub but_last_rest : {A : Type 0} (n : ℕ) (l : List A) → but_last n l ++ drop (length l - n) l ≡ l
but_last_rest n l = take-append-drop (length l - n) l

pub but_last_append : {A : Type 0} (n : ℕ) (a b : List A) → n ≤ length b → but_last n (a ++ b) ≡ a ++ but_last n b
but_last_append n a b h =
    let e : length (a ++ b) - n ≡ length a + (length b - n) = omega (arith, length-append a b) in
    ap (λ (k : ℕ). take k (a ++ b)) e ∙ take-append-add a b (length b - n)

pub but_last_none : {A : Type 0} (l : List A) → but_last 0 l ≡ l
but_last_none l = let e : length l - 0 ≡ length l = omega arith in ap (λ (k : ℕ). take k l) e ∙ take-length l

pub all_but_last : {A : Type 0} (P : A → Type 0) (n : ℕ) (xs : List A) → All P xs → All P (but_last n xs)
all_but_last P n xs h = all_take P (length xs - n) xs h

-- ---- how often a number stands in a list

pub one : ℕ → ℕ → ℕ
one x y = cond (eqb x y) 1 0

pub times_cons : (y x : ℕ) (xs : List ℕ) → times y (x ∷ xs) ≡ one x y + times y xs
unfolding one
times_cons y x xs = refl

pub one_same : (x : ℕ) → one x x ≡ 1
unfolding one
one_same x = rw (eqb_yes x)

pub one_other : (x y : ℕ) → x ≢ y → one x y ≡ 0
unfolding one
one_other x y n = rw (eqb_no x y n)

pub one_low : (x y : ℕ) → one x y ≤ 1
unfolding one
one_low x y = on_test (λ b. cond {A = ℕ} b 1 0 ≤ 1) (eqb x y) (λ t. omega arith) (λ t. omega arith)

pub times_append : (y : ℕ) (a b : List ℕ) → times y (a ++ b) ≡ times y a + times y b
times_append y [] b = omega arith
times_append y (x ∷ a) b = omega (arith, times_append y a b)

-- one of them taken out
abbrev pub less : ℕ → List ℕ → List ℕ
less x [] = []
less x (y ∷ ys) = cond (eqb y x) ys (y ∷ less x ys)

less_length : (x : ℕ) (ys : List ℕ) → 0 < times x ys → suc (length (less x ys)) ≡ length ys
less_length x [] h = absurd (omega arith)
less_length x (y ∷ ys) h = go (eqb y x) h (λ k. less_length x ys k)
  where
    go : (b : Bool) → 0 < cond b 1 0 + times x ys → (0 < times x ys → suc (length (less x ys)) ≡ length ys)
        → suc (length (cond b ys (y ∷ less x ys))) ≡ suc (length ys)
    go true k f = refl
    go false k f = ap suc (f (omega arith))

pub less_times : (x : ℕ) (ys : List ℕ) (y : ℕ) → 0 < times x ys → one x y + times y (less x ys) ≡ times y ys
less_times x [] y h = absurd (omega arith)
less_times x (z ∷ ys) y h =
    on_test (λ b. (T b → z ≡ x) → 0 < cond b 1 0 + times x ys → one x y + times y (cond b ys (z ∷ less x ys)) ≡ times y (z ∷ ys)) (eqb z x)
    (λ t f k. let e : z ≡ x = f tt in rw (e, times_cons y x ys))
    (λ t f k. let ih : one x y + times y (less x ys) ≡ times y ys = less_times x ys y (omega arith) in omega (arith, ih))
    (λ t. eqb→eq z x t) h

-- two lists that name each number as often are as long
pub same_length : (js ks : List ℕ) → ((y : ℕ) → times y js ≡ times y ks) → length js ≡ length ks
same_length [] [] h = refl
same_length [] (k ∷ ks) h = absurd (omega (arith, h k, times_cons k k ks, one_same k))
same_length (j ∷ js) ks h =
    let some : 0 < times j ks = omega (arith, h j, times_cons j j js, one_same j) in
    let ih : length js ≡ length (less j ks) =
    same_length js (less j ks) (λ y. omega (arith, h y, times_cons y j js, less_times j ks y some)) in
    omega (arith, ih, less_length j ks some)

-- a list that names the IDs of the polls after number k: so many polls are after it, and those are the last
module _ (k : ℕ) (ps : List Poll) (js : List ℕ) (names : (y : ℕ) → times y js ≡ times y (ids (after k ps))) where
  pub named_length : length js ≡ length (after k ps)
  named_length = same_length js (ids (after k ps)) names ∙ length_ids (after k ps)

  cut_at : length (upto k ps) ≡ length ps - length js
  cut_at = omega (arith, named_length, ap length (upto_after k ps), length-append (upto k ps) (after k ps))

  pub named_fit : length js ≤ length ps
  named_fit = omega (arith, named_length, ap length (upto_after k ps), length-append (upto k ps) (after k ps))

  pub but_last_upto : but_last (length js) ps ≡ upto k ps
  but_last_upto =
      ap (λ (l : List Poll). take (length ps - length js) l) (sym (upto_after k ps)) ∙ take_at (upto k ps) (after k ps) (length ps - length js) cut_at

  pub drop_after : drop (length ps - length js) ps ≡ after k ps
  drop_after =
      ap (λ (l : List Poll). drop (length ps - length js) l) (sym (upto_after k ps)) ∙ drop_at (upto k ps) (after k ps) (length ps - length js) cut_at
