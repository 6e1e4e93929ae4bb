-- IDs and counts, pointwise: how often an ID stands in a list, and the slots that stand under it. All laws are linear, so omega does the rest.
-- Assumes nothing.
use Prim.Native.Nat.{ℕ, zero, suc, ◌+◌, ◌≤◌, ◌<◌}
use mathlib.Core.Path.{◌≡◌, refl, sym, ap, ap₂, ◌∙◌, subst}
use mathlib.Core.Logic.{◌≢◌, inl, inr}
use mathlib.Core.Bool.{Bool, true, false, cond, not}
use mathlib.Core.List.{List, [], ◌∷◌, ◌++◌}
use native.Mathlib.Omega.{arith}
use native.Mathlib.Nat.{add-zero}
use native.Mathlib.Decide.{ℕ_discrete}
use lib.ListN.{length, get_or, set, take, length-set}
use lib.Seq.{get_or-set_same, get_or-set_other, take-suc, take-set-le}
use lib.Dec.{T, ltb, eqb, eqb_refl, eqb→eq, ltb→lt, lt→ltb, T_not}
use Rattle.queue.specs.History.{Item, Poll, Done, slots_of, slots_in, items, without, without_item}
use Rattle.queue.specs.Promise.{Has, Unlike}
use Rattle.queue.specs.Sentences.{All}
use Rattle.queue.proofs.Listing.{on_test}
use Rattle.base.proofs.Tests.{by_lt}
use Rattle.ring.specs.Tables.{up_from}
use Rattle.ring.proofs.Laws.{up_none, up_more}

-- an ID and how many slots it holds
pub record Held : Type 0 where
  pub id : ℕ
  pub n : ℕ

-- a completed chain that the producer has not got back: its completion, and the slots that it moved over
pub record Used : Type 0 where
  pub done : Done
  pub n : ℕ

abbrev pub of_item : Item → Held
of_item x = record { id = x.id; n = slots_of x.chain }

abbrev pub of_items : List Item → List Held
of_items [] = []
of_items (x ∷ xs) = of_item x ∷ of_items xs

abbrev pub of_used : List Used → List Held
of_used [] = []
of_used (u ∷ us) = record { id = u.done.id; n = u.n } ∷ of_used us

abbrev pub dones : List Used → List Done
dones [] = []
dones (u ∷ us) = u.done ∷ dones us

unfoldable pub hit : ℕ → ℕ → ℕ → ℕ
hit x y n = cond (eqb x y) n 0

abbrev pub occ_s : ℕ → List ℕ → ℕ
occ_s y [] = 0
occ_s y (x ∷ xs) = hit x y 1 + occ_s y xs

abbrev pub occ : ℕ → List Held → ℕ
occ y [] = 0
occ y (h ∷ hs) = hit h.id y 1 + occ y hs

abbrev pub slots : ℕ → List Held → ℕ
slots y [] = 0
slots y (h ∷ hs) = hit h.id y h.n + slots y hs

abbrev pub tot : List Held → ℕ
tot [] = 0
tot (h ∷ hs) = h.n + tot hs

abbrev pub Pos : List Held → Type 0
Pos hs = All (λ (h : Held). 0 < h.n) hs

pub hit_same : (x n : ℕ) → hit x x n ≡ n
unfolding hit
hit_same x n = go (eqb x x) (eqb_refl x)
  where
    go : (b : Bool) → T b → cond b n 0 ≡ n
    go true t = refl
    go false t = absurd t

pub hit_other : (x y n : ℕ) → x ≢ y → hit x y n ≡ 0
unfolding hit
hit_other x y n h = on_test (λ b. (T b → x ≡ y) → cond b n 0 ≡ 0) (eqb x y) (λ t f. absurd (h (f tt))) (λ t f. refl) (λ t. eqb→eq x y t)

-- if one misses, so does the other
pub hit_zero : (x y n : ℕ) → hit x y 1 ≡ 0 → hit x y n ≡ 0
hit_zero x y n h = go (ℕ_discrete x y)
  where
    go : Dec (x ≡ y) → hit x y n ≡ 0
    go (yes e) = let k : hit x y 1 ≡ 1 = rw (← e) (hit_same x 1) in absurd (omega arith)
    go (no e) = hit_other x y n e

pub dones_append : (a b : List Used) → dones (a ++ b) ≡ dones a ++ dones b
dones_append [] b = refl
dones_append (x ∷ a) b = ap (λ (l : List Done). x.done ∷ l) (dones_append a b)

pub slots_none : (y : ℕ) (hs : List Held) → occ y hs ≡ 0 → slots y hs ≡ 0
slots_none y [] e = refl
slots_none y (h ∷ hs) e = omega (arith, hit_zero h.id y h.n (omega arith), slots_none y hs (omega arith))

-- an ID that holds slots stands in the list
pub occ_some : (y : ℕ) (hs : List Held) → 0 < slots y hs → 0 < occ y hs
occ_some y hs l = go (occ y hs) refl
  where
    go : (k : ℕ) → occ y hs ≡ k → 0 < k
    go zero e = absurd (omega (arith, slots_none y hs e))
    go (suc k) e = omega arith

-- ---- tables

pub at_set : (l : List ℕ) (x n y : ℕ) → x < length l → get_or l x 0 ≡ 0 → get_or (set l x n) y 0 ≡ get_or l y 0 + hit x y n
at_set l x n y h z = go (ℕ_discrete x y)
  where
    go : Dec (x ≡ y) → get_or (set l x n) y 0 ≡ get_or l y 0 + hit x y n
    go (yes e) = rw (← e) (rw (get_or-set_same l x n 0 h, hit_same x n, z) (omega arith))
    go (no e) = rw (get_or-set_other l x y n 0 (λ k. e (sym k)), hit_other x y n e) (omega arith)

pub at_clear : (l : List ℕ) (x y : ℕ) → x < length l → get_or (set l x 0) y 0 + hit x y (get_or l x 0) ≡ get_or l y 0
at_clear l x y h = go (ℕ_discrete x y)
  where
    go : Dec (x ≡ y) → get_or (set l x 0) y 0 + hit x y (get_or l x 0) ≡ get_or l y 0
    go (yes e) = rw (← e) (rw (get_or-set_same l x 0 0 h, hit_same x (get_or l x 0)) (omega arith))
    go (no e) = rw (get_or-set_other l x y 0 0 (λ k. e (sym k)), hit_other x y (get_or l x 0) e) (omega arith)

is_true : (b : Bool) → T b → b ≡ true
is_true true t = refl
is_true false t = absurd t

-- 1 for an ID below the size, else 0
unfoldable pub one : ℕ → ℕ → ℕ
one size y = cond (ltb y size) 1 0

pub one_le : (size y : ℕ) → one size y ≤ 1
unfolding one
one_le size y = on_test (λ b. cond b 1 0 ≤ 1) (ltb y size) (λ t. omega arith) (λ t. omega arith)

pub one_yes : (size y : ℕ) → y < size → one size y ≡ 1
unfolding one
one_yes size y h = rw (is_true (ltb y size) (lt→ltb y size h))

pub one_no : (size y : ℕ) → size ≤ y → one size y ≡ 0
unfolding one
one_no size y h = on_test (λ b. (T b → y < size) → cond {A = ℕ} b 1 0 ≡ 0) (ltb y size) (λ t f. let k : y < size = f tt in absurd (omega arith)) (λ t f. refl) (λ t. ltb→lt y size t)

pub one_low : (size y : ℕ) → 0 < one size y → y < size
unfolding one
one_low size y = on_test (λ b. (T b → y < size) → 0 < cond b 1 0 → y < size) (ltb y size) (λ t f h. f tt) (λ t f (h : 0 < 0). absurd (omega arith)) (λ t. ltb→lt y size t)

-- ---- taking one out

pub record Out1 (x : ℕ) (ps rest : List Poll) : Type 0 where
  pub n : ℕ
  pub tot_is : tot (of_items (items ps)) ≡ tot (of_items (items rest)) + n
  pub occ_is : (y : ℕ) → occ y (of_items (items ps)) ≡ occ y (of_items (items rest)) + hit x y 1
  pub slots_is : (y : ℕ) → slots y (of_items (items ps)) ≡ slots y (of_items (items rest)) + hit x y n
  pub pos_is : Pos (of_items (items ps)) → Pos (of_items (items rest))

pub take_out : (x : ℕ) (ps : List Poll) → 0 < occ x (of_items (items ps)) → Out1 x ps (without x ps)
take_out x [] l = absurd (omega arith)
take_out x (p ∷ ps) l = go (λ k. take_out x ps k)
  where
    go : (0 < occ x (of_items (items ps)) → Out1 x ps (without x ps)) → Out1 x (p ∷ ps) (without x (p ∷ ps))
    go ih = on_test (λ b. (T b → p.item.id ≡ x) → (T (not b) → hit p.item.id x 1 ≡ 0) → Out1 x (p ∷ ps) (cond b ps (p ∷ without x ps))) (eqb p.item.id x)
        (λ t f g.
        let e : p.item.id ≡ x = f tt in
        record {
          n = slots_of p.item.chain;
          tot_is = omega arith;
          occ_is = λ y. rw e (omega arith);
          slots_is = λ y. rw e (omega arith);
          pos_is = λ k. k.1;
        })
        (λ t f g.
        let z : hit p.item.id x 1 ≡ 0 = g tt in
        let r : Out1 x ps (without x ps) = ih (omega arith) in
        record {
          n = r.n;
          tot_is = omega (arith, r.tot_is);
          occ_is = λ y. omega (arith, r.occ_is y);
          slots_is = λ y. omega (arith, r.slots_is y);
          pos_is = λ k. (k.0, r.pos_is k.1);
        })
        (λ t. eqb→eq p.item.id x t) (λ t. hit_other p.item.id x 1 (λ e. no_eqb p.item.id x t e))
      where
        no_eqb : (a b : ℕ) → T (not (eqb a b)) → a ≡ b → ⊥
        no_eqb a b t e = T_not (eqb a b) t (subst (λ (k : ℕ). T (eqb a k)) e (eqb_refl a))

-- ---- one more at the end
pub tot_poll : (ps : List Poll) (p : Poll) → tot (of_items (items (ps ++ (p ∷ [])))) ≡ tot (of_items (items ps)) + slots_of p.item.chain
tot_poll [] p = omega arith
tot_poll (x ∷ ps) p = omega (arith, tot_poll ps p)

pub occ_poll : (y : ℕ) (ps : List Poll) (p : Poll) → occ y (of_items (items (ps ++ (p ∷ [])))) ≡ occ y (of_items (items ps)) + hit p.item.id y 1
occ_poll y [] p = omega arith
occ_poll y (x ∷ ps) p = omega (arith, occ_poll y ps p)

pub slots_poll : (y : ℕ) (ps : List Poll) (p : Poll) → slots y (of_items (items (ps ++ (p ∷ [])))) ≡ slots y (of_items (items ps)) + hit p.item.id y (slots_of p.item.chain)
slots_poll y [] p = omega arith
slots_poll y (x ∷ ps) p = omega (arith, slots_poll y ps p)

pub tot_item : (xs : List Item) (x : Item) → tot (of_items (xs ++ (x ∷ []))) ≡ tot (of_items xs) + slots_of x.chain
tot_item [] x = omega arith
tot_item (a ∷ xs) x = omega (arith, tot_item xs x)

pub occ_item : (y : ℕ) (xs : List Item) (x : Item) → occ y (of_items (xs ++ (x ∷ []))) ≡ occ y (of_items xs) + hit x.id y 1
occ_item y [] x = omega arith
occ_item y (a ∷ xs) x = omega (arith, occ_item y xs x)

pub slots_item : (y : ℕ) (xs : List Item) (x : Item) → slots y (of_items (xs ++ (x ∷ []))) ≡ slots y (of_items xs) + hit x.id y (slots_of x.chain)
slots_item y [] x = omega arith
slots_item y (a ∷ xs) x = omega (arith, slots_item y xs x)

pub tot_used : (us : List Used) (u : Used) → tot (of_used (us ++ (u ∷ []))) ≡ tot (of_used us) + u.n
tot_used [] u = omega arith
tot_used (a ∷ us) u = omega (arith, tot_used us u)

pub occ_used : (y : ℕ) (us : List Used) (u : Used) → occ y (of_used (us ++ (u ∷ []))) ≡ occ y (of_used us) + hit u.done.id y 1
occ_used y [] u = omega arith
occ_used y (a ∷ us) u = omega (arith, occ_used y us u)

pub slots_used : (y : ℕ) (us : List Used) (u : Used) → slots y (of_used (us ++ (u ∷ []))) ≡ slots y (of_used us) + hit u.done.id y u.n
slots_used y [] u = omega arith
slots_used y (a ∷ us) u = omega (arith, slots_used y us u)

-- ---- two lists one after the other
pub both_tot : (ps qs : List Poll) → tot (of_items (items (ps ++ qs))) ≡ tot (of_items (items ps)) + tot (of_items (items qs))
both_tot [] qs = omega arith
both_tot (p ∷ ps) qs = omega (arith, both_tot ps qs)

pub both_occ : (y : ℕ) (ps qs : List Poll) → occ y (of_items (items (ps ++ qs))) ≡ occ y (of_items (items ps)) + occ y (of_items (items qs))
both_occ y [] qs = omega arith
both_occ y (p ∷ ps) qs = omega (arith, both_occ y ps qs)

pub both_slots : (y : ℕ) (ps qs : List Poll) → slots y (of_items (items (ps ++ qs))) ≡ slots y (of_items (items ps)) + slots y (of_items (items qs))
both_slots y [] qs = omega arith
both_slots y (p ∷ ps) qs = omega (arith, both_slots y ps qs)

pub both_pos : (ps qs : List Poll) → Pos (of_items (items ps)) → Pos (of_items (items qs)) → Pos (of_items (items (ps ++ qs)))
both_pos [] qs a b = b
both_pos (p ∷ ps) qs a b = (a.0, both_pos ps qs a.1 b)

pub items_tot : (xs ys : List Item) → tot (of_items (xs ++ ys)) ≡ tot (of_items xs) + tot (of_items ys)
items_tot [] ys = omega arith
items_tot (x ∷ xs) ys = omega (arith, items_tot xs ys)

pub items_occ : (y : ℕ) (xs ys : List Item) → occ y (of_items (xs ++ ys)) ≡ occ y (of_items xs) + occ y (of_items ys)
items_occ y [] ys = omega arith
items_occ y (x ∷ xs) ys = omega (arith, items_occ y xs ys)

pub items_slots : (y : ℕ) (xs ys : List Item) → slots y (of_items (xs ++ ys)) ≡ slots y (of_items xs) + slots y (of_items ys)
items_slots y [] ys = omega arith
items_slots y (x ∷ xs) ys = omega (arith, items_slots y xs ys)

pub used_pos : (us : List Used) (u : Used) → Pos (of_used us) → 0 < u.n → Pos (of_used (us ++ (u ∷ [])))
used_pos [] u a b = (b, tt)
used_pos (v ∷ us) u a b = (a.0, used_pos us u a.1 b)

-- an ID that stands in the list
pub has_of_occ : (x : ℕ) (ps : List Poll) → 0 < occ x (of_items (items ps)) → Has x ps
has_of_occ x [] l = absurd (omega arith)
has_of_occ x (p ∷ ps) l = go (ℕ_discrete p.item.id x) (λ k. has_of_occ x ps k)
  where
    go : Dec (p.item.id ≡ x) → (0 < occ x (of_items (items ps)) → Has x ps) → Has x (p ∷ ps)
    go (yes e) f = inl e
    go (no e) f = inr (f (omega (arith, hit_other p.item.id x 1 e)))

-- an ID that does not stand in the list
pub unlike_of_occ : (x : ℕ) (xs : List Item) → occ x (of_items xs) ≡ 0 → Unlike x xs
unlike_of_occ x [] e = tt
unlike_of_occ x (y ∷ ys) e = ((λ k. apart k), unlike_of_occ x ys (omega arith))
  where
    apart : y.id ≡ x → ⊥
    apart k = let z : hit y.id x 1 ≡ 1 = rw (← k) (hit_same y.id 1) in omega (arith, e)

-- ---- the chains that are out

pub slots_tot : (xs : List Item) → slots_in xs ≡ tot (of_items xs)
slots_tot [] = refl
slots_tot (x ∷ xs) = ap (λ (n : ℕ). slots_of x.chain + n) (slots_tot xs)

pub pos_len : (xs : List Item) → Pos (of_items xs) → length xs ≤ tot (of_items xs)
pos_len [] h = omega arith
pos_len (x ∷ xs) h = omega (arith, h.0, pos_len xs h.1)

pub pos_snoc : (xs : List Item) (x : Item) → Pos (of_items xs) → 0 < slots_of x.chain → Pos (of_items (xs ++ (x ∷ [])))
pos_snoc [] x h k = (k, tt)
pos_snoc (y ∷ ys) x h k = (h.0, pos_snoc ys x h.1 k)

-- one ID taken out of them
pub record OutItem (x : ℕ) (xs rest : List Item) : Type 0 where
  pub n : ℕ
  pub len_is : length xs ≡ length rest + 1
  pub tot_is : tot (of_items xs) ≡ tot (of_items rest) + n
  pub occ_is : (y : ℕ) → occ y (of_items xs) ≡ occ y (of_items rest) + hit x y 1
  pub slots_is : (y : ℕ) → slots y (of_items xs) ≡ slots y (of_items rest) + hit x y n
  pub pos_is : Pos (of_items xs) → Pos (of_items rest)

pub item_out : (x : ℕ) (xs : List Item) → 0 < occ x (of_items xs) → OutItem x xs (without_item x xs)
item_out x [] l = absurd (omega arith)
item_out x (i ∷ is) l = go (λ k. item_out x is k)
  where
    go : (0 < occ x (of_items is) → OutItem x is (without_item x is)) → OutItem x (i ∷ is) (without_item x (i ∷ is))
    go ih =
        on_test (λ b. (T b → i.id ≡ x) → (T (not b) → hit i.id x 1 ≡ 0) → OutItem x (i ∷ is) (cond b is (i ∷ without_item x is))) (eqb i.id x)
        (λ t f g.
        let e : i.id ≡ x = f tt in
        record {
          n = slots_of i.chain;
          len_is = omega arith;
          tot_is = omega arith;
          occ_is = λ y. rw e (omega arith);
          slots_is = λ y. rw e (omega arith);
          pos_is = λ k. k.1;
        })
        (λ t f g.
        let z : hit i.id x 1 ≡ 0 = g tt in
        let r : OutItem x is (without_item x is) = ih (omega arith) in
        record {
          n = r.n;
          len_is = omega (arith, r.len_is);
          tot_is = omega (arith, r.tot_is);
          occ_is = λ y. omega (arith, r.occ_is y);
          slots_is = λ y. omega (arith, r.slots_is y);
          pos_is = λ k. (k.0, r.pos_is k.1);
        })
        (λ t. eqb→eq i.id x t) (λ t. hit_other i.id x 1 (λ e. no_eqb i.id x t e))
      where
        no_eqb : (a b : ℕ) → T (not (eqb a b)) → a ≡ b → ⊥
        no_eqb a b t e = T_not (eqb a b) t (subst (λ (k : ℕ). T (eqb a k)) e (eqb_refl a))

-- ---- the stack of free IDs: the first entries of a table

pub occ_snoc : (y : ℕ) (xs : List ℕ) (x : ℕ) → occ_s y (xs ++ (x ∷ [])) ≡ occ_s y xs + hit x y 1
occ_snoc y [] x = omega arith
occ_snoc y (z ∷ xs) x = omega (arith, occ_snoc y xs x)

pub occ_top : (y : ℕ) (l : List ℕ) (k : ℕ) → k < length l → occ_s y (take (suc k) l) ≡ occ_s y (take k l) + hit (get_or l k 0) y 1
occ_top y l k h = ap (occ_s y) (take-suc l k 0 h) ∙ occ_snoc y (take k l) (get_or l k 0)

pub occ_push : (y : ℕ) (l : List ℕ) (k x : ℕ) → k < length l → occ_s y (take (suc k) (set l k x)) ≡ occ_s y (take k l) + hit x y 1
occ_push y l k x h =
    occ_top y (set l k x) k (omega (arith, length-set l k x))
    ∙ ap₂ (λ (a : List ℕ) (b : ℕ). occ_s y a + hit b y 1) (take-set-le k l k x (omega arith)) (get_or-set_same l k x 0 h)

-- 0 upward holds each ID below the size once
pub occ_up : (y i k : ℕ) → occ_s y (up_from i k) + one i y ≡ one (i + k) y
occ_up y i zero =
    ap (λ (l : List ℕ). occ_s y l + one i y) (up_none i)
    ∙ (let e : 0 + one i y ≡ one i y = omega arith in e)
    ∙ ap (λ (m : ℕ). one m y) (sym (add-zero i))
occ_up y i (suc k) =
    ap (λ (l : List ℕ). occ_s y l + one i y) (up_more i k)
    ∙ go (ℕ_discrete i y) (occ_up y (suc i) k ∙ ap (λ (m : ℕ). one m y) (omega arith))
  where
    past : i ≤ y → i ≢ y → suc i ≤ y
    past l m = by_lt i y (λ q. omega arith) (λ q. absurd (m (omega arith)))

    same : i ≢ y → one (suc i) y ≡ one i y
    same n =
        by_lt y i
        (λ l. one_yes (suc i) y (omega arith) ∙ sym (one_yes i y l))
        (λ l. one_no (suc i) y (past l n) ∙ sym (one_no i y l))

    go : Dec (i ≡ y) → occ_s y (up_from (suc i) k) + one (suc i) y ≡ one (i + suc k) y → (hit i y 1 + occ_s y (up_from (suc i) k)) + one i y ≡ one (i + suc k) y
    go (yes e) ih =
        let a : hit i y 1 ≡ 1 = rw (← e) (hit_same i 1) in
        omega (arith, ih, one_yes (suc i) y (omega arith), one_no i y (omega arith))
    go (no e) ih = omega (arith, ih, hit_other i y 1 e, same e)
