-- A rollback's list against the polls that it names: sums, tests and cleared entries go by how often each ID stands in it.
-- Assumes nothing.
use Prim.Native.Nat.{ℕ, ◌+◌, ◌≤◌, ◌<◌}
use mathlib.Core.Path.{◌≡◌, refl, sym, ap, ◌∙◌, subst}
use mathlib.Core.Bool.{true, false, cond}
use mathlib.Core.List.{List, [], ◌∷◌}
use native.Mathlib.Omega.{arith}
use lib.Dec.{eqb}
use lib.ListN.{length, get_or}
use borrow.Author.Tests.{eq-eqb, ne_eqb, lt-leb}
use Rattle.base.proofs.Tests.{by_eq}
use Rattle.undo.specs.Undo.{named, bad_ids, total_of, cleared_of}
use Rattle.undo.proofs.Laws.{named_none, named_cons, bad_none, bad_cons, total_none, total_cons, cleared_other, cleared_named}
use Rattle.queue.specs.History.{Poll, slots_of, items, ids, times}
use Rattle.queue.specs.Sentences.{All}
use Rattle.queue.proofs.Listing.{one, times_cons, one_same, one_other, less, less_times}
use Rattle.packed.proofs.Counts.{Held, of_item, of_items, hit, occ, slots, tot, hit_same, slots_none}

pub occ_times : (y : ℕ) (ps : List Poll) → occ y (of_items (items ps)) ≡ times y (ids ps)
unfolding hit
occ_times y [] = refl
occ_times y (p ∷ ps) = ap (λ (n : ℕ). cond (eqb p.item.id y) 1 0 + n) (occ_times y ps)

-- ---- named

pub named_not : (y : ℕ) (js : List ℕ) → times y js ≡ 0 → named y js ≡ false
named_not y [] e = named_none y
named_not y (x ∷ js) e =
    let t = times_cons y x js in
    named_cons y x js
    ∙ simp (ne_eqb y x (λ r. go r), named_not y js (omega (arith, t, e)))
  where
    go : y ≡ x → ⊥
    go r = omega (arith, times_cons y x js, e, subst (λ (z : ℕ). one z y ≡ 1) r (one_same y))

pub named_is : (y : ℕ) (js : List ℕ) → 0 < times y js → named y js ≡ true
named_is y [] h = absurd (omega arith)
named_is y (x ∷ js) h =
    by_eq y x
    (λ e. named_cons y x js ∙ simp (eq-eqb y x e))
    (λ e. named_cons y x js
    ∙ simp (ne_eqb y x e, named_is y js (omega (arith, times_cons y x js, h, one_other x y (λ r. e (sym r))))))

-- ---- no ID is bad: each is the ring's, has a count, and stands once
pub none_bad :
    (size : ℕ) (t js : List ℕ) → ((y : ℕ) → times y js ≤ 1) → ((y : ℕ) → 0 < times y js → (y < size) × (0 < get_or t y 0)) → bad_ids size t js ≡ false
none_bad size t [] once ok = bad_none size t
none_bad size t (x ∷ js) once ok =
    let s = one_same x in
    let o = ok x (omega (arith, times_cons x x js, s)) in
    bad_cons size t x js
    ∙ simp (
      lt-leb size x o.0,
      ne_eqb (get_or t x 0) 0 (λ z. omega (arith, o.1, z)),
      named_not x js (omega (arith, once x, times_cons x x js, s)),
      none_bad size t js (λ y. omega (arith, once y, times_cons y x js)) (λ y h. ok y (omega (arith, times_cons y x js, h))),
    )

-- ---- sums of lists that name the same

less_total : (t : List ℕ) (x : ℕ) (ks : List ℕ) → 0 < times x ks → total_of t ks ≡ get_or t x 0 + total_of t (less x ks)
less_total t x [] h = absurd (omega arith)
less_total t x (z ∷ ks) h =
    by_eq z x
    (λ e. simp (eq-eqb z x e) (total_cons t z ks ∙ ap (λ (v : ℕ). get_or t v 0 + total_of t ks) e))
    (λ e. simp (ne_eqb z x e)
    (total_cons t z ks
    ∙ ap (λ (m : ℕ). get_or t z 0 + m) (less_total t x ks (omega (arith, h, times_cons x z ks, one_other z x e)))
    ∙ swap (get_or t z 0) (get_or t x 0) (total_of t (less x ks))
    ∙ ap (λ (m : ℕ). get_or t x 0 + m) (sym (total_cons t z (less x ks)))))
  where
    swap : (a b c : ℕ) → a + (b + c) ≡ b + (a + c)
    swap a b c = omega arith

no_times : (ks : List ℕ) → ((y : ℕ) → times y ks ≡ 0) → ks ≡ []
no_times [] h = refl
no_times (x ∷ ks) h = absurd (omega (arith, h x, times_cons x x ks, one_same x))

pub same_total : (t js ks : List ℕ) → ((y : ℕ) → times y js ≡ times y ks) → total_of t js ≡ total_of t ks
same_total t [] ks e = ap (total_of t) (sym (no_times ks (λ y. sym (e y))))
same_total t (x ∷ js) ks e =
    let h : 0 < times x ks = omega (arith, e x, times_cons x x js, one_same x) in
    total_cons t x js
    ∙ ap (λ (m : ℕ). get_or t x 0 + m) (same_total t js (less x ks) (λ y. omega (arith, e y, times_cons y x js, less_times x ks y h)))
    ∙ sym (less_total t x ks h)

-- ---- the sum over polls whose entries are their chains' slots

-- where each ID stands at most once, its entry is its own chain's slots
pub own_slots :
    (other : List Held) (ps : List Poll) → ((y : ℕ) → occ y other + occ y (of_items (items ps)) ≤ 1)
    → All (λ (p : Poll). slots p.item.id other + slots p.item.id (of_items (items ps)) ≡ slots_of p.item.chain) ps
own_slots other [] h = tt
own_slots other (p ∷ ps) h =
    let x = p.item.id in
    let n = slots_of p.item.chain in
    let s = hit_same x 1 in
    let a : slots x other ≡ 0 = slots_none x other (omega (arith, h x, s)) in
    let b : slots x (of_items (items ps)) ≡ 0 = slots_none x (of_items (items ps)) (omega (arith, h x, s)) in (
      omega (arith, a, b, hit_same x n),
      moved ps (own_slots (of_item p.item ∷ other) ps (λ y. omega (arith, h y))),
    )
  where
    moved :
        (qs : List Poll)
        → All (λ (r : Poll). slots r.item.id (of_item p.item ∷ other) + slots r.item.id (of_items (items ps)) ≡ slots_of r.item.chain) qs
        → All (λ (r : Poll). slots r.item.id other + slots r.item.id (of_items (items (p ∷ ps))) ≡ slots_of r.item.chain) qs
    moved [] k = tt
    moved (r ∷ qs) k = (omega (arith, k.0), moved qs k.1)

pub total_polls : (t : List ℕ) (ps : List Poll) → All (λ (p : Poll). get_or t p.item.id 0 ≡ slots_of p.item.chain) ps → total_of t (ids ps) ≡ tot (of_items (items ps))
total_polls t [] h = total_none t
total_polls t (p ∷ ps) h = total_cons t p.item.id (ids ps) ∙ omega (arith, h.0, total_polls t ps h.1)

-- ---- the entries after it
pub cleared_at : (t js : List ℕ) (y : ℕ) → y < length t → ((times y js ≡ 0 → ⊥) → get_or (cleared_of t js) y 0 ≡ 0) × (times y js ≡ 0 → get_or (cleared_of t js) y 0 ≡ get_or t y 0)
cleared_at t js y b = (
  (λ n. cleared_named t js y b (named_is y js (omega (arith, n)))),
  (λ z. cleared_other t js y (named_not y js z)),
)
