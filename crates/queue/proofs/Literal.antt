-- The sentence word for word, by numbers of publications: a poll is of the oldest one whose polls, if any, were all rolled back.
-- Assumes nothing.
use mathlib.Core.Path.{◌≡◌, refl, sym, ap, ◌∙◌}
use mathlib.Core.Logic.{◌≢◌}
use mathlib.Core.Bool.{Bool, true, false, ◌||◌}
use Prim.Native.Nat.{ℕ, zero, suc, ◌-◌, ◌≤◌, ◌<◌}
use native.Mathlib.Omega.{arith}
use native.Mathlib.Decide.{ℕ_discrete, dec_le}
use mathlib.Core.List.{List, [], ◌∷◌, ◌++◌}
use lib.ListN.{length, take, length-append}
use lib.Seq.{take-append-le, take_all, length-take-le}
use lib.Dec.{eqb}
use Rattle.queue.specs.History.{Item, History, Poll, items, but_last, times, pubs, polls, standing}
use Rattle.queue.specs.History.{submitted, polled, completed, reclaimed, marked, rolled, unchanged}
use Rattle.queue.specs.Promise.{Unlike, Rules}
use Rattle.queue.specs.Sentences.{At, hasb, latest, sources, Stands, Oldest, NoneWaits}
use Rattle.queue.proofs.Model.{model, Ok, AllOk}
use Rattle.queue.proofs.Listing.{eqb_yes, eqb_no, length_items, one, one_same, one_other, times_cons, times_append}
use Rattle.queue.proofs.Trace.{link}
use Rattle.queue.proofs.Kept.{ids_of, tally_append, times_unlike, Kept, kept}
use Rattle.queue.proofs.Reader.{at_seam}

-- ---- the first n numbers

abbrev up_to : ℕ → List ℕ
up_to zero = []
up_to (suc n) = up_to n ++ (n ∷ [])

length_up_to : (n : ℕ) → length (up_to n) ≡ n
length_up_to zero = refl
length_up_to (suc n) = length-append (up_to n) (n ∷ []) ∙ omega (arith, length_up_to n)

take_up_to : (n m : ℕ) → m ≤ n → take m (up_to n) ≡ up_to m
take_up_to zero zero l = refl
take_up_to zero (suc m) l = absurd (omega arith)
take_up_to (suc n) m l = go (dec_le m n) (λ k. take_up_to n m k)
  where
    go : Dec (m ≤ n) → (m ≤ n → take m (up_to n) ≡ up_to m) → take m (up_to n ++ (n ∷ [])) ≡ up_to m
    go (yes k) f = take-append-le m (up_to n) (n ∷ []) (omega (arith, length_up_to n)) ∙ f k
    go (no k) f = let e : m ≡ suc n = omega arith in rw e (take_all (suc n) (up_to (suc n)) (omega (arith, length_up_to (suc n))))

up_to_none : (n y : ℕ) → n ≤ y → times y (up_to n) ≡ 0
up_to_none zero y l = refl
up_to_none (suc n) y l =
    let a : n ≢ y = λ e. omega arith in
    omega (arith, times_append y (up_to n) (n ∷ []), times_cons y n [], one_other n y a, up_to_none n y (omega arith))

up_to_some : (n y : ℕ) → y < n → 0 < times y (up_to n)
up_to_some zero y l = absurd (omega arith)
up_to_some (suc n) y l = go (ℕ_discrete n y) (λ k. up_to_some n y k)
  where
    go : Dec (n ≡ y) → (y < n → 0 < times y (up_to n)) → 0 < times y (up_to n ++ (n ∷ []))
    go (yes e) f = let s : one n y ≡ 1 = rw e (one_same y) in omega (arith, times_append y (up_to n) (n ∷ []), times_cons y n [])
    go (no e) f = omega (arith, times_append y (up_to n) (n ∷ []), f (omega arith))

-- ---- the latest of an ID

hasb_no : (x : ℕ) (ys : List Item) → Unlike x ys → hasb x ys ≡ false
hasb_no x [] u = refl
hasb_no x (y ∷ ys) u = rw (eqb_no y.id x u.0, hasb_no x ys u.1)

hasb_yes : (xs : List Item) (y : Item) (ys : List Item) → hasb y.id (xs ++ (y ∷ ys)) ≡ true
hasb_yes [] y ys = rw (eqb_yes y.id)
hasb_yes (x ∷ xs) y ys = rw (hasb_yes xs y ys) (or_true (eqb x.id y.id))
  where
    or_true : (b : Bool) → (b || true) ≡ true
    or_true true = refl
    or_true false = refl

latest_is : (xs : List Item) (y : Item) (ys : List Item) → Unlike y.id ys → latest y.id (xs ++ (y ∷ ys)) ≡ length xs
latest_is [] y ys u = rw (hasb_no y.id ys u)
latest_is (x ∷ xs) y ys u = rw (hasb_yes xs y ys) (ap suc (latest_is xs y ys u))

module _ {C : Type 0} where
  -- the chain that waits first is of the publication after those that the standing polls are of
  module _ (rules : Rules C) (h : History C) (ok : AllOk rules h) (x : Item) (later : List Item) (first : (model h).waiting ≡ x ∷ later) where
    whole : pubs h ≡ items (standing h) ++ (x ∷ later)
    whole = (link rules h ok).published ∙ ap (λ (w : List Item). items (standing h) ++ w) first

    alone : Unlike x.id later
    alone =
        let k : Kept h (model h) = kept rules h ok in
        times_unlike x.id later
        (omega (
          arith,
          k.apart x.id,
          k.whole x.id,
          tally_append x.id (items k.pending) (items ((model h).old ++ (model h).fresh) ++ (model h).waiting),
          tally_append x.id (items ((model h).old ++ (model h).fresh)) (model h).waiting,
          ap (λ (w : List Item). times x.id (ids_of w)) first,
          times_cons x.id x.id (ids_of later),
          one_same x.id,
        ))

    source_is : latest x.id (pubs h) ≡ length (standing h)
    source_is = ap (latest x.id) whole ∙ latest_is (items (standing h)) x later alone ∙ length_items (standing h)

    source_at : At (pubs h) (latest x.id (pubs h)) x
    source_at = rw (source_is, ← length_items (standing h), whole) (at_seam (items (standing h)) x later)

  -- the standing polls are of the first publications, in order and each once
  sources_are : (rules : Rules C) (h : History C) → AllOk rules h → sources h ≡ up_to (length (standing h))
  unfolding sources standing
  sources_are rules [] o = refl
  sources_are rules (submitted x ∷ h) o = sources_are rules h o.0
  sources_are rules (polled x ∷ h) o =
      let p : Poll = record { no = suc (polls h); item = x } in
      let more : suc (length (standing h)) ≡ length (standing h ++ (p ∷ [])) = omega (arith, length-append (standing h) (p ∷ [])) in
      ap (λ (z : List ℕ). z ++ (latest x.id (pubs h) ∷ [])) (sources_are rules h o.0)
      ∙ ap (λ (k : ℕ). up_to (length (standing h)) ++ (k ∷ [])) (source_is rules h o.0 x o.1.0 o.1.1) ∙ ap up_to more
  sources_are rules (completed d ∷ h) o = sources_are rules h o.0
  sources_are rules (reclaimed d ∷ h) o = sources_are rules h o.0
  sources_are rules (marked c ∷ h) o = sources_are rules h o.0
  sources_are rules (rolled c js ∷ h) o =
      ap (but_last (length js)) (sources_are rules h o.0)
      ∙ ap (λ (k : ℕ). take (k - length js) (up_to (length (standing h)))) (length_up_to (length (standing h)))
      ∙ take_up_to (length (standing h)) (length (standing h) - length js) (omega arith)
      ∙ ap up_to (sym (length-take-le (length (standing h) - length js) (standing h) (omega arith)))
  sources_are rules (unchanged l ∷ h) o = sources_are rules h o.0

  module _ (rules : Rules C) (h : History C) (ok : AllOk rules h) where
    stands_low : (i : ℕ) → i < length (standing h) → Stands h i
    stands_low i l = rw (sources_are rules h ok) (up_to_some (length (standing h)) i l)

    -- "a poll returns the oldest published chain whose polls, if any, were all rolled back, element for element", word for word
    pub oldest_at : (x : Item) → Ok rules h (model h) (polled x) → Oldest h x (latest x.id (pubs h))
    oldest_at x o =
        let at : latest x.id (pubs h) ≡ length (standing h) = source_is rules h ok x o.0 o.1 in (
          source_at rules h ok x o.0 o.1,
          (
            (λ (s : Stands h (latest x.id (pubs h))).
                let none : times (latest x.id (pubs h)) (sources h) ≡ 0 =
                rw (at, sources_are rules h ok) (up_to_none (length (standing h)) (length (standing h)) (omega arith)) in
                omega arith),
            λ i b. stands_low i (omega (arith, at)),
          ),
        )

    -- "and blocks only when none waits"
    pub none_waits : pubs h ≡ items (standing h) → NoneWaits h
    none_waits e i b = stands_low i (omega (arith, ap length e, length_items (standing h)))
