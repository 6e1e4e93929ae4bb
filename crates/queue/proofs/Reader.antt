-- For the reader who knows nothing of rings: each completion that comes back is of one submission, its own, and frees that one's slots.
-- Assumes nothing.
use mathlib.Core.Path.{◌≡◌, refl, sym, ap, ◌∙◌, subst}
use mathlib.Core.Logic.{◌≢◌, inl, inr}
use mathlib.Core.Bool.{Bool, true, false, cond}
use lib.Dec.{eqb}
use Prim.Native.Nat.{ℕ, zero, suc, ◌+◌, ◌≤◌, ◌<◌}
use native.Mathlib.Nat.{le_of_suc-le-suc}
use native.Mathlib.Omega.{arith}
use native.Mathlib.Decide.{ℕ_discrete}
use mathlib.Core.List.{List, [], ◌∷◌, ◌++◌}
use lib.ListN.{length, drop, length-append}
use lib.Seq.{drop_at}
use Rattle.queue.specs.History.{Item, Done, History, Poll, slots_of, slots_in, items, ids, without_item, times, pubs, comps, reclaims, standing}
use Rattle.queue.specs.History.{held, out, finished, waiting}
use Rattle.queue.specs.History.{submitted, polled, completed, reclaimed, marked, rolled, unchanged}
use Rattle.queue.specs.Promise.{Unlike, Rules}
use Rattle.queue.specs.Sentences.{All, At, ItsOwn, ItsOwnBefore}
use Rattle.queue.proofs.Model.{Member, model, AllOk}
use Rattle.queue.proofs.Listing.{all_append, Over, Rising, ids_append, length_ids, one, one_same, one_other, one_low, times_cons, member_left}
use Rattle.queue.proofs.Trace.{settled, Link, link, waiting_is}
use Rattle.queue.proofs.Kept.{dids, nos, ids_of, dids_append, nos_append, unlike_of, slots_less, these, front_of, Served, served, Kept, kept}

pub at_low : {A : Type 0} (l : List A) (j : ℕ) (x : A) → At l j x → j < length l
at_low [] j x a = absurd a
at_low (y ∷ l) zero x a = omega arith
at_low (y ∷ l) (suc j) x a = omega (arith, at_low l j x a)

at_of : {A : Type 0} (l : List A) (j : ℕ) → j < length l → (x : A) × At l j x
at_of [] j b = absurd (omega arith)
at_of (y ∷ l) zero b = (y, refl)
at_of (y ∷ l) (suc j) b = at_of l j (le_of_suc-le-suc b)

at_same : {A : Type 0} (l : List A) (j : ℕ) (x y : A) → At l j x → At l j y → x ≡ y
at_same [] j x y a b = absurd a
at_same (z ∷ l) zero x y a b = sym a ∙ b
at_same (z ∷ l) (suc j) x y a b = at_same l j x y a b

at_left : {A : Type 0} (l m : List A) (j : ℕ) (x : A) → At l j x → At (l ++ m) j x
at_left [] m j x a = absurd a
at_left (y ∷ l) m zero x a = a
at_left (y ∷ l) m (suc j) x a = at_left l m j x a

pub at_seam : {A : Type 0} (l : List A) (x : A) (m : List A) → At (l ++ (x ∷ m)) (length l) x
at_seam [] x m = refl
at_seam (y ∷ l) x m = at_seam l x m

at_member : {A : Type 0} (l : List A) (x : A) → Member x l → (j : ℕ) × At l j x
at_member [] x m = absurd m
at_member (y ∷ l) x (inl e) = (0, e)
at_member {A} (y ∷ l) x (inr m) = let r : (j : ℕ) × At l j x = at_member l x m in (suc r.0, r.1)

pub at_all : {A : Type 0} (P : A → Type 0) (l : List A) (j : ℕ) (x : A) → At l j x → All P l → P x
at_all P [] j x a h = absurd a
at_all P (y ∷ l) zero x a h = subst P a h.0
at_all P (y ∷ l) (suc j) x a h = at_all P l j x a h.1

at_ids : (ps : List Poll) (j : ℕ) (p : Poll) → At ps j p → At (ids ps) j p.item.id
at_ids [] j p a = absurd a
at_ids (y ∷ ps) zero p a = ap (λ (z : Poll). z.item.id) a
at_ids (y ∷ ps) (suc j) p a = at_ids ps j p a

at_items : (ps : List Poll) (j : ℕ) (p : Poll) → At ps j p → At (items ps) j p.item
at_items [] j p a = absurd a
at_items (y ∷ ps) zero p a = ap (λ (z : Poll). z.item) a
at_items (y ∷ ps) (suc j) p a = at_items ps j p a

at_dids : (ds : List Done) (j : ℕ) (d : Done) → At ds j d → At (dids ds) j d.id
at_dids [] j d a = absurd a
at_dids (y ∷ ds) zero d a = ap (λ (z : Done). z.id) a
at_dids (y ∷ ds) (suc j) d a = at_dids ds j d a

length_dids : (ds : List Done) → length (dids ds) ≡ length ds
length_dids [] = refl
length_dids (d ∷ ds) = ap suc (length_dids ds)

-- ---- polls by their numbers: each number stands once

at_nos : (ps : List Poll) (j : ℕ) (p : Poll) → At ps j p → 0 < times p.no (nos ps)
at_nos [] j p a = absurd a
at_nos (y ∷ ps) zero p a =
    let s : one y.no p.no ≡ 1 = rw a (one_same p.no) in
    omega (arith, times_cons p.no y.no (nos ps))
at_nos (y ∷ ps) (suc j) p a = omega (arith, times_cons p.no y.no (nos ps), at_nos ps j p a)

at_once : (ps : List Poll) (i j : ℕ) (p : Poll) → times p.no (nos ps) ≤ 1 → At ps i p → At ps j p → i ≡ j
at_once [] i j p b a c = absurd a
at_once (y ∷ ps) zero zero p b a c = refl
at_once (y ∷ ps) zero (suc j) p b a c =
    let s : one y.no p.no ≡ 1 = rw a (one_same p.no) in
    absurd (omega (arith, times_cons p.no y.no (nos ps), at_nos ps j p c))
at_once (y ∷ ps) (suc i) zero p b a c =
    let s : one y.no p.no ≡ 1 = rw c (one_same p.no) in
    absurd (omega (arith, times_cons p.no y.no (nos ps), at_nos ps i p a))
at_once (y ∷ ps) (suc i) (suc j) p b a c = ap suc (at_once ps i j p (omega (arith, times_cons p.no y.no (nos ps))) a c)

over_none : (n k : ℕ) (ps : List Poll) → n ≤ k → Over k ps → times n (nos ps) ≡ 0
over_none n k [] b o = refl
over_none n k (p ∷ ps) b o =
    let a : p.no ≢ n = λ e. omega (arith, o.0) in
    omega (arith, times_cons n p.no (nos ps), one_other p.no n a, over_none n k ps b o.1)

rising_once : (n : ℕ) (ps : List Poll) → Rising ps → times n (nos ps) ≤ 1
rising_once n [] r = omega arith
rising_once n (p ∷ ps) r = go (ℕ_discrete p.no n) (rising_once n ps r.1)
  where
    go : Dec (p.no ≡ n) → times n (nos ps) ≤ 1 → times n (nos (p ∷ ps)) ≤ 1
    go (yes e) b = omega (arith, times_cons n p.no (nos ps), over_none n p.no ps (omega arith) r.0, one_low p.no n)
    go (no e) b = omega (arith, times_cons n p.no (nos ps), one_other p.no n e)

unlike_left : (x : ℕ) (a b : List Item) → Unlike x (a ++ b) → Unlike x a
unlike_left x [] b u = tt
unlike_left x (i ∷ a) b u = (u.0, unlike_left x a b u.1)

unlike_right : (x : ℕ) (a b : List Item) → Unlike x (a ++ b) → Unlike x b
unlike_right x [] b u = u
unlike_right x (i ∷ a) b u = unlike_right x a b u.1

-- every chain of a list has a slot or more
abbrev Slotted : List Item → Type 0
Slotted l = All (λ (i : Item). 0 < slots_of i.chain) l

slotted_less : (x : ℕ) (l : List Item) → Slotted l → Slotted (without_item x l) × (slots_in (without_item x l) ≤ slots_in l)
slotted_less x [] a = (tt, omega arith)
slotted_less x (i ∷ l) a = go (eqb i.id x) (slotted_less x l a.1)
  where
    go : (b : Bool) → Slotted (without_item x l) × (slots_in (without_item x l) ≤ slots_in l)
        → Slotted (cond b l (i ∷ without_item x l)) × (slots_in (cond b l (i ∷ without_item x l)) ≤ slots_in (i ∷ l))
    go true r = (a.1, omega arith)
    go false r = ((a.0, r.0), omega (arith, r.1))

slots_append : (a b : List Item) → slots_in (a ++ b) ≡ slots_in a + slots_in b
slots_append [] b = omega arith
slots_append (i ∷ a) b = omega (arith, slots_append a b)

slotted_length : (l : List Item) → Slotted l → length l ≤ slots_in l
slotted_length [] a = omega arith
slotted_length (i ∷ l) a = omega (arith, a.0, slotted_length l a.1)

module _ {C : Type 0} where
  -- completed and not yet returned, held, waiting, as the history says
  abbrev pub outs : History C → List Item
  outs h = items (drop (length (reclaims h)) (finished h)) ++ (items (held h) ++ waiting h)

  module _ (rules : Rules C) (h : History C) (ok : AllOk rules h) where
    l : Link h (model h)
    l = link rules h ok

    k : Kept h (model h)
    k = kept rules h ok

    s : Served h (model h)
    s = served rules h ok

    finished_ids : ids (finished h) ≡ dids (comps h)
    finished_ids =
        ap ids k.split ∙ ids_append k.back k.pending ∙ rw (k.back_ids, k.pending_ids) (sym (dids_append (reclaims h) (model h).done))
        ∙ ap dids (sym l.given)

    id_at : (j : ℕ) (f : Poll) (d : Done) → At (finished h) j f → At (comps h) j d → f.item.id ≡ d.id
    id_at j f d a b =
        at_same (dids (comps h)) j f.item.id d.id (subst (λ (z : List ℕ). At z j f.item.id) finished_ids (at_ids (finished h) j f a)) (at_dids (comps h) j d b)

    finished_low : (j : ℕ) → j < length (comps h) → j < length (finished h)
    finished_low j b = omega (arith, ap length finished_ids, length_ids (finished h), length_dids (comps h))

    stands_at : (j : ℕ) (f : Poll) → At (finished h) j f → Member f (standing h)
    stands_at j f a =
        rw l.stand (member_left f (settled h) (model h).fresh (at_all (λ (x : Poll). Member x (settled h)) (finished h) j f a s.finished_in))

    chain_at : (p : ℕ) (f : Poll) → At (standing h) p f → At (pubs h) p f.item
    chain_at p f a = rw l.published (at_left (items (standing h)) (model h).waiting p f.item (at_items (standing h) p f a))

    made_at : (j : ℕ) (d : Done) → At (reclaims h) j d → At (comps h) j d
    made_at j d a = rw l.given (at_left (reclaims h) (model h).done j d a)

    own : (j p : ℕ) (d : Done) (f : Poll) → At (reclaims h) j d → At (finished h) j f → At (standing h) p f → (q : ℕ) × (q < length (pubs h)) × ItsOwn h j q
    own j p d f a b c = (
      p,
      at_low (pubs h) p f.item (chain_at p f c),
      record {
        done = d;
        poll = f;
        came_back = a;
        made = made_at j d a;
        completed = b;
        stands = c;
        published = chain_at p f c;
        own_id = id_at j f d b (made_at j d a);
      },
    )

    -- "completions meet their own submissions": the j-th completion that comes back is the j-th that was made, and it is of one
    -- submission: it bears that one's ID, and it completed a poll that stands and gave that one's chain
    pub own_completion : (j : ℕ) → j < length (reclaims h) → (p : ℕ) × (p < length (pubs h)) × ItsOwn h j p
    own_completion j b =
        let d = at_of (reclaims h) j b in
        let f = at_of (finished h) j (finished_low j (at_low (comps h) j d.0 (made_at j d.0 d.1))) in
        let p = at_member (standing h) f.0 (stands_at j f.0 f.1) in
        own j p.0 d.0 f.0 d.1 f.1 p.1

    -- "once each": two completions that came back are never of one submission
    pub once_each : (i j p : ℕ) → ItsOwn h i p → ItsOwn h j p → i ≡ j
    once_each i j p a b =
        let same : a.poll ≡ b.poll = at_same (standing h) p a.poll b.poll a.stands b.stands in
        let few : times a.poll.no (nos (finished h)) ≤ 1 =
        omega (
          arith,
          s.once a.poll.no,
          rising_once a.poll.no (standing h) l.rising,
          nos_append a.poll.no (settled h) (model h).fresh,
          ap (λ (z : List Poll). times a.poll.no (nos z)) l.stand,
        ) in
        at_once (finished h) i j a.poll few a.completed (rw same b.completed)

    -- ---- what is out: exactly what waits, what is held, and what is completed and not yet returned

    pending_is : drop (length (reclaims h)) (finished h) ≡ k.pending
    pending_is =
        ap (drop (length (reclaims h))) k.split
        ∙ drop_at k.back k.pending (length (reclaims h)) (sym (length_ids k.back) ∙ ap length k.back_ids ∙ length_dids (reclaims h))

    outs_are : outs h ≡ these k.pending (model h)
    outs_are = rw (pending_is, l.held_is, waiting_is rules h ok)

    -- each of them is out, and each ID at most once
    pub outs_in : All (λ (i : Item). Member i (out h)) (outs h)
    outs_in = rw (outs_are, l.out_is) k.inside

    pub outs_once : (y : ℕ) → times y (ids_of (out h)) ≤ 1
    outs_once y = rw l.out_is (k.apart y)

  -- each return is of a submission that was published, polled and completed before
  pub own_before : (rules : Rules C) (h : History C) (d : Done) → AllOk rules (reclaimed d ∷ h) → (p : ℕ) × ItsOwnBefore h d p
  unfolding comps reclaims finished standing pubs
  own_before rules h d o =
      let r = own_completion rules (reclaimed d ∷ h) o (length (reclaims h)) (omega (arith, length-append (reclaims h) (d ∷ []))) in
      let w : ItsOwn (reclaimed d ∷ h) (length (reclaims h)) r.0 = r.2 in
      let e : w.done ≡ d = at_same (reclaims h ++ (d ∷ [])) (length (reclaims h)) w.done d w.came_back (at_seam (reclaims h) d []) in (
        r.0,
        record {
          poll = w.poll;
          made = subst (At (comps h) (length (reclaims h))) e w.made;
          completed = w.completed;
          stands = w.stands;
          published = w.published;
          own_id = w.own_id ∙ ap (λ (x : Done). x.id) e;
        },
      )

  -- an ID given is the ID of no chain whose completion poll_used has not yet returned: of none that is completed and not returned,
  -- of none that is held, and of none that waits
  pub fresh_id : (rules : Rules C) (h : History C) (x : Item) → AllOk rules (submitted x ∷ h)
      → Unlike x.id (items (drop (length (reclaims h)) (finished h))) × Unlike x.id (items (held h)) × Unlike x.id (waiting h)
  fresh_id rules h x o =
      let u : Unlike x.id (out h) = rw (link rules h o.0).out_is o.1.1.0 in
      let v : Unlike x.id (outs h) = unlike_of x.id (outs h) (out h) (outs_in rules h o.0) u in
      let w : Unlike x.id (items (held h) ++ waiting h) = unlike_right x.id (items (drop (length (reclaims h)) (finished h))) (items (held h) ++ waiting h) v in (
        unlike_left x.id (items (drop (length (reclaims h)) (finished h))) (items (held h) ++ waiting h) v,
        unlike_left x.id (items (held h)) (waiting h) w,
        unlike_right x.id (items (held h)) (waiting h) w,
      )

  -- of the submission whose completion comes back
  own_item : (h : History C) (d : Done) (k : Kept h (model h)) (p : ℕ) (z : Poll) (rest : List Poll) (x : Item) → k.pending ≡ z ∷ rest
      → ItsOwn (reclaimed d ∷ h) (length (reclaims h)) p → At (pubs h) p x → z.item ≡ x
  unfolding finished pubs
  own_item h d k p z rest x e w a =
      let n : length (reclaims h) ≡ length k.back = sym (length_dids (reclaims h)) ∙ ap length (sym k.back_ids) ∙ length_ids k.back in
      let b : At (finished h) (length (reclaims h)) z = rw (k.split, e, n) (at_seam k.back z rest) in
      ap (λ (f : Poll). f.item) (at_same (finished h) (length (reclaims h)) z w.poll b w.completed) ∙ at_same (pubs h) p w.poll.item x w.published a

  -- "it frees exactly its chain's slots": when poll_used returns a completion, the slots that are out are fewer by those of the chain
  -- that its submission published
  pub frees : (rules : Rules C) (h : History C) (d : Done) → AllOk rules (reclaimed d ∷ h) → (p : ℕ) → ItsOwn (reclaimed d ∷ h) (length (reclaims h)) p
      → (x : Item) → At (pubs h) p x → slots_in (out h) ≡ slots_in (out (reclaimed d ∷ h)) + slots_of x.chain
  unfolding out
  frees rules h d o p w x a =
      let k : Kept h (model h) = kept rules h o.0 in
      let z = front_of k.pending (model h).done o.1.0 d k.pending_ids o.1.1 in
      let is : z.0.item ≡ x = own_item h d k p z.0 z.1 x z.2 w a in
      let e : out h ≡ (model h).out = (link rules h o.0).out_is in
      let m : Member z.0.item (model h).out = (subst (λ (ps : List Poll). All (λ (i : Item). Member i (model h).out) (these ps (model h))) z.2 k.inside).0 in
      slots_less d.id x (out h) (ap (λ (i : Item). i.id) (sym is) ∙ z.3) (rw e (subst (λ (i : Item). Member i (model h).out) is m)) (outs_once rules h o.0 d.id)

  fit : (rules : Rules C) (h : History C) → AllOk rules h → Slotted (out h) × (slots_in (out h) ≤ rules.size)
  unfolding out
  fit rules [] o = (tt, omega arith)
  fit rules (submitted x ∷ h) o =
      let ih : Slotted (out h) × (slots_in (out h) ≤ rules.size) = fit rules h o.0 in
      let e : out h ≡ (model h).out = (link rules h o.0).out_is in (
        all_append (λ (i : Item). 0 < slots_of i.chain) (out h) (x ∷ []) ih.0 (o.1.1.1.0.0, tt),
        omega (arith, slots_append (out h) (x ∷ []), ap slots_in e, o.1.1.1.1.0),
      )
  fit rules (polled x ∷ h) o = fit rules h o.0
  fit rules (completed d ∷ h) o = fit rules h o.0
  fit rules (reclaimed d ∷ h) o =
      let ih : Slotted (out h) × (slots_in (out h) ≤ rules.size) = fit rules h o.0 in
      let r : Slotted (without_item d.id (out h)) × (slots_in (without_item d.id (out h)) ≤ slots_in (out h)) = slotted_less d.id (out h) ih.0 in
      (r.0, omega (arith, r.1, ih.1))
  fit rules (marked c ∷ h) o = fit rules h o.0
  fit rules (rolled c js ∷ h) o = fit rules h o.0
  fit rules (unchanged l ∷ h) o = fit rules h o.0

  -- never more slots are out than the ring has, nor more chains than slots: a submission that finds slots finds an ID ("never 4 or 5")
  pub slots_fit : (rules : Rules C) (h : History C) → AllOk rules h → slots_in (out h) ≤ rules.size
  slots_fit rules h o = (fit rules h o).1

  pub chains_fit : (rules : Rules C) (h : History C) → AllOk rules h → length (out h) ≤ slots_in (out h)
  chains_fit rules h o = slotted_length (out h) (fit rules h o).0
