-- What is out: the chains that wait, that are held, and that are completed and not yet returned, each once; and which polls were completed.
-- Assumes nothing.
use mathlib.Core.Path.{◌≡◌, refl, sym, ap, ◌∙◌, subst}
use mathlib.Core.Logic.{◌≢◌, inl, inr}
use mathlib.Core.Bool.{Bool, true, false, cond, not}
use Prim.Native.Nat.{ℕ, ◌+◌, ◌-◌, ◌≤◌, ◌<◌}
use native.Mathlib.Omega.{arith}
use native.Mathlib.Decide.{ℕ_discrete}
use mathlib.Core.List.{List, [], ◌∷◌, ◌++◌, append_assoc, append-nil}
use lib.ListN.{length, drop}
use lib.Dec.{T, eqb, eqb→eq, eqb_refl, T_not}
use Rattle.queue.specs.History.{Item, Done, Event, History, Poll, slots_of, slots_in, items, ids, but_last, without, without_item, of_id, times}
use Rattle.queue.specs.History.{reclaims, standing, held, finished}
use Rattle.queue.specs.History.{submitted, polled, completed, reclaimed, marked, rolled, unchanged}
use Rattle.queue.specs.Promise.{Has, Unlike, Rules}
use Rattle.queue.specs.Sentences.{All}
use Rattle.queue.proofs.Model.{Queue, tail, Member, next, model, Ok, AllOk}
use Rattle.queue.proofs.Listing.{on_test, all_append, all_left, all_right, all_map, items_append, ids_append, but_last_rest, one, one_same}
use Rattle.queue.proofs.Listing.{one_other, times_cons, member_left, member_last}
use Rattle.queue.proofs.Trace.{settled, Link, link}

-- ---- lists of items, polls and completions

abbrev pub ids_of : List Item → List ℕ
ids_of [] = []
ids_of (i ∷ is) = i.id ∷ ids_of is

abbrev pub dids : List Done → List ℕ
dids [] = []
dids (d ∷ ds) = d.id ∷ dids ds

abbrev pub nos : List Poll → List ℕ
nos [] = []
nos (p ∷ ps) = p.no ∷ nos ps

pub dids_append : (a b : List Done) → dids (a ++ b) ≡ dids a ++ dids b
dids_append [] b = refl
dids_append (d ∷ a) b = ap (λ (l : List ℕ). d.id ∷ l) (dids_append a b)

pub tally_append : (y : ℕ) (a b : List Item) → times y (ids_of (a ++ b)) ≡ times y (ids_of a) + times y (ids_of b)
tally_append y [] b = omega arith
tally_append y (i ∷ a) b = omega (arith, tally_append y a b)

pub nos_append : (n : ℕ) (a b : List Poll) → times n (nos (a ++ b)) ≡ times n (nos a) + times n (nos b)
nos_append n [] b = omega arith
nos_append n (p ∷ a) b = omega (arith, nos_append n a b)

pub member_right : {A : Type 0} (x : A) (xs ys : List A) → Member x ys → Member x (xs ++ ys)
member_right x [] ys m = m
member_right x (y ∷ xs) ys m = inr (member_right x xs ys m)

all_here : {A : Type 0} (xs : List A) → All (λ (x : A). Member x xs) xs
all_here [] = tt
all_here {A} (y ∷ xs) = (inl refl, all_map (λ (x : A). Member x xs) (λ (x : A). Member x (y ∷ xs)) (λ x m. inr m) xs (all_here xs))

pub unlike_times : (x : ℕ) (l : List Item) → Unlike x l → times x (ids_of l) ≡ 0
unlike_times x [] u = refl
unlike_times x (i ∷ l) u = omega (arith, times_cons x i.id (ids_of l), one_other i.id x u.0, unlike_times x l u.1)

pub times_unlike : (x : ℕ) (l : List Item) → times x (ids_of l) ≡ 0 → Unlike x l
times_unlike x [] e = tt
times_unlike x (i ∷ l) e =
    let c : times x (ids_of (i ∷ l)) ≡ one i.id x + times x (ids_of l) = times_cons x i.id (ids_of l) in
    ((λ (k : i.id ≡ x). let s : one i.id x ≡ 1 = rw k (one_same x) in absurd (omega arith)), times_unlike x l (omega arith))

pub member_times : (i : Item) (l : List Item) → Member i l → 0 < times i.id (ids_of l)
member_times i [] m = absurd m
member_times i (y ∷ l) (inl e) =
    let s : one y.id i.id ≡ 1 = rw e (one_same i.id) in
    omega (arith, times_cons i.id y.id (ids_of l))
member_times i (y ∷ l) (inr m) = omega (arith, times_cons i.id y.id (ids_of l), member_times i l m)

-- what is in a list that has no such ID has no such ID
pub unlike_of : (x : ℕ) (l o : List Item) → All (λ (i : Item). Member i o) l → Unlike x o → Unlike x l
unlike_of x [] o a u = tt
unlike_of x (i ∷ l) o a u = (away i o a.0 u, unlike_of x l o a.1 u)
  where
    away : (j : Item) (r : List Item) → Member j r → Unlike x r → j.id ≢ x
    away j [] m v = absurd m
    away j (y ∷ r) (inl e) v = λ k. v.0 (ap (λ (z : Item). z.id) e ∙ k)
    away j (y ∷ r) (inr m) v = away j r m v.1

-- ---- one of an ID taken out

module _ (x : ℕ) where
  pub part_tally : (ps : List Poll) (y : ℕ) → times y (ids_of (items ps)) ≡ times y (ids_of (items (of_id x ps))) + times y (ids_of (items (without x ps)))
  part_tally [] y = omega arith
  part_tally (p ∷ ps) y = go (eqb p.item.id x) (part_tally ps y)
    where
      go : (b : Bool) → times y (ids_of (items ps)) ≡ times y (ids_of (items (of_id x ps))) + times y (ids_of (items (without x ps)))
          → times y (ids_of (items (p ∷ ps)))
          ≡ times y (ids_of (items (cond b (p ∷ []) (of_id x ps)))) + times y (ids_of (items (cond b ps (p ∷ without x ps))))
      go true e = omega arith
      go false e = omega arith

  pub part_nos : (ps : List Poll) (n : ℕ) → times n (nos ps) ≡ times n (nos (of_id x ps)) + times n (nos (without x ps))
  part_nos [] n = omega arith
  part_nos (p ∷ ps) n = go (eqb p.item.id x) (part_nos ps n)
    where
      go : (b : Bool) → times n (nos ps) ≡ times n (nos (of_id x ps)) + times n (nos (without x ps))
          → times n (nos (p ∷ ps)) ≡ times n (nos (cond b (p ∷ []) (of_id x ps))) + times n (nos (cond b ps (p ∷ without x ps)))
      go true e = omega arith
      go false e = omega arith

  pub all_of_id : (P : Poll → Type 0) (ps : List Poll) → All P ps → All P (of_id x ps)
  all_of_id P [] a = tt
  all_of_id P (p ∷ ps) a = go (eqb p.item.id x) (all_of_id P ps a.1)
    where
      go : (b : Bool) → All P (of_id x ps) → All P (cond b (p ∷ []) (of_id x ps))
      go true k = (a.0, tt)
      go false k = k

  pub all_without : (P : Poll → Type 0) (ps : List Poll) → All P ps → All P (without x ps)
  all_without P [] a = tt
  all_without P (p ∷ ps) a = go (eqb p.item.id x) (all_without P ps a.1)
    where
      go : (b : Bool) → All P (without x ps) → All P (cond b ps (p ∷ without x ps))
      go true k = a.1
      go false k = (a.0, k)

  -- a held ID is found, and it is that ID
  pub of_id_has : (ps : List Poll) → Has x ps → ids (of_id x ps) ≡ x ∷ []
  of_id_has [] h = absurd h
  of_id_has (p ∷ ps) h =
      on_test (λ b. (T b → p.item.id ≡ x) → (T (not b) → Has x ps) → ids (cond b (p ∷ []) (of_id x ps)) ≡ x ∷ []) (eqb p.item.id x)
      (λ t f g. ap (λ (n : ℕ). n ∷ []) (f tt)) (λ t f g. of_id_has ps (g tt)) (λ t. eqb→eq p.item.id x t) (λ t. rest h t)
    where
      rest : Has x (p ∷ ps) → T (not (eqb p.item.id x)) → Has x ps
      rest (inl e) t = absurd (T_not (eqb p.item.id x) t (rw e (eqb_refl x)))
      rest (inr k) t = k

  -- of the items that are out, the one of an ID taken out
  pub out_less : (l : List Item) (y : ℕ) → 0 < times x (ids_of l) → one x y + times y (ids_of (without_item x l)) ≡ times y (ids_of l)
  out_less [] y h = absurd (omega arith)
  out_less (i ∷ l) y h =
      on_test
      (λ b. (T b → i.id ≡ x) → 0 < cond b 1 0 + times x (ids_of l)
      → one x y + times y (ids_of (cond b l (i ∷ without_item x l))) ≡ times y (ids_of (i ∷ l))) (eqb i.id x)
      (λ t f k. let e : i.id ≡ x = f tt in rw (e, times_cons y x (ids_of l)))
      (λ t f k. let ih : one x y + times y (ids_of (without_item x l)) ≡ times y (ids_of l) = out_less l y (omega arith) in omega (arith, ih))
      (λ t. eqb→eq i.id x t) h

  member_less : (i : Item) (l : List Item) → i.id ≢ x → Member i l → Member i (without_item x l)
  member_less i [] n m = m
  member_less i (y ∷ l) n m =
      on_test (λ b. (T b → y.id ≡ x) → Member i (cond b l (y ∷ without_item x l))) (eqb y.id x) (λ t f. past m (f tt)) (λ t f. step m (λ z. member_less i l n z))
      (λ t. eqb→eq y.id x t)
    where
      past : Member i (y ∷ l) → y.id ≡ x → Member i l
      past (inl e) k = absurd (n (ap (λ (z : Item). z.id) (sym e) ∙ k))
      past (inr z) k = z

      step : Member i (y ∷ l) → (Member i l → Member i (without_item x l)) → Member i (y ∷ without_item x l)
      step (inl e) f = inl e
      step (inr z) f = inr (f z)

  pub all_less : (l o : List Item) → Unlike x l → All (λ (i : Item). Member i o) l → All (λ (i : Item). Member i (without_item x o)) l
  all_less [] o u a = tt
  all_less (i ∷ l) o u a = (member_less i o u.0 a.0, all_less l o u.1 a.1)

  -- its slots, and no other
  pub slots_less : (i : Item) (l : List Item) → i.id ≡ x → Member i l → times x (ids_of l) ≤ 1 → slots_in l ≡ slots_in (without_item x l) + slots_of i.chain
  slots_less i [] e m s = absurd m
  slots_less i (y ∷ l) e m s =
      on_test
      (λ b. (T b → y.id ≡ x) → cond b 1 0 + times x (ids_of l) ≤ 1 → (T (not b) → y.id ≢ x)
      → slots_in (y ∷ l) ≡ slots_in (cond b l (y ∷ without_item x l)) + slots_of i.chain) (eqb y.id x)
      (λ t f k g. first m k) (λ t f k g. later m (g tt) (λ z. slots_less i l e z (omega arith))) (λ t. eqb→eq y.id x t) s (λ t k. T_not (eqb y.id x) t (rw k (eqb_refl x)))
    where
      first : Member i (y ∷ l) → 1 + times x (ids_of l) ≤ 1 → slots_in (y ∷ l) ≡ slots_in l + slots_of i.chain
      first (inl k) b = let c : slots_of y.chain ≡ slots_of i.chain = ap (λ (z : Item). slots_of z.chain) k in omega arith
      first (inr k) b = let z : 0 < times x (ids_of l) = rw e at (member_times i l k) in absurd (omega arith)

      later : Member i (y ∷ l) → y.id ≢ x → (Member i l → slots_in l ≡ slots_in (without_item x l) + slots_of i.chain) → slots_in (y ∷ l) ≡ slots_in (y ∷ without_item x l) + slots_of i.chain
      later (inl k) n f = absurd (n (ap (λ (z : Item). z.id) k ∙ e))
      later (inr k) n f = omega (arith, f k)

-- ---- the polls that were completed

module _ {C : Type 0} where
  -- each poll that stood at the last completion was completed, or is held; and none twice
  pub record Served (h : History C) (q : Queue C) : Type 0 where
    pub finished_in : All (λ (p : Poll). Member p (settled h)) (finished h)
    pub old_in : All (λ (p : Poll). Member p (settled h)) q.old
    pub once : (n : ℕ) → times n (nos (finished h)) + times n (nos q.old) ≡ times n (nos (settled h))

  served_completed : (rules : Rules C) (h : History C) (q : Queue C) (d : Done) → Link h q → Served h q → Served (completed d ∷ h) (next q (completed d))
  unfolding settled finished next
  served_completed rules h q d l s =
      let wider : (p : Poll) → Member p (settled h) → Member p (standing h) = λ p m. rw l.stand (member_left p (settled h) q.fresh m) in
      let fresh_in : All (λ (p : Poll). Member p (standing h)) q.fresh =
      all_map (λ (p : Poll). Member p q.fresh) (λ (p : Poll). Member p (standing h)) (λ p m. rw l.stand (member_right p (settled h) q.fresh m)) q.fresh (all_here q.fresh) in
      let held_in : All (λ (p : Poll). Member p (standing h)) (q.old ++ q.fresh) =
      all_append (λ (p : Poll). Member p (standing h)) q.old q.fresh
      (all_map (λ (p : Poll). Member p (settled h)) (λ (p : Poll). Member p (standing h)) wider q.old s.old_in) fresh_in in
      record {
        finished_in =
            all_append (λ (p : Poll). Member p (standing h)) (finished h) (of_id d.id (held h))
            (all_map (λ (p : Poll). Member p (settled h)) (λ (p : Poll). Member p (standing h)) wider (finished h) s.finished_in)
            (all_of_id d.id (λ (p : Poll). Member p (standing h)) (held h) (rw l.held_is held_in));
        old_in = all_without d.id (λ (p : Poll). Member p (standing h)) (q.old ++ q.fresh) held_in;
        once = λ n.
            let a : times n (nos (of_id d.id (held h))) ≡ times n (nos (of_id d.id (q.old ++ q.fresh))) =
            ap (λ (z : List Poll). times n (nos (of_id d.id z))) l.held_is in
            let b : times n (nos (standing h)) ≡ times n (nos (settled h ++ q.fresh)) = ap (λ (z : List Poll). times n (nos z)) l.stand in
            omega (
              arith,
              a,
              b,
              nos_append n (finished h) (of_id d.id (held h)),
              part_nos d.id (q.old ++ q.fresh) n,
              nos_append n q.old q.fresh,
              nos_append n (settled h) q.fresh,
              s.once n,
            );
      }

  served_step : (rules : Rules C) (h : History C) (q : Queue C) (e : Event C) → Link h q → Served h q → Served (e ∷ h) (next q e)
  unfolding settled finished next
  served_step rules h q (submitted x) l s = record { finished_in = s.finished_in; old_in = s.old_in; once = s.once }
  served_step rules h q (polled x) l s = record { finished_in = s.finished_in; old_in = s.old_in; once = s.once }
  served_step rules h q (completed d) l s = served_completed rules h q d l s
  served_step rules h q (reclaimed d) l s = record { finished_in = s.finished_in; old_in = s.old_in; once = s.once }
  served_step rules h q (marked c) l s = record { finished_in = s.finished_in; old_in = s.old_in; once = s.once }
  served_step rules h q (rolled c js) l s = record { finished_in = s.finished_in; old_in = s.old_in; once = s.once }
  served_step rules h q (unchanged k) l s = record { finished_in = s.finished_in; old_in = s.old_in; once = s.once }

  pub served : (rules : Rules C) (h : History C) → AllOk rules h → Served h (model h)
  unfolding settled finished model
  served rules [] o = record { finished_in = tt; old_in = tt; once = λ n. omega arith }
  served rules (e ∷ h) o = served_step rules h (model h) e (link rules h o.0) (served rules h o.0)

-- ---- what is out

-- completed and not yet returned, held, waiting
abbrev pub these : {C : Type 0} → List Poll → Queue C → List Item
these pending q = items pending ++ (items (q.old ++ q.fresh) ++ q.waiting)

-- a completion moves one poll from the held to the completed
all_items : (Q : Item → Type 0) (ps : List Poll) → All Q (items ps) → All (λ (p : Poll). Q p.item) ps
all_items Q [] a = tt
all_items Q (p ∷ ps) a = (a.0, all_items Q ps a.1)

items_all : (Q : Item → Type 0) (ps : List Poll) → All (λ (p : Poll). Q p.item) ps → All Q (items ps)
items_all Q [] a = tt
items_all Q (p ∷ ps) a = (a.0, items_all Q ps a.1)

done_tally : (y x : ℕ) (P H : List Poll) (w : List Item)
    → times y (ids_of (items P ++ (items H ++ w))) ≡ times y (ids_of (items (P ++ of_id x H) ++ (items (without x H ++ []) ++ w)))
done_tally y x P H w =
    rw (append-nil, items_append P (of_id x H))
    (omega (
      arith,
      tally_append y (items P) (items H ++ w),
      tally_append y (items H) w,
      part_tally x H y,
      tally_append y (items P ++ items (of_id x H)) (items (without x H) ++ w),
      tally_append y (items P) (items (of_id x H)),
      tally_append y (items (without x H)) w,
    ))

done_all : (Q : Item → Type 0) (x : ℕ) (P H : List Poll) (w : List Item) → All Q (items P ++ (items H ++ w))
    → All Q (items (P ++ of_id x H) ++ (items (without x H ++ []) ++ w))
done_all Q x P H w a =
    let tail : All Q (items H ++ w) = all_right Q (items P) (items H ++ w) a in
    let hs : All (λ (p : Poll). Q p.item) H = all_items Q H (all_left Q (items H) w tail) in
    rw (append-nil, items_append P (of_id x H))
    (all_append Q (items P ++ items (of_id x H)) (items (without x H) ++ w)
    (all_append Q (items P) (items (of_id x H)) (all_left Q (items P) (items H ++ w) a) (items_all Q (of_id x H) (all_of_id x (λ (p : Poll). Q p.item) H hs)))
    (all_append Q (items (without x H)) w (items_all Q (without x H) (all_without x (λ (p : Poll). Q p.item) H hs)) (all_right Q (items H) w tail)))

-- the first of the completed is the one that is returned
pub front_of : (ps : List Poll) (ds later : List Done) (d : Done) → ids ps ≡ dids ds → ds ≡ d ∷ later
    → (p : Poll) × (rest : List Poll) × (ps ≡ p ∷ rest) × (p.item.id ≡ d.id) × (ids rest ≡ dids later)
front_of [] ds later d e k =
    let c : ◌≡◌ {A = List ℕ} [] (d.id ∷ dids later) = e ∙ ap dids k in
    let z : ◌≡◌ {A = ℕ} 0 1 = cc c in
    absurd (omega arith)
front_of (p ∷ rest) ds later d e k =
    let c : p.item.id ∷ ids rest ≡ d.id ∷ dids later = e ∙ ap dids k in
    (p, rest, refl, cc c, cc c)

module _ {C : Type 0} where
  pub record Kept (h : History C) (q : Queue C) : Type 0 where
    -- the completed polls whose completion was returned, and the others
    pub back : List Poll
    pub pending : List Poll
    pub split : finished h ≡ back ++ pending
    pub back_ids : ids back ≡ dids (reclaims h)
    pub pending_ids : ids pending ≡ dids q.done
    -- what is out is these, each once
    pub whole : (y : ℕ) → times y (ids_of q.out) ≡ times y (ids_of (these pending q))
    pub apart : (y : ℕ) → times y (ids_of q.out) ≤ 1
    pub inside : All (λ (i : Item). Member i q.out) (these pending q)

  -- the same chains in the same order: nothing else to show
  kept_same : (h : History C) (q : Queue C) (e : Event C) (k : Kept h q) → finished (e ∷ h) ≡ finished h → reclaims (e ∷ h) ≡ reclaims h
      → (next q e).done ≡ q.done → (next q e).out ≡ q.out → these k.pending (next q e) ≡ these k.pending q → Kept (e ∷ h) (next q e)
  kept_same h q e k a b c d t =
      record {
        back = k.back;
        pending = k.pending;
        split = a ∙ k.split;
        back_ids = k.back_ids ∙ ap dids (sym b);
        pending_ids = k.pending_ids ∙ ap dids (sym c);
        whole = λ y. ap (λ (l : List Item). times y (ids_of l)) d ∙ k.whole y ∙ ap (λ (l : List Item). times y (ids_of l)) (sym t);
        apart = λ y. rw d (k.apart y);
        inside = rw (d, t) k.inside;
      }

  kept_submitted : (rules : Rules C) (h : History C) (q : Queue C) (x : Item) → Ok rules h q (submitted x) → Kept h q → Kept (submitted x ∷ h) (next q (submitted x))
  unfolding finished reclaims next
  kept_submitted rules h q x o k =
      let more : these k.pending q ++ (x ∷ []) ≡ items k.pending ++ (items (q.old ++ q.fresh) ++ (q.waiting ++ (x ∷ []))) = simp append_assoc in
      record {
        back = k.back;
        pending = k.pending;
        split = k.split;
        back_ids = k.back_ids;
        pending_ids = k.pending_ids;
        whole = λ y.
            tally_append y q.out (x ∷ []) ∙ ap (λ (n : ℕ). n + times y (ids_of (x ∷ []))) (k.whole y) ∙ sym (tally_append y (these k.pending q) (x ∷ []))
            ∙ ap (λ (l : List Item). times y (ids_of l)) more;
        apart = λ y. new y (ℕ_discrete x.id y);
        inside =
            subst (All (λ (i : Item). Member i (q.out ++ (x ∷ [])))) more
            (all_append (λ (i : Item). Member i (q.out ++ (x ∷ []))) (these k.pending q) (x ∷ [])
            (all_map (λ (i : Item). Member i q.out) (λ (i : Item). Member i (q.out ++ (x ∷ []))) (λ i m. member_left i q.out (x ∷ []) m) (these k.pending q) k.inside)
            (member_last x q.out, tt));
      }
    where
      new : (y : ℕ) → Dec (x.id ≡ y) → times y (ids_of (q.out ++ (x ∷ []))) ≤ 1
      new y (yes e) =
          let z : times y (ids_of q.out) ≡ 0 = rw (← e) (unlike_times x.id q.out o.1.0) in
          let s : one x.id y ≡ 1 = rw e (one_same y) in
          omega (arith, tally_append y q.out (x ∷ []), times_cons y x.id [])
      new y (no n) = omega (arith, tally_append y q.out (x ∷ []), times_cons y x.id [], one_other x.id y n, k.apart y)

  kept_completed : (rules : Rules C) (h : History C) (q : Queue C) (d : Done) → Ok rules h q (completed d) → Link h q → Kept h q → Kept (completed d ∷ h) (next q (completed d))
  unfolding finished reclaims next
  kept_completed rules h q d o l k =
      record {
        back = k.back;
        pending = k.pending ++ of_id d.id (q.old ++ q.fresh);
        split =
            ap (λ (z : List Poll). finished h ++ of_id d.id z) l.held_is ∙ ap (λ (z : List Poll). z ++ of_id d.id (q.old ++ q.fresh)) k.split
            ∙ append_assoc k.back k.pending (of_id d.id (q.old ++ q.fresh));
        back_ids = k.back_ids;
        pending_ids =
            ids_append k.pending (of_id d.id (q.old ++ q.fresh))
            ∙ rw (k.pending_ids, of_id_has d.id (q.old ++ q.fresh) o) (sym (dids_append q.done (d ∷ [])));
        whole = λ y. k.whole y ∙ done_tally y d.id k.pending (q.old ++ q.fresh) q.waiting;
        apart = k.apart;
        inside = done_all (λ (i : Item). Member i q.out) d.id k.pending (q.old ++ q.fresh) q.waiting k.inside;
      }

  kept_reclaimed : (rules : Rules C) (h : History C) (q : Queue C) (d : Done) → Ok rules h q (reclaimed d) → Kept h q → Kept (reclaimed d ∷ h) (next q (reclaimed d))
  unfolding finished reclaims next
  kept_reclaimed rules h q d o k =
      let z = front_of k.pending q.done o.0 d k.pending_ids o.1 in
      let eq : k.pending ≡ z.0 ∷ z.1 = z.2 in
      let id_is : z.0.item.id ≡ d.id = z.3 in
      let count : (y : ℕ) → times y (ids_of q.out) ≡ one d.id y + times y (ids_of (these z.1 q)) =
      λ y. k.whole y ∙ ap (λ (ps : List Poll). times y (ids_of (these ps q))) eq ∙ times_cons y z.0.item.id (ids_of (these z.1 q))
      ∙ ap (λ (i : ℕ). one i y + times y (ids_of (these z.1 q))) id_is in
      let some : 0 < times d.id (ids_of q.out) = omega (arith, count d.id, one_same d.id) in
      let gone : times d.id (ids_of (these z.1 q)) ≡ 0 = omega (arith, count d.id, one_same d.id, k.apart d.id) in
      let all : All (λ (i : Item). Member i q.out) (these (z.0 ∷ z.1) q) =
      subst (λ (ps : List Poll). All (λ (i : Item). Member i q.out) (these ps q)) eq k.inside in
      record {
        back = k.back ++ (z.0 ∷ []);
        pending = z.1;
        split = k.split ∙ ap (λ (ps : List Poll). k.back ++ ps) eq ∙ sym (append_assoc k.back (z.0 ∷ []) z.1);
        back_ids =
            ids_append k.back (z.0 ∷ []) ∙ ap (λ (l : List ℕ). l ++ (z.0.item.id ∷ [])) k.back_ids
            ∙ ap (λ (i : ℕ). dids (reclaims h) ++ (i ∷ [])) id_is ∙ sym (dids_append (reclaims h) (d ∷ []));
        pending_ids = z.4 ∙ ap (λ (l : List Done). dids (tail l)) (sym o.1);
        whole = λ y. omega (arith, count y, out_less d.id q.out y some);
        apart = λ y. omega (arith, k.apart y, out_less d.id q.out y some);
        inside = all_less d.id (these z.1 q) q.out (times_unlike d.id (these z.1 q) gone) all.1;
      }

  -- a poll takes the first that waits and holds it last
  these_polled : (q : Queue C) (x : Item) (ps : List Poll) (later : List Item) → q.waiting ≡ x ∷ later → these ps (next q (polled x)) ≡ these ps q
  unfolding next
  these_polled q x ps later e = rw e (simp (items_append, append_assoc))

  -- a rollback puts the last held back in front of what waits
  these_rolled : (q : Queue C) (c : C) (js : List ℕ) (ps : List Poll) → these ps (next q (rolled c js)) ≡ these ps q
  unfolding next
  these_rolled q c js ps =
      ap (λ (l : List Item). items ps ++ l)
      (sym (append_assoc (items (q.old ++ but_last (length js) q.fresh)) (items (drop (length q.fresh - length js) q.fresh)) q.waiting)
      ∙ ap (λ (l : List Item). l ++ q.waiting)
      (sym (items_append (q.old ++ but_last (length js) q.fresh) (drop (length q.fresh - length js) q.fresh))
      ∙ ap items (append_assoc q.old (but_last (length js) q.fresh) (drop (length q.fresh - length js) q.fresh) ∙ ap (λ (l : List Poll). q.old ++ l) (but_last_rest (length js) q.fresh))))

  kept_step : (rules : Rules C) (h : History C) (q : Queue C) (e : Event C) → Ok rules h q e → Link h q → Kept h q → Kept (e ∷ h) (next q e)
  unfolding finished reclaims next
  kept_step rules h q (submitted x) o l k = kept_submitted rules h q x o k
  kept_step rules h q (polled x) o l k = kept_same h q (polled x) k refl refl refl refl (these_polled q x k.pending o.0 o.1)
  kept_step rules h q (completed d) o l k = kept_completed rules h q d o l k
  kept_step rules h q (reclaimed d) o l k = kept_reclaimed rules h q d o k
  kept_step rules h q (marked c) o l k = kept_same h q (marked c) k refl refl refl refl refl
  kept_step rules h q (rolled c js) o l k = kept_same h q (rolled c js) k refl refl refl refl (these_rolled q c js k.pending)
  kept_step rules h q (unchanged z) o l k = kept_same h q (unchanged z) k refl refl refl refl refl

  pub kept : (rules : Rules C) (h : History C) → AllOk rules h → Kept h (model h)
  unfolding finished reclaims model
  kept rules [] o = record { back = []; pending = []; split = refl; back_ids = refl; pending_ids = refl; whole = λ y. refl; apart = λ y. omega arith; inside = tt }
  kept rules (e ∷ h) o = kept_step rules h (model h) e o.1 (link rules h o.0) (kept rules h o.0)
