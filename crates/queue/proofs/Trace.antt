-- A history that the queue allows is first in, first out; and a rollback is honest by the history exactly if it is by the queue.
-- Assumes nothing.
use mathlib.Core.Path.{◌≡◌, refl, sym, ap, ◌∙◌, subst}
use mathlib.Core.Logic.{◌⊎◌, inl, inr, ⊎_elim}
use Prim.Native.Nat.{ℕ, suc, ◌-◌, ◌≤◌}
use native.Mathlib.Nat.{le_refl}
use native.Mathlib.Omega.{arith}
use mathlib.Core.List.{List, [], ◌∷◌, ◌++◌, append_assoc, append-nil, append_cancel_left}
use lib.ListN.{length, drop, length-append}
use lib.Seq.{drop_at}
use Rattle.queue.specs.History.{Item, Done, Kind, Unchanged, Event, History, Poll, items, ids, upto, after, but_last, without, times, pubs}
use Rattle.queue.specs.History.{polls, comps, reclaims, standing, held, out, promised, waiting}
use Rattle.queue.specs.History.{submit, reclaim, next_id, poll, complete, peek, checkpoint, rollback, other, foreign}
use Rattle.queue.specs.History.{nexted, peeked, quiet, refused, foreign_answered, submitted, polled, completed, reclaimed, marked, rolled}
use Rattle.queue.specs.History.{unchanged}
use Rattle.queue.specs.Promise.{Undoes, UndoesIntact, Rules, Each, Refusal, RightUnchanged, Right}
use Rattle.queue.specs.Sentences.{All}
use Rattle.queue.proofs.Model.{Mark, Queue, start, tail, Member, mark_of, promised_by, next, model, Undo, UndoIntact, OkRefusal, OkUnchanged, Ok}
use Rattle.queue.proofs.Model.{AllOk}
use Rattle.queue.proofs.Listing.{all_append, all_map, all_of, Under, Rising, under_mono, rising_snoc, rising_take, items_append, length_items}
use Rattle.queue.proofs.Listing.{upto_under, after_under, but_last_rest, but_last_append, all_but_last, named_fit, member_left, member_last}
use Rattle.queue.proofs.Listing.{member_snoc, nil_of}

-- of a mark with as many completions as now, no poll before the last completion came after it
abbrev pub MarkOk : {C : Type 0} → ℕ → ℕ → Mark C → Type 0
MarkOk c s m = (m.comps ≤ c) × (m.comps ≡ c → s ≤ m.polls)

module _ {C : Type 0} where
  -- the polls that stood at the last completion: no rollback undoes them
  unfoldable pub settled : History C → List Poll
  settled [] = []
  settled (submitted x ∷ h) = settled h
  settled (polled x ∷ h) = settled h
  settled (completed d ∷ h) = standing h
  settled (reclaimed d ∷ h) = settled h
  settled (marked c ∷ h) = settled h
  settled (rolled c js ∷ h) = settled h
  settled (unchanged l ∷ h) = settled h

  -- the queue's state is what the history says
  pub record Link (h : History C) (q : Queue C) : Type 0 where
    pub published : pubs h ≡ items (standing h) ++ q.waiting
    pub given : comps h ≡ reclaims h ++ q.done
    pub stand : standing h ≡ settled h ++ q.fresh
    pub under : Under q.since (settled h)
    pub live_under : Under q.polls (standing h)
    pub rising : Rising (standing h)
    pub held_is : held h ≡ q.old ++ q.fresh
    pub out_is : out h ≡ q.out
    pub promised_is : promised h ≡ q.promised
    pub polls_is : polls h ≡ q.polls
    pub comps_is : length (comps h) ≡ q.comps
    pub since_le : q.since ≤ q.polls
    pub marks_ok : All (MarkOk q.comps q.since) q.marks

  link_start : Link [] start
  unfolding pubs polls comps reclaims standing held out promised settled
  link_start =
      record {
        published = refl;
        given = refl;
        stand = refl;
        under = tt;
        live_under = tt;
        rising = tt;
        held_is = refl;
        out_is = refl;
        promised_is = refl;
        polls_is = refl;
        comps_is = refl;
        since_le = omega arith;
        marks_ok = tt;
      }

-- the equations of a step, over plain lists
pub_poll : (P : List Item) (L : List Poll) (w later : List Item) (p : Poll) → P ≡ items L ++ w → w ≡ p.item ∷ later
    → P ≡ items (L ++ (p ∷ [])) ++ tail w
pub_poll P L w later p e o = rw (items_append, append_assoc, e, o)

give : (C R w later : List Done) (d : Done) → C ≡ R ++ w → w ≡ d ∷ later → C ≡ (R ++ (d ∷ [])) ++ tail w
give C R w later d e o = rw (append_assoc, e, o)

pub_roll : (P : List Item) (L s f : List Poll) (w : List Item) (n : ℕ) → P ≡ items L ++ w → L ≡ s ++ f
    → P ≡ items (s ++ but_last n f) ++ (items (drop (length f - n) f) ++ w)
pub_roll P L s f w n e o =
    e ∙ ap (λ (l : List Poll). items l ++ w) (o ∙ ap (λ (l : List Poll). s ++ l) (sym (but_last_rest n f)) ∙ sym (append_assoc s (but_last n f) (drop (length f - n) f)))
    ∙ rw (items_append (s ++ but_last n f), append_assoc (items (s ++ but_last n f)))

snoc_is : (L s f : List Poll) (n m : ℕ) (x : Item) → n ≡ m → L ≡ s ++ f
    → L ++ (record { no = suc n; item = x } ∷ []) ≡ s ++ (f ++ (record { no = suc m; item = x } ∷ []))
snoc_is L s f n m x e o = rw (o, e, append_assoc)

module _ {C : Type 0} where
  promised_unchanged : (h : History C) (q : Queue C) (l : Unchanged C) → promised h ≡ q.promised → promised (unchanged l ∷ h) ≡ promised_by q l
  unfolding promised
  promised_unchanged h q (nexted i) e = refl
  promised_unchanged h q (peeked b) e = e
  promised_unchanged h q quiet e = e
  promised_unchanged h q (refused k v n) e = e
  promised_unchanged h q (foreign_answered n) e = e

  link_step : (rules : Rules C) (h : History C) (q : Queue C) (e : Event C) → Link h q → Ok rules h q e → Link (e ∷ h) (next q e)
  unfolding pubs polls comps reclaims standing held out promised settled next
  link_step rules h q (submitted x) l o =
      record {
        published = ap (λ (s : List Item). s ++ (x ∷ [])) l.published ∙ append_assoc (items (standing h)) q.waiting (x ∷ []);
        given = l.given;
        stand = l.stand;
        under = l.under;
        live_under = l.live_under;
        rising = l.rising;
        held_is = l.held_is;
        out_is = ap (λ (s : List Item). s ++ (x ∷ [])) l.out_is;
        promised_is = refl;
        polls_is = l.polls_is;
        comps_is = l.comps_is;
        since_le = l.since_le;
        marks_ok = l.marks_ok;
      }
  link_step rules h q (polled x) l o =
      let p : Poll = record { no = suc (polls h); item = x } in
      record {
        published = pub_poll (pubs h) (standing h) q.waiting o.0 p l.published o.1;
        given = l.given;
        stand = snoc_is (standing h) (settled h) q.fresh (polls h) q.polls x l.polls_is l.stand;
        under = l.under;
        live_under =
            all_append (λ (z : Poll). z.no ≤ suc q.polls) (standing h) (p ∷ []) (under_mono (omega arith) (standing h) l.live_under) (omega (arith, l.polls_is), tt);
        rising = rising_snoc q.polls (standing h) p l.live_under (omega (arith, l.polls_is)) l.rising;
        held_is = snoc_is (held h) q.old q.fresh (polls h) q.polls x l.polls_is l.held_is;
        out_is = l.out_is;
        promised_is = l.promised_is;
        polls_is = ap suc l.polls_is;
        comps_is = l.comps_is;
        since_le = omega (arith, l.since_le);
        marks_ok = l.marks_ok;
      }
  link_step rules h q (completed d) l o =
      record {
        published = l.published;
        given = ap (λ (s : List Done). s ++ (d ∷ [])) l.given ∙ append_assoc (reclaims h) q.done (d ∷ []);
        stand = sym (append-nil (standing h));
        under = l.live_under;
        live_under = l.live_under;
        rising = l.rising;
        held_is = ap (without d.id) l.held_is ∙ sym (append-nil (without d.id (q.old ++ q.fresh)));
        out_is = l.out_is;
        promised_is = l.promised_is;
        polls_is = l.polls_is;
        comps_is = omega (arith, length-append (comps h) (d ∷ []), l.comps_is);
        since_le = le_refl q.polls;
        marks_ok =
            all_map (MarkOk q.comps q.since) (MarkOk (suc q.comps) q.polls)
            (λ m z. (omega (arith, z.0), λ (e : m.comps ≡ suc q.comps). omega (arith, z.0))) q.marks l.marks_ok;
      }
  link_step rules h q (reclaimed d) l o =
      record {
        published = l.published;
        given = give (comps h) (reclaims h) q.done o.0 d l.given o.1;
        stand = l.stand;
        under = l.under;
        live_under = l.live_under;
        rising = l.rising;
        held_is = l.held_is;
        out_is = rw l.out_is;
        promised_is = refl;
        polls_is = l.polls_is;
        comps_is = l.comps_is;
        since_le = l.since_le;
        marks_ok = l.marks_ok;
      }
  link_step rules h q (marked c) l o =
      record {
        published = l.published;
        given = l.given;
        stand = l.stand;
        under = l.under;
        live_under = l.live_under;
        rising = l.rising;
        held_is = l.held_is;
        out_is = l.out_is;
        promised_is = l.promised_is;
        polls_is = l.polls_is;
        comps_is = l.comps_is;
        since_le = l.since_le;
        marks_ok =
            all_append (MarkOk q.comps q.since) q.marks (mark_of q c ∷ []) l.marks_ok ((le_refl q.comps, λ e. l.since_le), tt);
      }
  link_step rules h q (rolled c js) l o =
      let fit : length js ≤ length q.fresh = named_fit o.mark.polls q.fresh js o.names in
      let cut : but_last (length js) (standing h) ≡ settled h ++ but_last (length js) q.fresh =
      ap (but_last (length js)) l.stand ∙ but_last_append (length js) (settled h) q.fresh fit in
      record {
        published = rw cut (pub_roll (pubs h) (standing h) (settled h) q.fresh q.waiting (length js) l.published l.stand);
        given = l.given;
        stand = cut;
        under = l.under;
        live_under = all_but_last (λ (p : Poll). p.no ≤ q.polls) (length js) (standing h) l.live_under;
        rising = rising_take (length (standing h) - length js) (standing h) l.rising;
        held_is = ap (but_last (length js)) l.held_is ∙ but_last_append (length js) q.old q.fresh fit;
        out_is = l.out_is;
        promised_is = l.promised_is;
        polls_is = l.polls_is;
        comps_is = l.comps_is;
        since_le = l.since_le;
        marks_ok = l.marks_ok;
      }
  link_step rules h q (unchanged k) l o =
      record {
        published = l.published;
        given = l.given;
        stand = l.stand;
        under = l.under;
        live_under = l.live_under;
        rising = l.rising;
        held_is = l.held_is;
        out_is = l.out_is;
        promised_is = promised_unchanged h q k l.promised_is;
        polls_is = l.polls_is;
        comps_is = l.comps_is;
        since_le = l.since_le;
        marks_ok = l.marks_ok;
      }

  pub link : (rules : Rules C) (h : History C) → AllOk rules h → Link h (model h)
  unfolding model
  link rules [] o = link_start
  link rules (e ∷ h) o = link_step rules h (model h) e (link rules h o.0) o.1

  -- ---- the checkpoints of the queue are those that the history took

  pub all_ok_before : (rules : Rules C) (g h : History C) → AllOk rules (g ++ h) → AllOk rules h
  all_ok_before rules [] h o = o
  all_ok_before rules (e ∷ g) h o = all_ok_before rules g h o.0

  marks_grow : (q : Queue C) (e : Event C) (m : Mark C) → Member m q.marks → Member m (next q e).marks
  unfolding next
  marks_grow q (submitted x) m k = k
  marks_grow q (polled x) m k = k
  marks_grow q (completed d) m k = k
  marks_grow q (reclaimed d) m k = k
  marks_grow q (marked c) m k = member_left m q.marks (mark_of q c ∷ []) k
  marks_grow q (rolled c js) m k = k
  marks_grow q (unchanged l) m k = k

  mark_since : (since before : History C) (c : C) → Member (mark_of (model before) c) (model (since ++ (marked c ∷ before))).marks
  unfolding model next
  mark_since [] before c = member_last (mark_of (model before) c) (model before).marks
  mark_since (e ∷ since) before c = marks_grow (model (since ++ (marked c ∷ before))) e (mark_of (model before) c) (mark_since since before c)

  pub mark_in : (h since before : History C) (c : C) → h ≡ since ++ (marked c ∷ before) → Member (mark_of (model before) c) (model h).marks
  mark_in h since before c e = rw e (mark_since since before c)

  -- a mark of the queue, and where in the history it was taken
  record Came (h : History C) (m : Mark C) : Type 0 where
    since : History C
    before : History C
    took : h ≡ since ++ (marked m.value ∷ before)
    is : m ≡ mark_of (model before) m.value

  came_on : (h : History C) (e : Event C) (m : Mark C) → Came h m → Came (e ∷ h) m
  came_on h e m k =
      record { since = e ∷ k.since; before = k.before; took = ap (λ (g : History C). e ∷ g) k.took; is = k.is }

  came_marked : (h : History C) (c : C) (m : Mark C) → (Member m (model h).marks → Came h m) → Member m (model h).marks ⊎ (mark_of (model h) c ≡ m)
      → Came (marked c ∷ h) m
  came_marked h c m f (inl k) = came_on h (marked c) m (f k)
  came_marked h c m f (inr e) = subst (Came (marked c ∷ h)) e (record { since = []; before = h; took = refl; is = refl })

  came : (h : History C) (m : Mark C) → Member m (model h).marks → Came h m
  unfolding model next
  came [] m k = absurd k
  came (submitted x ∷ h) m k = came_on h (submitted x) m (came h m k)
  came (polled x ∷ h) m k = came_on h (polled x) m (came h m k)
  came (completed d ∷ h) m k = came_on h (completed d) m (came h m k)
  came (reclaimed d ∷ h) m k = came_on h (reclaimed d) m (came h m k)
  came (marked c ∷ h) m k = came_marked h c m (λ z. came h m z) (member_snoc m (model h).marks (mark_of (model h) c) k)
  came (rolled c js ∷ h) m k = came_on h (rolled c js) m (came h m k)
  came (unchanged l ∷ h) m k = came_on h (unchanged l) m (came h m k)

  -- ---- no completion between

  pub comps_append : (g h : History C) → comps (g ++ h) ≡ comps h ++ comps g
  unfolding comps
  comps_append [] h = sym (append-nil (comps h))
  comps_append (submitted x ∷ g) h = comps_append g h
  comps_append (polled x ∷ g) h = comps_append g h
  comps_append (completed d ∷ g) h = ap (λ (l : List Done). l ++ (d ∷ [])) (comps_append g h) ∙ append_assoc (comps h) (comps g) (d ∷ [])
  comps_append (reclaimed d ∷ g) h = comps_append g h
  comps_append (marked c ∷ g) h = comps_append g h
  comps_append (rolled c js ∷ g) h = comps_append g h
  comps_append (unchanged l ∷ g) h = comps_append g h

  none_between : (g h : History C) → length (comps (g ++ h)) ≡ length (comps h) → length (comps g) ≡ 0
  none_between g h e = omega (arith, ap length (comps_append g h), length-append (comps h) (comps g))

  -- as many completions before as now: the same, and the same polls are settled
  same_comps : (g h : History C) → length (comps g) ≡ 0 → comps (g ++ h) ≡ comps h
  same_comps g h e = comps_append g h ∙ ap (λ (l : List Done). comps h ++ l) (nil_of (comps g) e) ∙ append-nil (comps h)

  same_settled : (g h : History C) → length (comps g) ≡ 0 → settled (g ++ h) ≡ settled h
  unfolding comps settled
  same_settled [] h e = refl
  same_settled (submitted x ∷ g) h e = same_settled g h e
  same_settled (polled x ∷ g) h e = same_settled g h e
  same_settled (completed d ∷ g) h e = absurd (omega (arith, length-append (comps g) (d ∷ [])))
  same_settled (reclaimed d ∷ g) h e = same_settled g h e
  same_settled (marked c ∷ g) h e = same_settled g h e
  same_settled (rolled c js ∷ g) h e = same_settled g h e
  same_settled (unchanged l ∷ g) h e = same_settled g h e

  comps_marked : (c : C) (h : History C) → comps (marked c ∷ h) ≡ comps h
  unfolding comps
  comps_marked c h = refl

  settled_marked : (c : C) (h : History C) → settled (marked c ∷ h) ≡ settled h
  unfolding settled
  settled_marked c h = refl

  -- ---- a rollback that is honest by the history is so by the queue, and the other way round

  -- what a checkpoint of the history is in the queue
  module _ (rules : Rules C) (h : History C) (ok : AllOk rules h) (c : C) (since before : History C) (took : h ≡ since ++ (marked c ∷ before)) where
    ok_before : AllOk rules before
    ok_before = (all_ok_before rules since (marked c ∷ before) (rw took at ok)).0

    at_polls : polls before ≡ (model before).polls
    at_polls = (link rules before ok_before).polls_is

    pub comps_now : comps h ≡ comps before → (model before).comps ≡ (model h).comps
    comps_now e = sym (link rules before ok_before).comps_is ∙ ap length (sym e) ∙ (link rules h ok).comps_is

    module _ (same : (model before).comps ≡ (model h).comps) where
      between : length (comps since) ≡ 0
      between =
          none_between since (marked c ∷ before)
          (ap (λ (g : History C). length (comps g)) (sym took) ∙ (link rules h ok).comps_is ∙ sym same ∙ sym (link rules before ok_before).comps_is
          ∙ ap length (sym (comps_marked c before)))

      comps_then : comps h ≡ comps before
      comps_then = ap comps took ∙ same_comps since (marked c ∷ before) between ∙ comps_marked c before

      settled_then : settled h ≡ settled before
      settled_then = ap settled took ∙ same_settled since (marked c ∷ before) between ∙ settled_marked c before

      pub settled_under : Under (polls before) (settled h)
      settled_under =
          let low : (model h).since ≤ (model before).polls =
          (all_of (MarkOk (model h).comps (model h).since) (mark_of (model before) c) (model h).marks (mark_in h since before c took) (link rules h ok).marks_ok).1 same in
          under_mono (rw at_polls low) (settled h) (link rules h ok).under

      pub same_after : after (polls before) (standing h) ≡ after (model before).polls (model h).fresh
      same_after =
          ap (after (polls before)) (link rules h ok).stand ∙ after_under (polls before) (settled h) (model h).fresh settled_under
          ∙ ap (λ (k : ℕ). after k (model h).fresh) at_polls

      same_upto : upto (polls before) (standing h) ≡ settled h ++ upto (model before).polls (model h).fresh
      same_upto =
          ap (upto (polls before)) (link rules h ok).stand ∙ upto_under (polls before) (settled h) (model h).fresh settled_under
          ∙ ap (λ (k : ℕ). settled h ++ upto k (model h).fresh) at_polls

      standing_before : standing before ≡ settled h ++ (model before).fresh
      standing_before = (link rules before ok_before).stand ∙ ap (λ (l : List Poll). l ++ (model before).fresh) (sym settled_then)

  module _ (rules : Rules C) (h : History C) (ok : AllOk rules h) (c : C) (js : List ℕ) where
    pub undo_of : Undoes h c js → Undo (model h) c js
    undo_of u =
        let same : (model u.before).comps ≡ (model h).comps = comps_now rules h ok c u.since u.before u.took u.none_completed in
        record {
          mark = mark_of (model u.before) c;
          taken = mark_in h u.since u.before c u.took;
          value = refl;
          same_comps = same;
          names = λ y. u.names y ∙ ap (λ (l : List Poll). times y (ids l)) (same_after rules h ok c u.since u.before u.took same);
        }

    pub undo_intact_of : UndoesIntact h c js → UndoIntact (model h) c js
    unfolding undo_of
    undo_intact_of a =
        let u : Undoes h c js = a.undoes in
        let same : (model u.before).comps ≡ (model h).comps = comps_now rules h ok c u.since u.before u.took u.none_completed in
        record {
          undo = undo_of u;
          stand =
              append_cancel_left (settled h) (upto (model u.before).polls (model h).fresh) (model u.before).fresh
              (sym (same_upto rules h ok c u.since u.before u.took same) ∙ a.stand ∙ standing_before rules h ok c u.since u.before u.took same);
        }

    -- the mark of an `Undo`, as the history has it
    record Back (u : Undo (model h) c js) : Type 0 where
      since : History C
      before : History C
      took : h ≡ since ++ (marked c ∷ before)
      is : u.mark ≡ mark_of (model before) c

    back : (u : Undo (model h) c js) → Back u
    back u =
        let k : Came h u.mark = came h u.mark u.taken in
        record {
          since = k.since;
          before = k.before;
          took = k.took ∙ ap (λ (v : C). k.since ++ (marked v ∷ k.before)) u.value;
          is = k.is ∙ ap (mark_of (model k.before)) u.value;
        }

    back_same : (u : Undo (model h) c js) → (model (back u).before).comps ≡ (model h).comps
    back_same u = ap (λ (m : Mark C). m.comps) (sym (back u).is) ∙ u.same_comps

    pub undoes_of : Undo (model h) c js → Undoes h c js
    undoes_of u =
        let b : Back u = back u in
        record {
          since = b.since;
          before = b.before;
          took = b.took;
          none_completed = comps_then rules h ok c b.since b.before b.took (back_same u);
          names = λ y.
              u.names y ∙ ap (λ (m : Mark C). times y (ids (after m.polls (model h).fresh))) b.is
              ∙ ap (λ (l : List Poll). times y (ids l)) (sym (same_after rules h ok c b.since b.before b.took (back_same u)));
        }

  -- ---- the promise

  module _ (rules : Rules C) (h : History C) (ok : AllOk rules h) where
    l : Link h (model h)
    l = link rules h ok

    pub waiting_is : waiting h ≡ (model h).waiting
    waiting_is = ap (λ (x : List Item). drop (length (standing h)) x) l.published ∙ drop_at (items (standing h)) (model h).waiting (length (standing h)) (length_items (standing h))

    none_waits : (model h).waiting ≡ [] → pubs h ≡ items (standing h)
    none_waits e = l.published ∙ ap (λ (w : List Item). items (standing h) ++ w) e ∙ append-nil (items (standing h))

    right_refusal : (c : Kind C) (n : ℕ) → OkRefusal rules (model h) c n → Refusal rules h c n
    right_refusal (submit c) n o = rw l.out_is o
    right_refusal reclaim n o = (o.0, l.given ∙ ap (λ (w : List Done). reclaims h ++ w) o.1 ∙ append-nil (reclaims h))
    right_refusal next_id n o = rw l.out_is o
    right_refusal poll n o = (o.0, none_waits o.1)
    right_refusal (complete d) n o = (o.0, rw l.held_is o.1)
    right_refusal peek n o = o
    right_refusal checkpoint n o = o
    right_refusal (rollback c js) n o = o
    right_refusal other n o = o
    right_refusal foreign n o = o

    right_unchanged : (u : Unchanged C) → OkUnchanged rules h (model h) u → RightUnchanged rules h u
    right_unchanged (nexted i) o = rw (l.out_is, l.promised_is) o
    right_unchanged (peeked b) o = rw waiting_is o
    right_unchanged quiet o = tt
    right_unchanged (refused k v n) o = (o.0, ⊎_elim inl (λ z. inr (z.0, right_refusal k n z.1)) o.1)
    right_unchanged (foreign_answered n) o = tt

    right : (e : Event C) → Ok rules h (model h) e → Right rules h e
    right (submitted x) o = rw (l.out_is, l.promised_is) o
    right (polled x) o = (o.0, l.published ∙ ap (λ (w : List Item). items (standing h) ++ w) o.1)
    right (completed d) o = rw l.held_is o
    right (reclaimed d) o = (o.0, l.given ∙ ap (λ (w : List Done). reclaims h ++ w) o.1)
    right (marked c) o = tt
    right (rolled c js) o = undoes_of rules h ok c js o
    right (unchanged u) o = right_unchanged u o

  -- every history that the queue allows is answered rightly
  pub rightly : (rules : Rules C) (h : History C) → AllOk rules h → Each (Right rules) h
  rightly rules [] o = tt
  rightly rules (e ∷ h) o = (rightly rules h o.0, right rules h o.0 e o.1)

  -- ---- and back: what the promise allows, the queue allows; so whatever follows from the queue follows from the promise alone

  module _ (rules : Rules C) (h : History C) (ok : AllOk rules h) where
    k : Link h (model h)
    k = link rules h ok

    -- what waits, and what is done, by what comes after those polled and those returned
    waits : (w : List Item) → pubs h ≡ items (standing h) ++ w → (model h).waiting ≡ w
    waits w e = append_cancel_left (items (standing h)) (model h).waiting w (sym k.published ∙ e)

    dones : (w : List Done) → comps h ≡ reclaims h ++ w → (model h).done ≡ w
    dones w e = append_cancel_left (reclaims h) (model h).done w (sym k.given ∙ e)

    ok_refusal : (c : Kind C) (n : ℕ) → Refusal rules h c n → OkRefusal rules (model h) c n
    ok_refusal (submit c) n r = rw (← k.out_is) r
    ok_refusal reclaim n r = (r.0, dones [] (r.1 ∙ sym (append-nil (reclaims h))))
    ok_refusal next_id n r = rw (← k.out_is) r
    ok_refusal poll n r = (r.0, waits [] (r.1 ∙ sym (append-nil (items (standing h)))))
    ok_refusal (complete d) n r = (r.0, rw (← k.held_is) r.1)
    ok_refusal peek n r = r
    ok_refusal checkpoint n r = r
    ok_refusal (rollback c js) n r = r
    ok_refusal other n r = r
    ok_refusal foreign n r = r

    ok_unchanged : (u : Unchanged C) → RightUnchanged rules h u → OkUnchanged rules h (model h) u
    ok_unchanged (nexted i) r = rw (← k.out_is, ← k.promised_is) r
    ok_unchanged (peeked b) r = rw (← waiting_is rules h ok) r
    ok_unchanged quiet r = tt
    ok_unchanged (refused c v n) r = (r.0, ⊎_elim inl (λ z. inr (z.0, ok_refusal c n z.1)) r.1)
    ok_unchanged (foreign_answered n) r = tt

    ok_of : (e : Event C) → Right rules h e → Ok rules h (model h) e
    ok_of (submitted x) r = rw (← k.out_is, ← k.promised_is) r
    ok_of (polled x) r = (r.0, waits (x ∷ r.0) r.1)
    ok_of (completed d) r = rw (← k.held_is) r
    ok_of (reclaimed d) r = (r.0, dones (d ∷ r.0) r.1)
    ok_of (marked c) r = tt
    ok_of (rolled c js) r = undo_of rules h ok c js r
    ok_of (unchanged u) r = ok_unchanged u r

  pub allowed : (rules : Rules C) (h : History C) → Each (Right rules) h → AllOk rules h
  allowed rules [] f = tt
  allowed rules (e ∷ h) f = let ok : AllOk rules h = allowed rules h f.0 in (ok, ok_of rules h ok e f.1)
