-- What an accepted rollback does: the polls since its checkpoint stand no more, and their chains wait again, before all others.
-- Assumes nothing.
use mathlib.Core.Path.{◌≡◌, sym, ap, ◌∙◌}
use Prim.Native.Nat.{ℕ, ◌≤◌}
use mathlib.Core.List.{List, ◌∷◌, ◌++◌, append_assoc}
use lib.ListN.{length, drop}
use lib.Seq.{drop_at}
use Rattle.queue.specs.History.{Item, History, Poll, items, ids, upto, after, times, pubs, polls, standing, held, waiting}
use Rattle.queue.specs.History.{rolled}
use Rattle.queue.specs.Promise.{Undoes, Rules}
use Rattle.queue.proofs.Model.{Member, model, AllOk}
use Rattle.queue.proofs.Listing.{all_map, all_of, Under, items_append, length_items, upto_after, after_under, but_last_upto}
use Rattle.queue.proofs.Trace.{settled, link, waiting_is, settled_under, comps_now}
use Rattle.queue.proofs.Kept.{served}

module _ {C : Type 0} (h : History C) (c : C) (js : List ℕ) (u : Undoes h c js) where
  -- "undoing every poll since": the polls that stand are those up to the checkpoint
  pub undone : standing (rolled c js ∷ h) ≡ upto (polls u.before) (standing h)
  unfolding standing
  undone = but_last_upto (polls u.before) (standing h) js u.names

  module _ (rules : Rules C) (ok : AllOk rules h) where
    same : (model u.before).comps ≡ (model h).comps
    same = comps_now rules h ok c u.since u.before u.took u.none_completed

    -- what is held from before the last completion was polled before the checkpoint
    old_under : Under (polls u.before) (model h).old
    old_under =
        all_map (λ (p : Poll). Member p (settled h)) (λ (p : Poll). p.no ≤ polls u.before)
        (λ p m. all_of (λ (r : Poll). r.no ≤ polls u.before) p (settled h) m (settled_under rules h ok c u.since u.before u.took same)) (model h).old
        (served rules h ok).old_in

    held_after : after (polls u.before) (held h) ≡ after (polls u.before) (standing h)
    held_after =
        ap (after (polls u.before)) (link rules h ok).held_is ∙ after_under (polls u.before) (model h).old (model h).fresh old_under
        ∙ sym (after_under (polls u.before) (settled h) (model h).fresh (settled_under rules h ok c u.since u.before u.took same))
        ∙ ap (after (polls u.before)) (sym (link rules h ok).stand)

    -- the same of what the consumer holds
    pub undone_held : held (rolled c js ∷ h) ≡ upto (polls u.before) (held h)
    unfolding held
    undone_held = but_last_upto (polls u.before) (held h) js (λ y. u.names y ∙ ap (λ (l : List Poll). times y (ids l)) (sym held_after))

    -- the chains of the polls undone wait again, the oldest first, before those that waited
    pub wait_again : waiting (rolled c js ∷ h) ≡ items (after (polls u.before) (standing h)) ++ waiting h
    unfolding pubs
    wait_again =
        let whole : pubs h ≡ items (upto (polls u.before) (standing h)) ++ (items (after (polls u.before) (standing h)) ++ (model h).waiting) =
        (link rules h ok).published ∙ ap (λ (l : List Poll). items l ++ (model h).waiting) (sym (upto_after (polls u.before) (standing h)))
        ∙ ap (λ (l : List Item). l ++ (model h).waiting) (items_append (upto (polls u.before) (standing h)) (after (polls u.before) (standing h)))
        ∙ append_assoc (items (upto (polls u.before) (standing h))) (items (after (polls u.before) (standing h))) (model h).waiting in
        ap (λ (l : List Poll). drop (length l) (pubs h)) undone ∙ ap (λ (l : List Item). drop (length (upto (polls u.before) (standing h))) l) whole
        ∙ drop_at (items (upto (polls u.before) (standing h))) (items (after (polls u.before) (standing h)) ++ (model h).waiting)
        (length (upto (polls u.before) (standing h))) (length_items (upto (polls u.before) (standing h)))
        ∙ ap (λ (l : List Item). items (after (polls u.before) (standing h)) ++ l) (sym (waiting_is rules h ok))
