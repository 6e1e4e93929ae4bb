-- Nothing that a poll hands out differs from what was submitted: from the promise alone.
-- Assumes nothing.
use Prim.Native.Nat.{ℕ}
use mathlib.Core.Path.{sym, subst}
use mathlib.Core.List.{List, [], ◌∷◌}
use lib.ListN.{length}
use Rattle.queue.specs.History.{Item, History, items, pubs, standing}
use Rattle.queue.specs.History.{submitted, polled, completed, reclaimed, marked, rolled, unchanged}
use Rattle.queue.specs.Promise.{Fine, Rules, Each, Right}
use Rattle.queue.specs.Sentences.{All, At}
use Rattle.queue.proofs.Listing.{all_append}
use Rattle.queue.proofs.Reader.{at_seam, at_all}

module _ {C : Type 0} (rules : Rules C) where
  -- every published chain had good slices
  fine_pubs : (h : History C) → Each (Right rules) h → All (λ (x : Item). Fine x.chain) (pubs h)
  unfolding pubs
  fine_pubs [] f = tt
  fine_pubs (submitted x ∷ h) f = all_append (λ (y : Item). Fine y.chain) (pubs h) (x ∷ []) (fine_pubs h f.0) (f.1.1.1.0, tt)
  fine_pubs (polled x ∷ h) f = fine_pubs h f.0
  fine_pubs (completed d ∷ h) f = fine_pubs h f.0
  fine_pubs (reclaimed d ∷ h) f = fine_pubs h f.0
  fine_pubs (marked c ∷ h) f = fine_pubs h f.0
  fine_pubs (rolled c js ∷ h) f = fine_pubs h f.0
  fine_pubs (unchanged l ∷ h) f = fine_pubs h f.0

  -- a poll gives an item that was published: its ID, its elements, and its readable count, which is within them
  pub handed : (h : History C) (x : Item) → Each (Right rules) (polled x ∷ h) → (p : ℕ) × (At (pubs h) p x × Fine x.chain)
  handed h x f =
      let a : At (pubs h) (length (items (standing h))) x = subst (λ (l : List Item). At l (length (items (standing h))) x) (sym f.1.1) (at_seam (items (standing h)) x f.1.0) in
      (length (items (standing h)), (a, at_all (λ (y : Item). Fine y.chain) (pubs h) (length (items (standing h))) x a (fine_pubs h f.0)))
