-- Which slots spell which chains, over a view: a function from unwrapped positions to descriptors.
-- Assumes nothing.
use Prim.Native.Nat.{ℕ, ◌+◌, ◌-◌, ◌≤◌, ◌<◌}
use mathlib.Core.Path.{◌≡◌, sym, ap, ◌∙◌}
use mathlib.Core.Bool.{not}
use mathlib.Core.List.{List, [], ◌∷◌, ◌++◌}
use native.Mathlib.Omega.{arith}
use native.Mathlib.Nat.{add-zero, add_assoc, le_refl}
use Rattle.desc.specs.declared.Descriptor.{Descriptor}
use Rattle.desc.specs.Flags.{AVAIL, USED, has}
use Rattle.desc.specs.Desc.{descriptor, mark_avail, mark_used}
use Rattle.desc.proofs.Flags.{marked_avail}
use Rattle.producer.specs.Submit.{element_of}
use Rattle.queue.specs.History.{Item, slots_of}
use Rattle.packed.proofs.Position.{round}
use Rattle.packed.proofs.Counts.{Used, of_items, of_used, tot, Pos}

-- element j of an item
abbrev pub element_at : Item → ℕ → Descriptor
element_at x j = element_of x.id x.chain.addrs x.chain.lens x.chain.readable j

module _ (size : ℕ) where
  -- an item's chain in the slots from position p on, each element available in its slot's round
  abbrev pub Spell : (ℕ → Descriptor) → ℕ → Item → Type 0
  Spell f p x = (j : ℕ) → j < slots_of x.chain → f (p + j) ≡ mark_avail (element_at x j) (round size (p + j))

  abbrev pub Spells : (ℕ → Descriptor) → ℕ → List Item → Type 0
  Spells f p [] = Unit
  Spells f p (x ∷ xs) = Spell f p x × Spells f (p + slots_of x.chain) xs

  -- the used slot of a completion at position p; one at the start of each chain that came back
  abbrev pub used_at : Used → ℕ → Descriptor
  used_at u p = mark_used (descriptor 0 u.done.len u.done.id 0) (round size p)

  abbrev pub Returns : (ℕ → Descriptor) → ℕ → List Used → Type 0
  Returns f p [] = Unit
  Returns f p (u ∷ us) = (f p ≡ used_at u p) × Returns f (p + u.n) us

  abbrev pub Agree : (ℕ → Descriptor) → (ℕ → Descriptor) → ℕ → ℕ → Type 0
  Agree f g a b = (p : ℕ) → a ≤ p → p < b → f p ≡ g p

  pub spells_cong : (f g : ℕ → Descriptor) (p : ℕ) (xs : List Item) → Agree f g p (p + tot (of_items xs)) → Spells f p xs → Spells g p xs
  spells_cong f g p [] a s = tt
  spells_cong f g p (x ∷ xs) a s = (
    (λ j h. sym (a (p + j) (omega arith) (omega arith)) ∙ s.0 j h),
    spells_cong f g (p + slots_of x.chain) xs (λ q l h. a q (omega arith) (omega arith)) s.1,
  )

  pub returns_cong : (f g : ℕ → Descriptor) (p : ℕ) (us : List Used) → Agree f g p (p + tot (of_used us)) → Pos (of_used us) → Returns f p us → Returns g p us
  returns_cong f g p [] a k s = tt
  returns_cong f g p (u ∷ us) a k s = (
    sym (a p (le_refl p) (omega (arith, k.0))) ∙ s.0,
    returns_cong f g (p + u.n) us (λ q l h. a q (omega arith) (omega arith)) k.1 s.1,
  )

  pub spells_append : (f : ℕ → Descriptor) (p : ℕ) (xs ys : List Item) → Spells f p xs → Spells f (p + tot (of_items xs)) ys → Spells f p (xs ++ ys)
  spells_append f p [] ys s t = rw add-zero at t
  spells_append f p (x ∷ xs) ys s t = (s.0, spells_append f (p + slots_of x.chain) xs ys s.1 (rw add_assoc t))

  pub spells_split : (f : ℕ → Descriptor) (p : ℕ) (xs ys : List Item) → Spells f p (xs ++ ys) → Spells f p xs × Spells f (p + tot (of_items xs)) ys
  spells_split f p [] ys s = (tt, rw add-zero s)
  spells_split f p (x ∷ xs) ys s =
      let ih = spells_split f (p + slots_of x.chain) xs ys s.1 in
      ((s.0, ih.0), rw add_assoc at ih.1)

  pub returns_append : (f : ℕ → Descriptor) (p : ℕ) (us vs : List Used) → Returns f p us → Returns f (p + tot (of_used us)) vs → Returns f p (us ++ vs)
  returns_append f p [] vs s t = rw add-zero at t
  returns_append f p (u ∷ us) vs s t = (s.0, returns_append f (p + u.n) us vs s.1 (rw add_assoc t))

  -- the flags of a chain's slots: available in their own rounds
  pub spell_flags :
      (f : ℕ → Descriptor) (p : ℕ) (x : Item) → Spell f p x → (q : ℕ) → p ≤ q → q < p + slots_of x.chain
      → (has (f q).flags AVAIL ≡ round size q) × (has (f q).flags USED ≡ not (round size q))
  spell_flags f p x s q l h =
      let e : p + (q - p) ≡ q = omega arith in
      let d : f q ≡ mark_avail (element_at x (q - p)) (round size q) =
      ap f (sym e) ∙ s (q - p) (omega arith) ∙ ap (λ (k : ℕ). mark_avail (element_at x (q - p)) (round size k)) e in
      let m = marked_avail (element_at x (q - p)) (round size q) in
      (ap (λ (y : Descriptor). has y.flags AVAIL) d ∙ m.0, ap (λ (y : Descriptor). has y.flags USED) d ∙ m.1)
