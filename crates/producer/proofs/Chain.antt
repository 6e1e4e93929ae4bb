-- The tails of a chain, turn by turn.
-- Assumes nothing.
use Prim.Native.Nat.{ℕ, suc, ◌+◌, ◌-◌, ◌≤◌, ◌<◌}
use mathlib.Core.Path.{◌≡◌, sym, ◌∙◌, ap}
use mathlib.Core.List.{List}
use native.Mathlib.Omega.{arith}
use native.Mathlib.Numerals.{add-one}
use Rattle.cursor.specs.declared.RingCursor.{RingCursor}
use Rattle.cursor.specs.Cursor.{step}
use Rattle.desc.specs.declared.Descriptor.{Descriptor}
use Rattle.layout.specs.declared.Layout.{Layout}
use Rattle.producer.specs.Submit.{put_avail, put_tails, written}

module _ (l : Layout) (f : ℕ → Descriptor) (n i : ℕ) (c : RingCursor) (ring : List ℕ) where
  pub tails_more :
      i < n → put_tails l f (n - i) i c ring ≡ put_tails l f (n - (i + 1)) (i + 1) (step l.size c) (put_avail l c (f i) ring)
  unfolding put_tails
  tails_more h =
      let e : n - i ≡ suc (n - (i + 1)) = omega arith in
      ap (λ (k : ℕ). put_tails l f k i c ring) e
      ∙ ap (λ (j : ℕ). put_tails l f (n - (i + 1)) j (step l.size c) (put_avail l c (f i) ring)) (sym (add-one i))

  pub tails_none : n ≤ i → put_tails l f (n - i) i c ring ≡ written c ring
  unfolding put_tails
  tails_none h = let e : n - i ≡ 0 = omega arith in ap (λ (k : ℕ). put_tails l f k i c ring) e
