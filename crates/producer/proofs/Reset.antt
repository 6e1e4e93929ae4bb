-- The ways an opening and a reset end.
-- Assumes nothing.
use Prim.Native.Nat.{ℕ}
use mathlib.Core.Path.{◌≡◌}
use mathlib.Core.List.{List, []}
use mathlib.Core.Bool.{true, false, ◌||◌}
use lib.Dec.{ltb}
use lib.ListN.{length}
use borrow.Author.Tests.{eq-eqb, ne_eqb}
use Rattle.base.specs.Answer.{done, refused}
use Rattle.layout.specs.Layout.{layout, bad_layout, outside}
use Rattle.layout.specs.declared.Layout.{Layout}
use Rattle.producer.specs.declared.RingProducer.{RingProducer}
use Rattle.producer.specs.Record.{lent_refusal}
use Rattle.producer.specs.Outcome.{outcome}
use lib.ListN.{replicate}
use lib.Seq.{sets}
use Rattle.ring.specs.Tables.{up_to}
use Rattle.producer.specs.Fresh.{fresh_of, record_values, opened, open_of, zeroed_of, reset_of}

module _ (p : RingProducer) (ring ids counts : List ℕ) where
  abbrev no : ℕ
  no = lent_refusal p (length ring) (length ids) (length counts)

  pub reset_refused : (no ≡ 0 → ⊥) → reset_of p ring ids counts ≡ outcome (refused no) p ring ids counts
  unfolding reset_of
  reset_refused h = simp (ne_eqb no 0 h)

  pub reset_done :
      no ≡ 0
      → reset_of p ring ids counts
      ≡ outcome (done []) (fresh_of p.layout) (zeroed_of p.layout ring)
      (sets ids 0 (up_to p.layout.size)) (sets counts 0 (replicate p.layout.size 0))
  unfolding reset_of
  reset_done h = simp (eq-eqb no 0 h)

-- ---- opening

module _ (size table driver device : ℕ) (ring ids counts : List ℕ) where
  abbrev at : Layout
  at = layout size table driver device

  pub opening_refused :
      bad_layout at || outside at (length ring) ≡ true → open_of size table driver device ring ids counts ≡ opened (refused 6) ids counts
  unfolding open_of
  opening_refused h = simp h

  pub opening_short :
      bad_layout at || outside at (length ring) ≡ false → ltb (length ids) size || ltb (length counts) size ≡ true
      → open_of size table driver device ring ids counts ≡ opened (refused 8) ids counts
  unfolding open_of
  opening_short h t = simp (h, t)

  pub opening_done :
      bad_layout at || outside at (length ring) ≡ false → ltb (length ids) size || ltb (length counts) size ≡ false
      → open_of size table driver device ring ids counts
      ≡ opened (done (record_values (fresh_of at))) (sets ids 0 (up_to size)) (sets counts 0 (replicate size 0))
  unfolding open_of
  opening_done h t = simp (h, t)
