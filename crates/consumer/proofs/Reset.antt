-- The ways an opening and a reset end.
-- Assumes nothing.
use Prim.Native.Nat.{ℕ, ◌≤◌, ◌<◌}
use mathlib.Core.Path.{◌≡◌}
use mathlib.Core.List.{List, []}
use mathlib.Core.Bool.{true, false, ◌||◌}
use lib.ListN.{length, replicate}
use lib.Seq.{sets}
use borrow.Author.Tests.{eq-eqb, ne_eqb, lt-ltb, le-ltb}
use Rattle.base.specs.Answer.{done, refused}
use Rattle.layout.specs.declared.Layout.{Layout}
use Rattle.layout.specs.Layout.{layout, bad_layout, outside}
use Rattle.consumer.specs.declared.RingConsumer.{RingConsumer}
use Rattle.consumer.specs.Record.{lent_refusal}
use Rattle.consumer.specs.Outcome.{outcome}
use Rattle.consumer.specs.Fresh.{fresh_of, record_values, opened, open_of, zeroed_of, reset_of}

module _ (p : RingConsumer) (ring counts : List ℕ) where
  abbrev no : ℕ
  no = lent_refusal p (length ring) (length counts)

  pub reset_refused : (no ≡ 0 → ⊥) → reset_of p ring counts ≡ outcome (refused no) p ring counts
  unfolding reset_of
  reset_refused h = simp (ne_eqb no 0 h)

  pub reset_done :
      no ≡ 0
      → reset_of p ring counts
      ≡ outcome (done []) (fresh_of p.layout) (zeroed_of p.layout ring) (sets counts 0 (replicate p.layout.size 0))
  unfolding reset_of
  reset_done h = simp (eq-eqb no 0 h)

module _ (size table driver device : ℕ) (ring counts : List ℕ) where
  abbrev at : Layout
  at = layout size table driver device

  pub opening_refused :
      bad_layout at || outside at (length ring) ≡ true → open_of size table driver device ring counts ≡ opened (refused 6) counts
  unfolding open_of
  opening_refused h = simp h

  pub opening_short :
      bad_layout at || outside at (length ring) ≡ false → length counts < size
      → open_of size table driver device ring counts ≡ opened (refused 8) counts
  unfolding open_of
  opening_short h t = simp (h, lt-ltb (length counts) size t)

  pub opening_done :
      bad_layout at || outside at (length ring) ≡ false → size ≤ length counts
      → open_of size table driver device ring counts
      ≡ opened (done (record_values (fresh_of at))) (sets counts 0 (replicate size 0))
  unfolding open_of
  opening_done h t = simp (h, le-ltb (length counts) size t)
