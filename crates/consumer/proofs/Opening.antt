-- An opening that is accepted: what may be counted on behind it, and the entries that it leaves as they were.
-- Assumes nothing.
use Prim.Native.Nat.{ℕ, ◌≤◌}
use mathlib.Core.Path.{◌≡◌, sym, ◌∙◌, ap}
use mathlib.Core.List.{List}
use mathlib.Core.Bool.{false, ◌||◌}
use native.Mathlib.Omega.{arith}
use lib.ListN.{length, get_or, replicate, length-replicate}
use lib.Seq.{sets}
use Rattle.base.specs.Answer.{done}
use Rattle.base.proofs.Tests.{split, neither, by_lt}
use Rattle.layout.specs.declared.Layout.{Layout}
use Rattle.layout.specs.Layout.{layout, bad_layout, outside}
use Rattle.layout.proofs.Laws.{Laid, laid, Within, within}
use Rattle.ring.proofs.Frames.{sets_behind}
use Rattle.consumer.specs.Fresh.{Open, fresh_of, record_values, opened, open_of}
use Rattle.consumer.proofs.Reset.{opening_refused, opening_short, opening_done}

-- none of 6's conditions holds of the geometry, nor of 8's of the counts
pub record OpenReady (l : Layout) (bytes counts : ℕ) : Type 0 where
  pub laid : Laid l
  pub bytes_whole : Within l bytes
  pub counts_whole : l.size ≤ counts

module _ (size table driver device : ℕ) (ring counts : List ℕ)
    (h : (open_of size table driver device ring counts).answer.number ≡ 0) where
  abbrev at : Layout
  at = layout size table driver device

  abbrev behind : Open
  behind = open_of size table driver device ring counts

  good : bad_layout at || outside at (length ring) ≡ false
  good =
      split (bad_layout at || outside at (length ring))
      (λ b. absurd (six (sym h ∙ ap (λ (o : Open). o.answer.number) (opening_refused size table driver device ring counts b))))
      (λ g. g)
    where
      six : ◌≡◌ {A = ℕ} 0 6 → ⊥
      six z = omega arith

  long : size ≤ length counts
  long =
      by_lt (length counts) size
      (λ b. absurd (eight (sym h ∙ ap (λ (o : Open). o.answer.number) (opening_short size table driver device ring counts good b))))
      (λ g. g)
    where
      eight : ◌≡◌ {A = ℕ} 0 8 → ⊥
      eight z = omega arith

  pub open_ready : OpenReady at (length ring) (length counts)
  open_ready =
      let g = neither (bad_layout at) (outside at (length ring)) good in
      record { laid = laid at g.0; bytes_whole = within at (length ring) g.1; counts_whole = long }

  -- the answer is the fresh record's values, and the counts are filled
  pub opening_accepted : behind ≡ opened (done (record_values (fresh_of at))) (sets counts 0 (replicate size 0))
  opening_accepted = opening_done size table driver device ring counts good long

  pub opening_count_behind : (k : ℕ) → size ≤ k → get_or behind.counts k 0 ≡ get_or counts k 0
  opening_count_behind k b =
      ap (λ (o : Open). get_or o.counts k 0) opening_accepted
      ∙ sets_behind (replicate size 0) counts 0 k (omega (arith, length-replicate {A = ℕ} size 0))
