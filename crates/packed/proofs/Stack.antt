-- The ID on top of the stack: it is the ring's, it is of no chain that is out, and it has no count.
-- Assumes nothing.
use Prim.Native.Nat.{ℕ, suc, ◌+◌, ◌-◌, ◌<◌}
use mathlib.Core.Path.{◌≡◌, refl, ap, ◌∙◌}
use mathlib.Core.Bool.{true, false}
use mathlib.Core.Logic.{inr}
use mathlib.Core.List.{List, [], ◌∷◌}
use native.Mathlib.Omega.{arith}
use lib.ListN.{get_or, take}
use Rattle.base.specs.Answer.{done, refused}
use Rattle.base.proofs.Tests.{by_lt}
use Rattle.layout.specs.declared.Layout.{Layout}
use Rattle.layout.specs.Layout.{bad_layout}
use Rattle.producer.specs.Submit.{top_of}
use Rattle.producer.specs.Poll.{next_of}
use Rattle.producer.proofs.Poll.{next_refused, next_done}
use Rattle.producer.proofs.Goes.{next_none, next_goes}
use Rattle.consumer.specs.declared.Checkpoint.{Checkpoint}
use Rattle.queue.specs.History as said
use Rattle.queue.specs.Promise.{Unlike}
use Rattle.queue.proofs.Model.{Queue}
use Rattle.packed.specs.Calls.{asks}
use Rattle.packed.specs.Machine.{World}
use Rattle.packed.proofs.Answers.{says_next, read_refused}
use Rattle.packed.proofs.Counts.{Used, of_items, of_used, hit, occ_s, occ, slots, hit_same, slots_none, one_le, one_low, occ_top, unlike_of_occ}
use Rattle.packed.proofs.Invariant.{O, F, W, Like, Good, good_by, p_size, p_sound, like_unchanged}

module _ (l : Layout) (laid_out : bad_layout l ≡ false) where
  abbrev size : ℕ
  size = l.size

  module _ (ret : List Used) (w : World) (q : Queue Checkpoint) (k : Like l ret w q) where
    abbrev top : ℕ
    top = top_of w.producer.end w.producer.ids

    module _ (some_left : 0 < w.producer.end.height) where
      -- the stack is what is below its top, and the top
      pub popped : (y : ℕ) → occ_s y (take w.producer.end.height w.producer.ids) ≡ occ_s y (take (w.producer.end.height - 1) w.producer.ids) + hit top y 1
      popped y =
          let e : w.producer.end.height ≡ suc (w.producer.end.height - 1) = omega arith in
          ap (λ (h : ℕ). occ_s y (take h w.producer.ids)) e
          ∙ occ_top y w.producer.ids (w.producer.end.height - 1) (omega (arith, k.heights, k.ids_whole))

      pub top_low : top < size
      top_low = one_low size top (omega (arith, k.once top, popped top, hit_same top 1))

      pub top_out : occ top (of_items q.out) ≡ 0
      top_out = omega (arith, k.once top, popped top, hit_same top 1, one_le size top, k.out_occ top)

      pub top_count : get_or w.producer.counts top 0 ≡ 0
      top_count =
          let h = hit_same top 1 in
          let a : slots top (W q) ≡ 0 = slots_none top (W q) (omega (arith, k.once top, popped top, h, one_le size top)) in
          let b : slots top (O q) ≡ 0 = slots_none top (O q) (omega (arith, k.once top, popped top, h, one_le size top)) in
          let c : slots top (F q) ≡ 0 = slots_none top (F q) (omega (arith, k.once top, popped top, h, one_le size top)) in
          let d : slots top (of_used ret) ≡ 0 = slots_none top (of_used ret) (omega (arith, k.once top, popped top, h, one_le size top)) in
          omega (arith, k.p_nums top top_low, a, b, c, d)

      pub top_unlike : Unlike top q.out
      top_unlike = unlike_of_occ top q.out top_out

    -- NEXT ID: the one on top, and 4 exactly if none is free
    pub next_good : Good l q (says_next (next_of w.producer.end w.producer.ids w.producer.counts)) w
    next_good =
        let s = p_size l laid_out ret w q k in
        let r = p_sound l laid_out ret w q k in
        by_lt 0 w.producer.end.height
        (λ h.
        let e : next_of w.producer.end w.producer.ids w.producer.counts ≡ done (top ∷ []) =
        next_done w.producer.end w.producer.ids w.producer.counts
        (next_goes w.producer.end w.producer.ids w.producer.counts r (omega (arith, s, k.ids_whole)) (omega (arith, s, k.counts_whole)) h (omega (arith, s, top_low h)) (top_count h)) in
        good_by l q _ (said.unchanged (said.nexted top)) w w (ap says_next e) refl
        (λ g. (top_low h, (top_unlike h, (omega (arith, k.heights), λ j p. (k.promise j p).1))), (ret, like_unchanged l laid_out ret w q k (said.nexted top) (λ i p. (h, first p)))))
        (λ h.
        let n = next_none w.producer.end w.producer.ids w.producer.counts r (omega (arith, s, k.ids_whole)) (omega (arith, s, k.counts_whole)) (omega arith) in
        let e : next_of w.producer.end w.producer.ids w.producer.counts ≡ refused 4 =
        next_refused w.producer.end w.producer.ids w.producer.counts (λ z. omega (arith, n, z)) ∙ ap refused n in
        good_by l q _ (said.unchanged (said.refused said.next_id true 4)) w w
        (read_refused (next_of w.producer.end w.producer.ids w.producer.counts) 4 (asks said.next_id true) e (omega arith)) refl
        (λ g. (λ z. z, inr (refl, (refl, omega (arith, k.heights)))), (ret, like_unchanged l laid_out ret w q k (said.refused said.next_id true 4) k.promise)))
      where
        first : {a b : ℕ} → ◌≡◌ {A = List ℕ} (a ∷ []) (b ∷ []) → a ≡ b
        first p = ap (λ (t : List ℕ). get_or t 0 0) p
