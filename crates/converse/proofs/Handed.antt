-- An accepted poll is a chain, on any bytes: what it hands out is what the slots from the avail cursor on hold.
-- Assumes nothing.
use Prim.Native.Nat.{ℕ, ◌≤◌, ◌<◌}
use mathlib.Core.Path.{◌≡◌, sym, ◌∙◌, ap}
use mathlib.Core.List.{List, [], ◌∷◌, map}
use mathlib.Core.Bool.{false, ◌||◌}
use native.Mathlib.Omega.{arith}
use native.Mathlib.Nat.{zero-add}
use lib.ListN.{length, get_or}
use lib.Seq.{sets, length-sets}
use Rattle.desc.specs.declared.Descriptor.{Descriptor}
use Rattle.ring.proofs.Frames.{sets_at, sets_behind}
use Rattle.walk.specs.Walk.{slots_from, addr_of, len_of}
use Rattle.walk.proofs.Laws.{slots_length, slots_at}
use Rattle.consumer.specs.declared.RingConsumer.{RingConsumer}
use Rattle.consumer.specs.Poll.{Taken, walked_of, poll_of}
use Rattle.consumer.proofs.Goes.{past_is}
use Rattle.consumer.proofs.Poll.{poll_takes}
use Rattle.converse.specs.Chain.{slot_from}
use Rattle.converse.specs.Poll.{Handed}
use Rattle.converse.proofs.Ladder.{failing}
use Rattle.converse.proofs.Walk.{walk_bad_is, walk_chain, chain_not_bad}
use Rattle.converse.proofs.Polls.{number_is, head_is, poll_0}

-- ---- n slots' fields copied to the start of a list

module _ (p : RingConsumer) (ring : List ℕ) (n : ℕ) (A : Descriptor → ℕ) (l : List ℕ) where
  abbrev fields : List ℕ
  fields = map A (slots_from p.layout.table p.layout.size ring p.avail n)

  many : length fields ≡ n
  many = slots_length p.layout.table p.layout.size ring A n p.avail

  copied : n ≤ length l → (i : ℕ) → i < n → get_or (sets l 0 fields) i 0 ≡ A (slot_from p ring i)
  copied h i q =
      ap (λ (j : ℕ). get_or (sets l 0 fields) j 0) (sym (zero-add i))
      ∙ sets_at fields l 0 i (omega (arith, many)) (omega (arith, many))
      ∙ slots_at p.layout.table p.layout.size ring A n i p.avail q

  kept : (i : ℕ) → n ≤ i → get_or (sets l 0 fields) i 0 ≡ get_or l i 0
  kept i q = sets_behind fields l 0 i (omega (arith, many))

-- ---- the theorem

module _ (p : RingConsumer) (ring counts addrs lens : List ℕ)
    (accepted : (poll_of p ring counts addrs lens).answer.number ≡ 0) where
  abbrev size : ℕ
  size = p.layout.size

  abbrev slot : ℕ → Descriptor
  slot = slot_from p ring

  -- the answer's values number 1 and 2
  abbrev n : ℕ
  n = (walked_of p ring).count

  abbrev r : ℕ
  r = (walked_of p ring).readable

  over : (walked_of p ring).bad || (walked_of p ring).more ≡ false
  over =
      let c = ((poll_0 p ring counts addrs lens).0 accepted).3 in
      (failing ((walked_of p ring).bad || (walked_of p ring).more) (walk_bad_is p ring)).1 (chain_not_bad slot size c.0 c.1 c.2)

  -- a poll that is accepted hands out the chain at the avail cursor: the head's ID, the n slots' elements and how many are readable
  pub poll_hands_out : (n : ℕ) × (r : ℕ) × Handed p ring addrs lens (poll_of p ring counts addrs lens) n r
  poll_hands_out =
      let e = poll_takes p ring counts addrs lens (sym (number_is p ring counts addrs lens) ∙ accepted) in
      let good = (poll_0 p ring counts addrs lens).0 accepted in
      let walk = walk_chain p ring over in
      let few : n ≤ size = walk.0.few in
      let a : n ≤ length addrs = omega (arith, good.1.addrs_whole) in
      let b : n ≤ length lens = omega (arith, good.1.lens_whole) in (
        n,
        r,
        record {
          head_available = good.2;
          chain = walk.0;
          values =
              ap (λ (o : Taken). o.answer.values) e
              ∙ ap (λ (d : Descriptor). d.id ∷ n ∷ r ∷ []) (head_is p ring);
          addr = λ i h. ap (λ (o : Taken). get_or o.addrs i 0) e ∙ copied p ring n addr_of addrs a i h;
          len = λ i h. ap (λ (o : Taken). get_or o.lens i 0) e ∙ copied p ring n len_of lens b i h;
          addr_kept = λ i h. ap (λ (o : Taken). get_or o.addrs i 0) e ∙ kept p ring n addr_of addrs i h;
          len_kept = λ i h. ap (λ (o : Taken). get_or o.lens i 0) e ∙ kept p ring n len_of lens i h;
          as_many_addrs = ap (λ (o : Taken). length o.addrs) e ∙ length-sets addrs 0 (fields p ring n addr_of addrs);
          as_many_lens = ap (λ (o : Taken). length o.lens) e ∙ length-sets lens 0 (fields p ring n len_of lens);
          moved =
              ap (λ (o : Taken). o.end.avail) e
              ∙ ap (λ (q : RingConsumer). q.avail) (past_is p (walked_of p ring).at n) ∙ walk.1;
        },
      )
