-- A poll answers 7, 8, 3, 2, 5 and 0 exactly for the conditions that document 01 names, in that order, on any bytes.
-- Assumes nothing.
use Prim.Native.Nat.{ℕ, ◌+◌, ◌≤◌, ◌<◌}
use mathlib.Core.Path.{◌≡◌, refl, sym, ◌∙◌, ap, subst}
use mathlib.Core.Logic.Iff
use mathlib.Core.Logic.{◌↔◌}
use mathlib.Core.List.{List}
use mathlib.Core.Bool.{Bool, true, false, cond, not, ◌||◌, ◌&&◌, beq}
use native.Mathlib.Omega.{arith}
use lib.Dec.{ltb, leb, eqb}
use lib.ListN.{length, get_or}
use borrow.Author.Tests.{ltb-true, ltb-false, le-ltb, leb-true, leb-false, eqb-false, eqb-true, ne_eqb, not-true, not-false}
use Rattle.base.proofs.Tests.{neither, by_eq}
use Rattle.cursor.specs.declared.RingCursor.{RingCursor}
use Rattle.cursor.proofs.Laws.{steps_none}
use Rattle.desc.specs.declared.Descriptor.{Descriptor}
use Rattle.desc.specs.Flags.{AVAIL, USED, has, is_avail}
use Rattle.layout.specs.Layout.{bad_layout, outside}
use Rattle.ring.specs.Slots.{slot_of}
use Rattle.consumer.specs.declared.RingConsumer.{RingConsumer}
use Rattle.consumer.specs.Record.{bad_record, bad_lent}
use Rattle.consumer.specs.Poll.{Taken, head_refusal, walk_refusal, head_of, walked_of, poll_refusal, poll_of}
use Rattle.consumer.proofs.Ready.{sound, lent}
use Rattle.consumer.proofs.Goes.{not_bad, not_bad_lent}
use Rattle.consumer.proofs.Poll.{poll_takes}
use Rattle.converse.specs.Chain.{slot_from, IsChain, BadChain}
use Rattle.converse.specs.Poll.{GoodRecord, GoodLent, HeadAvailable, InvalidState}
use Rattle.converse.specs.Poll.InvalidState.{not_below, recorded, passes_size}
use Rattle.converse.proofs.Ladder.{both_ways, holds, failing, holding, either, three, four, here, past, neither_has, last}
use Rattle.converse.proofs.Geometry.{broken_is, outside_is, clash, reaches_out}
use Rattle.converse.proofs.Walk.{walk_bad_is, walk_chain, chain_not_bad, one_chain}

-- ---- the tests, as facts

same_is : (a w : Bool) → (beq a w ≡ true) ↔ (a ≡ w)
same_is true true = (λ e. refl, λ e. refl)
same_is true false = (λ e. absurd (both_ways false e refl), λ e. absurd (both_ways true refl e))
same_is false true = (λ e. absurd (both_ways false e refl), λ e. absurd (both_ways true refl (sym e)))
same_is false false = (λ e. refl, λ e. refl)

-- "AVAIL equals w and USED differs from w"
avail_test : (a u w : Bool) → (not (beq a w && not (beq u w)) ≡ false) ↔ ((a ≡ w) × (¬ (u ≡ w)))
avail_test a u w = (
  λ e.
      let f = only (beq a w) (beq u w) e in
      ((same_is a w).0 f.0, (failing (beq u w) (same_is u w)).0 f.1),
  λ f. simp ((same_is a w).1 f.0, (failing (beq u w) (same_is u w)).1 f.1),
)
  where
    only : (x y : Bool) → not (x && not y) ≡ false → (x ≡ true) × (y ≡ false)
    only true true e = absurd (both_ways true refl e)
    only true false e = (refl, refl)
    only false y e = absurd (both_ways true refl e)

-- 7 is not given
good_record_is : (p : RingConsumer) → (bad_record p ≡ false) ↔ GoodRecord p
good_record_is p = (
  λ e.
      let s = sound p e in
      record { geometry = clash p.layout s.laid; avail = s.avail; used = s.used; inflight = s.inflight },
  λ g. not_bad p ((failing (bad_layout p.layout) (broken_is p.layout)).1 g.geometry) g.avail g.used g.inflight,
)

-- 5 is given, of a chain of n slots with that ID
abbrev held_test : RingConsumer → List ℕ → ℕ → ℕ → Bool
held_test p counts id n = leb p.layout.size id || (not (eqb (get_or counts id 0) 0) || ltb p.layout.size (p.inflight + n))

held_is : (p : RingConsumer) (counts : List ℕ) (id n : ℕ) → (held_test p counts id n ≡ true) ↔ InvalidState p counts id n
held_is p counts id n = (
  either (leb size id) _ (λ t. not_below (leb-true size id t))
      (either (not (eqb (get_or counts id 0) 0)) _
      (λ t. recorded (eqb-false (get_or counts id 0) 0 (not-true _ t)))
      (λ t. passes_size (ltb-true size (p.inflight + n) t))),
  λ s. holds (held_test p counts id n) (clashes s),
)
  where
    size : ℕ
    size = p.layout.size

    clashes : InvalidState p counts id n → held_test p counts id n ≡ false → ⊥
    clashes s f =
        let a = neither (leb p.layout.size id) _ f in
        let b = neither (not (eqb (get_or counts id 0) 0)) _ a.1 in
        none s (leb-false p.layout.size id a.0) (eqb-true (get_or counts id 0) 0 (not-false _ b.0))
        (ltb-false p.layout.size (p.inflight + n) b.1)
      where
        none : InvalidState p counts id n → id < p.layout.size → get_or counts id 0 ≡ 0 → p.inflight + n ≤ p.layout.size → ⊥
        none (not_below h) x y z = omega arith
        none (recorded h) x y z = h y
        none (passes_size h) x y z = omega arith

-- the head's slot is slot 0
pub head_is : (p : RingConsumer) (ring : List ℕ) → head_of p ring ≡ slot_from p ring 0
head_is p ring = ap (λ (c : RingCursor). slot_of p.layout.table c ring) (sym (steps_none p.layout.size p.avail))

module _ (p : RingConsumer) (ring counts addrs lens : List ℕ) where
  abbrev size : ℕ
  size = p.layout.size

  abbrev slot : ℕ → Descriptor
  slot = slot_from p ring

  abbrev short : Bool
  short = bad_lent p (length ring) (length counts) || (ltb (length addrs) size || ltb (length lens) size)

  -- 8 is not given
  good_lent_is : (short ≡ false) ↔ GoodLent p ring counts addrs lens
  good_lent_is = (
    λ e.
        let f = neither (bad_lent p (length ring) (length counts)) (ltb (length addrs) size || ltb (length lens) size) e in
        let l = lent p (length ring) (length counts) f.0 in
        let o = neither (ltb (length addrs) size) (ltb (length lens) size) f.1 in
        record {
          bytes_whole = reaches_out p.layout (length ring) l.bytes_whole;
          counts_whole = l.counts_whole;
          addrs_whole = ltb-false (length addrs) size o.0;
          lens_whole = ltb-false (length lens) size o.1;
        },
    λ g.
        simp (
          not_bad_lent p (length ring) (length counts)
              ((failing (outside p.layout (length ring)) (outside_is p.layout (length ring))).1 g.bytes_whole) g.counts_whole,
          le-ltb (length addrs) size g.addrs_whole,
          le-ltb (length lens) size g.lens_whole,
        ),
  )

  -- 3 is not given
  abbrev blocked : Bool
  blocked = not (is_avail (head_of p ring).flags p.avail.wrap)

  available_is : (blocked ≡ false) ↔ HeadAvailable p ring
  unfolding is_avail
  available_is =
      subst (λ (d : Descriptor). (not (is_avail d.flags p.avail.wrap) ≡ false) ↔ HeadAvailable p ring) (sym (head_is p ring))
      (avail_test (has (slot 0).flags AVAIL) (has (slot 0).flags USED) p.avail.wrap)

  -- 2 is given
  abbrev spoilt : Bool
  spoilt = (walked_of p ring).bad || (walked_of p ring).more

  -- 5 is given, of a walk that is over
  abbrev held : Bool
  held = held_test p counts (head_of p ring).id (walked_of p ring).count

  invalid_is : (held ≡ true) ↔ InvalidState p counts (slot 0).id (walked_of p ring).count
  invalid_is =
      subst (λ (d : Descriptor). (held ≡ true) ↔ InvalidState p counts d.id (walked_of p ring).count) (head_is p ring)
      (held_is p counts (head_of p ring).id (walked_of p ring).count)

  -- ---- the ladder

  abbrev pub number : ℕ
  number = (poll_of p ring counts addrs lens).answer.number

  abbrev no : ℕ
  no = poll_refusal p ring counts (length addrs) (length lens)

  -- the answer's number is the refusal's
  pub number_is : number ≡ no
  unfolding poll_of
  number_is =
      by_eq no 0
      (λ z. ap (λ (o : Taken). o.answer.number) (poll_takes p ring counts addrs lens z) ∙ sym z)
      (λ h. simp (ne_eqb no 0 h))

  abbrev after_head : ℕ
  after_head = cond spoilt 2 (cond held 5 0)

  abbrev ladder : ℕ
  ladder = cond (bad_record p) 7 (cond short 8 (cond blocked 3 after_head))

  refusal_is : no ≡ ladder
  unfolding poll_refusal head_refusal walk_refusal
  refusal_is = refl

  gives : (m : ℕ) → (number ≡ m) ↔ (ladder ≡ m)
  gives m = let e = number_is ∙ refusal_is in (λ g. sym e ∙ g, λ g. e ∙ g)

  -- the record and what is lent are good, the head is available, and the rest gives the number
  to_the_walk :
      {P : Type 0} (m : ℕ) → ¬ (7 ≡ m) → ¬ (8 ≡ m) → ¬ (3 ≡ m) → (after_head ≡ m) ↔ P
      → (number ≡ m) ↔ (GoodRecord p × GoodLent p ring counts addrs lens × HeadAvailable p ring × P)
  to_the_walk m x y z e =
      Iff.trans (gives m)
      (Iff.trans
      (past (bad_record p) 7 _ m x (good_record_is p) (past short 8 _ m y good_lent_is (past blocked 3 after_head m z available_is e)))
      four)

  -- a walk that is over, with a fact about the chain's length
  over_with :
      {E : Type 0} (P : ℕ → Type 0) → E ↔ P (walked_of p ring).count
      → ((spoilt ≡ false) × E) ↔ ((n : ℕ) × (r : ℕ) × IsChain slot size n r × P n)
  over_with P e = (
    λ t. ((walked_of p ring).count, (walked_of p ring).readable, (walk_chain p ring t.0).0, e.0 t.1),
    λ t.
        let f = (failing spoilt (walk_bad_is p ring)).1 (chain_not_bad slot size t.0 t.1 t.2) in
        let q = one_chain slot size t.0 t.1 (walked_of p ring).count (walked_of p ring).readable t.2 (walk_chain p ring f).0 in
        (f, e.1 (subst P q.0 t.3)),
  )

  -- after the head there is 2, 5 or 0 alone
  low : (m : ℕ) → 5 < m → ¬ (after_head ≡ m)
  low m h =
      neither_has spoilt 2 (cond held 5 0) m (λ e. omega arith) (neither_has held 5 0 m (λ e. omega arith) (λ e. omega arith))

  not_three : ¬ (after_head ≡ 3)
  not_three =
      neither_has spoilt 2 (cond held 5 0) 3 (λ e. omega arith) (neither_has held 5 0 3 (λ e. omega arith) (λ e. omega arith))

  -- ---- the theorems: what each number is given for

  -- 7 exactly for a bad record
  pub poll_7 : (number ≡ 7) ↔ (¬ GoodRecord p)
  poll_7 =
      Iff.trans (gives 7)
      (here (bad_record p) 7 _
      (neither_has short 8 _ 7 (λ e. omega arith) (neither_has blocked 3 after_head 7 (λ e. omega arith) (low 7 (omega arith))))
      (holding (bad_record p) (good_record_is p)))

  -- 8 exactly for a good record, and what is lent too short
  pub poll_8 : (number ≡ 8) ↔ (GoodRecord p × (¬ GoodLent p ring counts addrs lens))
  poll_8 =
      Iff.trans (gives 8)
      (past (bad_record p) 7 _ 8 (λ e. omega arith) (good_record_is p)
      (here short 8 _ (neither_has blocked 3 after_head 8 (λ e. omega arith) (low 8 (omega arith))) (holding short good_lent_is)))

  -- 3 exactly for a head that is not available, whatever else its slot holds: INDIRECT on it is 3 too
  pub poll_3 : (number ≡ 3) ↔ (GoodRecord p × GoodLent p ring counts addrs lens × (¬ HeadAvailable p ring))
  poll_3 =
      Iff.trans (gives 3)
      (Iff.trans
      (past (bad_record p) 7 _ 3 (λ e. omega arith) (good_record_is p)
      (past short 8 _ 3 (λ e. omega arith) good_lent_is (here blocked 3 after_head not_three (holding blocked available_is))))
      three)

  -- 2 exactly for a bad chain whose head is available
  pub poll_2 : (number ≡ 2) ↔ (GoodRecord p × GoodLent p ring counts addrs lens × HeadAvailable p ring × BadChain slot size)
  poll_2 =
      to_the_walk 2 (λ e. omega arith) (λ e. omega arith) (λ e. omega arith)
      (here spoilt 2 (cond held 5 0) (neither_has held 5 0 2 (λ e. omega arith) (λ e. omega arith)) (walk_bad_is p ring))

  -- 5 exactly for a chain that is good, with an ID or a length that is not
  pub poll_5 :
      (number ≡ 5)
      ↔ (GoodRecord p × GoodLent p ring counts addrs lens × HeadAvailable p ring
      × ((n : ℕ) × (r : ℕ) × IsChain slot size n r × InvalidState p counts (slot 0).id n))
  poll_5 =
      to_the_walk 5 (λ e. omega arith) (λ e. omega arith) (λ e. omega arith)
      (Iff.trans
      (past spoilt 2 (cond held 5 0) 5 (λ e. omega arith) Iff.rfl (here held 5 0 (λ e. omega arith) Iff.rfl))
      (over_with (InvalidState p counts (slot 0).id) invalid_is))

  -- and accepted exactly if there is a chain at the avail cursor and none of these
  pub poll_0 :
      (number ≡ 0)
      ↔ (GoodRecord p × GoodLent p ring counts addrs lens × HeadAvailable p ring
      × ((n : ℕ) × (r : ℕ) × IsChain slot size n r × (¬ InvalidState p counts (slot 0).id n)))
  poll_0 =
      to_the_walk 0 (λ e. omega arith) (λ e. omega arith) (λ e. omega arith)
      (Iff.trans
      (past spoilt 2 (cond held 5 0) 0 (λ e. omega arith) Iff.rfl (last held 5 (λ e. omega arith) Iff.rfl))
      (over_with (λ (n : ℕ). ¬ InvalidState p counts (slot 0).id n) (failing held invalid_is)))
