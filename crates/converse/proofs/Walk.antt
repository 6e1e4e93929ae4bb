-- The chain at the avail cursor is a chain or a bad one, never both, and the walk tells which.
-- Assumes nothing.
use Prim.Native.Nat.{ℕ, zero, suc, ◌+◌, ◌-◌, ◌≤◌, ◌<◌}
use mathlib.Core.Path.{◌≡◌, refl, sym, ◌∙◌, ap, ap₂, subst}
use mathlib.Core.List.{List}
use mathlib.Core.Logic.{◌↔◌, ◌⊎◌, inl, inr}
use mathlib.Core.Bool.{Bool, true, false, cond, not, ◌||◌, ◌&&◌}
use native.Mathlib.Omega.{arith}
use lib.Dec.{ltb}
use borrow.Author.Tests.{ltb-true, ltb-false, lt-ltb, le-ltb}
use Rattle.base.proofs.Tests.{split, neither, by_lt, or_true}
use Rattle.cursor.specs.declared.RingCursor.{RingCursor}
use Rattle.cursor.specs.Cursor.{step, steps}
use Rattle.cursor.proofs.Laws.{steps_none, steps_one, steps_add}
use Rattle.desc.specs.declared.Descriptor.{Descriptor}
use Rattle.desc.specs.Flags.{NEXT, WRITE, INDIRECT, has}
use Rattle.ring.specs.Slots.{slot_of}
use Rattle.walk.specs.declared.Walk.{Walk}
use Rattle.walk.specs.Walk.{start, spoilt, look_of, walk_of}
use Rattle.walk.proofs.Laws.{walk_more, walk_done, walk_none}
use Rattle.consumer.specs.declared.RingConsumer.{RingConsumer}
use Rattle.consumer.specs.Poll.{walked_of}
use Rattle.converse.specs.Chain.{slot_from, Next, IsChain, Walked, BadChain}
use Rattle.converse.specs.Chain.BadChain.{indirect, readable_after_writable, next_still_set}
use Rattle.converse.proofs.Ladder.{both_ways, either}

-- ---- a chain is not a bad one

module _ (slot : ℕ → Descriptor) (size n r : ℕ) (c : IsChain slot size n r) where
  -- the walk ends with the chain's last slot
  walked_within : (i : ℕ) → Walked slot size i → i < n
  walked_within i w =
      by_lt i n (λ h. h) (λ h. absurd (c.last (n - 1) (omega (arith, c.some_slots)) (w.1 (n - 1) (omega (arith, c.some_slots)))))

  -- so none of 2's conditions holds
  pub chain_not_bad : BadChain slot size → ⊥
  chain_not_bad (indirect i w x) = c.direct i (walked_within i w) x
  chain_not_bad (readable_after_writable i j w h y x) = x (c.ordered j i (omega arith) (walked_within i w) y)
  chain_not_bad (next_still_set a) = c.last (n - 1) (omega (arith, c.some_slots)) (a (n - 1) (omega (arith, c.some_slots, c.few)))

-- slots from the head on are those of one chain at most
module _ (slot : ℕ → Descriptor) (size n r m s : ℕ) (c : IsChain slot size n r) (d : IsChain slot size m s) where
  no_longer : m ≤ n
  no_longer =
      let h = walked_within slot size n r c (m - 1) (omega (arith, d.some_slots, d.few), λ j l. d.next j (omega (arith, d.some_slots))) in
      omega (arith, d.some_slots)

  no_more_readable : n ≤ m → r ≤ s
  no_more_readable longer =
      by_lt s r
      (λ q. absurd (never s ((d.readable s (omega (arith, c.within))).0 ((c.readable s (omega (arith, c.within))).1 q))))
      (λ q. q)
    where
      never : (k : ℕ) → k < k → ⊥
      never k h = omega arith

-- so a chain's length and its readable count are determined by the slots
pub one_chain : (slot : ℕ → Descriptor) (size n r m s : ℕ) → IsChain slot size n r → IsChain slot size m s → (n ≡ m) × (r ≡ s)
one_chain slot size n r m s c d =
    let a = no_longer slot size n r m s c d in
    let b = no_longer slot size m s n r d c in
    let x = no_more_readable slot size n r m s c d b in
    let y = no_more_readable slot size m s n r d c a in
    (omega arith, omega arith)

-- ---- the walk, slot by slot

-- what holds of all below n, and of n
one_more : (P : ℕ → Type 0) (n : ℕ) → ((i : ℕ) → i < n → P i) → P n → (i : ℕ) → i < n + 1 → P i
one_more P n a b i h = by_lt i n (a i) (λ l. subst P (same l) b)
  where
    same : n ≤ i → n ≡ i
    same l = omega arith

module _ (p : RingConsumer) (ring : List ℕ) where
  abbrev size : ℕ
  size = p.layout.size

  abbrev table : ℕ
  table = p.layout.table

  abbrev slot : ℕ → Descriptor
  slot = slot_from p ring

  -- of n slots the first r are readable, and the others writable
  record Parted (n r : ℕ) : Type 0 where
    within : r ≤ n
    readable : (i : ℕ) → i < r → has (slot i).flags WRITE ≡ false
    writable : (i : ℕ) → r ≤ i → i < n → has (slot i).flags WRITE ≡ true

  -- one more slot, which is not readable after a writable one
  parted_more :
      (n r : ℕ) (write writing : Bool) → Parted n r → writing ≡ ltb r n → has (slot n).flags WRITE ≡ write → not write && writing ≡ false
      → Parted (n + 1) (r + cond write 0 1) × (write || writing ≡ ltb (r + cond write 0 1) (n + 1))
  parted_more n r true writing s e h f = (
    record {
      within = omega (arith, s.within);
      readable = λ i l. s.readable i (omega arith);
      writable = λ i l m.
          one_more (λ (j : ℕ). r ≤ j → has (slot j).flags WRITE ≡ true) n (λ j q t. s.writable j t q) (λ t. h) i m (omega arith);
    },
    sym (lt-ltb (r + 0) (n + 1) (omega (arith, s.within))),
  )
  parted_more n r false writing s e h f =
      let all : n ≤ r = ltb-false r n (sym e ∙ f) in (
        record {
          within = omega (arith, s.within);
          readable = λ i l.
              one_more (λ (j : ℕ). has (slot j).flags WRITE ≡ false) n (λ j q. s.readable j (omega arith)) h i (omega (arith, s.within));
          writable = λ i l m. absurd (omega arith);
        },
        f ∙ sym (le-ltb (r + 1) (n + 1) (omega arith)),
      )

  -- a walk after n slots, none of them bad
  record Seen (n : ℕ) (w : Walk) : Type 0 where
    at : w.at ≡ steps size n p.avail
    count : w.count ≡ n
    good : w.bad ≡ false
    parted : Parted n w.readable
    writing : w.writing ≡ ltb w.readable n
    direct : (i : ℕ) → i < n → has (slot i).flags INDIRECT ≡ false

  seen_more : (n : ℕ) (w : Walk) → Seen n w → spoilt w (slot n) ≡ false → Seen (n + 1) (look_of size w (slot n))
  unfolding look_of
  seen_more n w s e =
      let f = neither (has (slot n).flags INDIRECT) (not (has (slot n).flags WRITE) && w.writing) e in
      let q = parted_more n w.readable (has (slot n).flags WRITE) w.writing s.parted s.writing refl f.1 in
      record {
        at =
            ap (step size) s.at ∙ sym (steps_one size (steps size n p.avail)) ∙ sym (steps_add size n 1 p.avail);
        count = omega (arith, s.count);
        good = e;
        parted = q.0;
        writing = q.1;
        direct = one_more (λ (i : ℕ). has (slot i).flags INDIRECT ≡ false) n s.direct f.0;
      }

  -- a slot that spoils the walk
  seen_bad : (n : ℕ) (w : Walk) → Seen n w → Walked slot size n → spoilt w (slot n) ≡ true → BadChain slot size
  seen_bad n w s x =
      either (has (slot n).flags INDIRECT) (not (has (slot n).flags WRITE) && w.writing)
      (indirect n x)
      (λ e.
      let f = both (has (slot n).flags WRITE) w.writing e in
      let r : w.readable < n = ltb-true w.readable n (sym s.writing ∙ f.1) in
      readable_after_writable n w.readable x r (s.parted.writable w.readable (omega arith) r)
      (λ t. both_ways (has (slot n).flags WRITE) t f.0))
    where
      both : (a b : Bool) → not a && b ≡ true → (a ≡ false) × (b ≡ true)
      both true b e = absurd (both_ways false e refl)
      both false b e = (refl, e)

  -- a slot without NEXT that ends it
  seen_whole :
      (n : ℕ) (w : Walk) → Seen (n + 1) w → n < size → ((j : ℕ) → j < n → Next (slot j)) → has (slot n).flags NEXT ≡ false
      → IsChain slot size w.count w.readable
  seen_whole n w s h a e =
      let c : w.count ≡ n + 1 = s.count in
      record {
        some_slots = omega arith;
        few = omega arith;
        next = λ i l. a i (omega arith);
        last = λ i l t. both_ways (has (slot n).flags NEXT) (ap (λ (j : ℕ). has (slot j).flags NEXT) (only i l c) ∙ t) e;
        direct = λ i l t. both_ways (has (slot i).flags INDIRECT) t (s.direct i (omega arith));
        ordered = λ i j l m t.
            s.parted.writable j
            (by_lt i w.readable (λ q. absurd (both_ways (has (slot i).flags WRITE) t (s.parted.readable i q))) (λ q. omega arith))
            (omega arith);
        within = omega (arith, s.parted.within);
        readable = λ i l. (
          λ x. by_lt i w.readable (λ q. q) (λ q. absurd (x (s.parted.writable i q (omega arith)))),
          λ q t. both_ways (has (slot i).flags WRITE) t (s.parted.readable i q),
        );
      }
    where
      only : (i : ℕ) → i + 1 ≡ w.count → w.count ≡ n + 1 → n ≡ i
      only i l c = omega arith

  -- how a walk ends: with a chain, which it counted, or with a bad one
  data Ends (w : Walk) : Type 0 where
    whole :
        w.bad || w.more ≡ false → w.at ≡ steps size w.count p.avail → IsChain slot size w.count w.readable → Ends w
    spoils : w.bad || w.more ≡ true → BadChain slot size → Ends w

  -- a slot looked at: spoilt or not, NEXT or not
  module _ (w : Walk) (d : Descriptor) where
    look_spoilt : spoilt w d ≡ true → ((look_of size w d).more ≡ false) × ((look_of size w d).bad || (look_of size w d).more ≡ true)
    unfolding look_of
    look_spoilt t = (ap (λ (b : Bool). has d.flags NEXT && not b) t ∙ none (has d.flags NEXT), rw t)
      where
        none : (b : Bool) → b && false ≡ false
        none true = refl
        none false = refl

    look_more : spoilt w d ≡ false → (look_of size w d).more ≡ has d.flags NEXT
    unfolding look_of
    look_more f = ap (λ (b : Bool). has d.flags NEXT && not b) f ∙ all (has d.flags NEXT)
      where
        all : (b : Bool) → b && true ≡ b
        all true = refl
        all false = refl

  -- after n slots with NEXT, none of them bad, and with k slots left
  walk_ends :
      (k n : ℕ) (w : Walk) → n + k ≡ size → Seen n w → w.more ≡ true → ((j : ℕ) → j < n → Next (slot j)) → Ends (walk_of table size ring k w)
  walk_ends zero n w e s m a =
      subst Ends (sym (walk_none table size ring zero w (omega arith)))
      (spoils (ap (λ (b : Bool). w.bad || b) m ∙ or_true w.bad) (next_still_set (λ i h. a i (omega arith))))
  walk_ends (suc k) n w e s m a =
      let v = look_of size w (slot n) in
      let one : walk_of table size ring (suc k) w ≡ walk_of table size ring k v =
      walk_more table size ring (suc k) w (omega arith) m
      ∙ ap₂ (walk_of table size ring) (omega arith) (ap (λ (x : RingCursor). look_of size w (slot_of table x ring)) s.at) in
      subst Ends (sym one)
      (split (spoilt w (slot n))
      (λ t.
      let x = look_spoilt w (slot n) t in
      subst Ends (sym (walk_done table size ring k v x.0)) (spoils x.1 (seen_bad n w s (omega arith, a) t)))
      (λ f.
      let z = seen_more n w s f in
      let g = look_more w (slot n) f in
      split (has (slot n).flags NEXT)
      (λ t. walk_ends k (n + 1) v (omega arith) z (g ∙ t) (one_more (λ (i : ℕ). Next (slot i)) n a t))
      (λ t.
      subst Ends (sym (walk_done table size ring k v (g ∙ t)))
      (whole (ap₂ (λ (b c : Bool). b || c) z.good (g ∙ t)) (z.at ∙ ap (λ (i : ℕ). steps size i p.avail) (sym z.count))
      (seen_whole n v z (omega arith) a t)))))

  begins : Seen 0 (start p.avail)
  begins =
      record {
        at = sym (steps_none size p.avail);
        count = refl;
        good = refl;
        parted = record { within = omega arith; readable = λ i l. absurd (omega arith); writable = λ i l m. absurd (omega arith) };
        writing = refl;
        direct = λ i h. absurd (omega arith);
      }

  abbrev walked : Walk
  walked = walked_of p ring

  ends : Ends walked
  ends = walk_ends size 0 (start p.avail) (omega arith) begins refl (λ j h. absurd (omega arith))

  -- whatever the bytes are, there is a chain from the avail cursor on, or a bad one
  pub chain_or_bad : ((n : ℕ) × (r : ℕ) × IsChain slot size n r) ⊎ BadChain slot size
  chain_or_bad = which ends
    where
      which : Ends walked → ((n : ℕ) × (r : ℕ) × IsChain slot size n r) ⊎ BadChain slot size
      which (whole f x c) = inl (walked.count, walked.readable, c)
      which (spoils x b) = inr b

  -- the walk calls the chain bad, or comes to no end, exactly for a condition of 2
  pub walk_bad_is : (walked.bad || walked.more ≡ true) ↔ BadChain slot size
  walk_bad_is = (says ends, back ends)
    where
      says : Ends walked → walked.bad || walked.more ≡ true → BadChain slot size
      says (whole f x c) t = absurd (both_ways (walked.bad || walked.more) t f)
      says (spoils x b) t = b

      back : Ends walked → BadChain slot size → walked.bad || walked.more ≡ true
      back (whole f x c) b = absurd (chain_not_bad slot size walked.count walked.readable c b)
      back (spoils x b) d = x

  -- and otherwise what it counted is a chain, and it stands after it
  pub walk_chain :
      walked.bad || walked.more ≡ false
      → IsChain slot size walked.count walked.readable × (walked.at ≡ steps size walked.count p.avail)
  walk_chain f = found ends
    where
      found : Ends walked → IsChain slot size walked.count walked.readable × (walked.at ≡ steps size walked.count p.avail)
      found (whole g x c) = (c, x)
      found (spoils x b) = absurd (both_ways (walked.bad || walked.more) x f)
