-- An opening is refused with 6 exactly for the conditions of document 01, then with 8 exactly for a short table, and opens otherwise: both ends.
-- Assumes nothing.
use Prim.Native.Nat.{ℕ, ◌≤◌, ◌<◌}
use mathlib.Core.Path.{◌≡◌, refl, sym, ◌∙◌, ap}
use mathlib.Core.Logic.Iff
use mathlib.Core.Logic.{◌↔◌, ◌⊎◌}
use mathlib.Core.List.{List}
use mathlib.Core.Bool.{Bool, true, false, cond, ◌||◌}
use native.Mathlib.Omega.{arith}
use lib.Dec.{ltb}
use lib.ListN.{length}
use borrow.Author.Tests.{ltb-true, ltb-false, lt-ltb, le-ltb}
use Rattle.base.specs.Answer.{Answer}
use Rattle.layout.specs.declared.Layout.{Layout}
use Rattle.layout.specs.Layout.{layout, bad_layout, outside}
use Rattle.layout.specs.Layout as laid
use Rattle.layout.proofs.Laws.{refuses, opens}
use Rattle.producer.specs.Fresh as made
use Rattle.producer.proofs.Reset as makes
use Rattle.consumer.specs.Fresh as taken
use Rattle.consumer.proofs.Reset as takes
use Rattle.converse.specs.Geometry.{InvalidLayout}
use Rattle.converse.proofs.Ladder.{false_not_true, or_is, nor_is, failing, here, past, neither_has, last}
use Rattle.converse.proofs.Geometry.{invalid_is}

-- ---- "6, then 8 (tables only) at opening": the ladder that both ends have

abbrev ladder : Bool → Bool → ℕ
ladder bad short = cond bad 6 (cond short 8 0)

is_ladder :
    (bad short : Bool) {n : ℕ} → (bad ≡ true → n ≡ 6) → (bad ≡ false → short ≡ true → n ≡ 8) → (bad ≡ false → short ≡ false → n ≡ 0)
    → n ≡ ladder bad short
is_ladder true short f g h = f refl
is_ladder false true f g h = g refl refl
is_ladder false false f g h = h refl refl

given : {n k : ℕ} → n ≡ k → (m : ℕ) → (n ≡ m) ↔ (k ≡ m)
given e m = (λ g. sym e ∙ g, λ g. e ∙ g)

gives_six : {A : Type 0} (bad short : Bool) {n : ℕ} → n ≡ ladder bad short → (bad ≡ true) ↔ A → (n ≡ 6) ↔ A
gives_six bad short e a =
    Iff.trans (given e 6) (here bad 6 (cond short 8 0) (neither_has short 8 0 6 (λ z. omega arith) (λ z. omega arith)) a)

gives_eight :
    {A B : Type 0} (bad short : Bool) {n : ℕ} → n ≡ ladder bad short → (bad ≡ true) ↔ A → (short ≡ true) ↔ B → (n ≡ 8) ↔ ((¬ A) × B)
gives_eight bad short e a b =
    Iff.trans (given e 8) (past bad 6 (cond short 8 0) 8 (λ z. omega arith) (failing bad a) (here short 8 0 (λ z. omega arith) b))

gives_none :
    {A C : Type 0} (bad short : Bool) {n : ℕ} → n ≡ ladder bad short → (bad ≡ true) ↔ A → (short ≡ false) ↔ C → (n ≡ 0) ↔ ((¬ A) × C)
gives_none bad short e a c =
    Iff.trans (given e 0) (past bad 6 (cond short 8 0) 0 (λ z. omega arith) (failing bad a) (last short 8 (λ z. omega arith) c))

-- a table is shorter than the size, as a test and as a fact
short_is : (k size : ℕ) → (ltb k size ≡ true) ↔ (k < size)
short_is k size = (ltb-true k size, lt-ltb k size)

long_is : (k size : ℕ) → (ltb k size ≡ false) ↔ (size ≤ k)
long_is k size = (ltb-false k size, le-ltb k size)

module _ (size table driver device : ℕ) (ring : List ℕ) where
  abbrev at : Layout
  at = layout size table driver device

  abbrev bad : Bool
  bad = bad_layout at || outside at (length ring)

  -- what 6 is given for, as a test and as a fact
  six : (bad ≡ true) ↔ InvalidLayout at (length ring)
  six = invalid_is at (length ring)

  -- ---- the producer, which is lent IDs and counts

  module _ (ids counts : List ℕ) where
    abbrev short : Bool
    short = ltb (length ids) size || ltb (length counts) size

    abbrev pub producer_number : ℕ
    producer_number = (made.open_of size table driver device ring ids counts).answer.number

    producer_ladder : producer_number ≡ ladder bad short
    producer_ladder =
        is_ladder bad short
        (λ b. ap (λ (o : made.Open). o.answer.number) (makes.opening_refused size table driver device ring ids counts b))
        (λ g t. ap (λ (o : made.Open). o.answer.number) (makes.opening_short size table driver device ring ids counts g t))
        (λ g t. ap (λ (o : made.Open). o.answer.number) (makes.opening_done size table driver device ring ids counts g t))

    -- refused with 6 exactly for a condition of 6
    pub producer_invalid : (producer_number ≡ 6) ↔ InvalidLayout at (length ring)
    producer_invalid = gives_six bad short producer_ladder six

    -- with 8 exactly for a table that is shorter than the size, where no condition of 6 holds
    pub producer_short :
        (producer_number ≡ 8) ↔ ((¬ InvalidLayout at (length ring)) × ((length ids < size) ⊎ (length counts < size)))
    producer_short =
        gives_eight bad short producer_ladder six
        (or_is (ltb (length ids) size) (ltb (length counts) size) (short_is (length ids) size) (short_is (length counts) size))

    -- and it opens exactly where there is neither
    pub producer_opens_lem :
        (producer_number ≡ 0) ↔ ((¬ InvalidLayout at (length ring)) × ((size ≤ length ids) × (size ≤ length counts)))
    producer_opens_lem =
        gives_none bad short producer_ladder six
        (nor_is (ltb (length ids) size) (ltb (length counts) size) (long_is (length ids) size) (long_is (length counts) size))

  -- ---- the consumer, which is lent counts alone

  module _ (counts : List ℕ) where
    abbrev few : Bool
    few = ltb (length counts) size

    abbrev pub consumer_number : ℕ
    consumer_number = (taken.open_of size table driver device ring counts).answer.number

    consumer_ladder : consumer_number ≡ ladder bad few
    consumer_ladder =
        is_ladder bad few
        (λ b. ap (λ (o : taken.Open). o.answer.number) (takes.opening_refused size table driver device ring counts b))
        (λ g t.
        ap (λ (o : taken.Open). o.answer.number) (takes.opening_short size table driver device ring counts g (ltb-true (length counts) size t)))
        (λ g t.
        ap (λ (o : taken.Open). o.answer.number) (takes.opening_done size table driver device ring counts g (ltb-false (length counts) size t)))

    -- refused with 6 exactly for a condition of 6
    pub consumer_invalid : (consumer_number ≡ 6) ↔ InvalidLayout at (length ring)
    consumer_invalid = gives_six bad few consumer_ladder six

    -- with 8 exactly for counts shorter than the size, where no condition of 6 holds
    pub consumer_short : (consumer_number ≡ 8) ↔ ((¬ InvalidLayout at (length ring)) × (length counts < size))
    consumer_short = gives_eight bad few consumer_ladder six (short_is (length counts) size)

    -- and it opens exactly where there is neither
    pub consumer_opens_lem : (consumer_number ≡ 0) ↔ ((¬ InvalidLayout at (length ring)) × (size ≤ length counts))
    consumer_opens_lem = gives_none bad few consumer_ladder six (long_is (length counts) size)

-- ---- the geometry alone, over so many bytes

module _ (l : Layout) (bytes : ℕ) where
  abbrev pub layout_number : ℕ
  layout_number = (laid.open_of l bytes).number

  layout_ladder : layout_number ≡ ladder (bad_layout l || outside l bytes) false
  layout_ladder =
      is_ladder (bad_layout l || outside l bytes) false
      (λ b. ap (λ (a : Answer). a.number) (refuses l bytes b))
      (λ g t. absurd (false_not_true t))
      (λ g t. ap (λ (a : Answer). a.number) (opens l bytes g))

  -- refused with 6 exactly for a condition of 6
  pub layout_invalid : (layout_number ≡ 6) ↔ InvalidLayout l bytes
  layout_invalid = gives_six (bad_layout l || outside l bytes) false layout_ladder (invalid_is l bytes)

  -- and taken exactly where there is none
  pub layout_opens : (layout_number ≡ 0) ↔ (¬ InvalidLayout l bytes)
  layout_opens =
      Iff.trans (given layout_ladder 0)
      (last (bad_layout l || outside l bytes) 6 (λ z. omega arith) (failing (bad_layout l || outside l bytes) (invalid_is l bytes)))
