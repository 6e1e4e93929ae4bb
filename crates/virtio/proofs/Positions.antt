-- The wrap counter in the document's own words (VIRTIO 1.1, 2.7.1): 1 at the start, the same from slot to slot, and flipped when the
-- ring's last slot has been gone over, after which comes slot 0.
-- Assumes nothing.
use Prim.Native.Nat.{ℕ, suc, ◌+◌, ◌*◌, ◌/◌, ◌%◌, ◌<◌}
use mathlib.Core.Path.{◌≡◌, sym, ◌∙◌, ap}
use mathlib.Core.Bool.{true, not}
use native.Mathlib.Omega.{arith}
use native.Mathlib.Nat.{div-add-mod', suc-mul}
use lib.Arith.{digits_div, digits_mod}
use lib.Dec.{eqb}
use borrow.Author.Tests.{eq-eqb, ne_eqb}
use Rattle.base.proofs.Tests.{by_eq}
use Rattle.virtio.specs.Chains.{slot_at, counter_at}

module _ (size : ℕ) (big : 0 < size) where
  pub starts : (slot_at size 0 ≡ 0) × (counter_at size 0 ≡ true)
  starts =
      let e : 0 ≡ 0 * size + 0 = omega arith in
      (ap (λ (n : ℕ). n % size) e ∙ digits_mod 0 big, ap (λ (n : ℕ). eqb (n / size % 2) 0) e ∙ ap (λ (n : ℕ). eqb (n % 2) 0) (digits_div 0 big))

  module _ (p : ℕ) where
    abbrev q : ℕ
    q = p / size

    next : p + 1 ≡ q * size + (p % size + 1)
    next = one p (q * size) (p % size) (sym (div-add-mod' p size))
      where
        one : (x y r : ℕ) → x ≡ y + r → x + 1 ≡ y + (r + 1)
        one x y r e = omega arith

    pub goes_on : slot_at size p + 1 < size → (slot_at size (p + 1) ≡ slot_at size p + 1) × (counter_at size (p + 1) ≡ counter_at size p)
    goes_on h = (
      ap (λ (n : ℕ). n % size) next ∙ digits_mod q h,
      ap (λ (n : ℕ). eqb (n / size % 2) 0) next ∙ ap (λ (n : ℕ). eqb (n % 2) 0) (digits_div q h),
    )

    pub flips : slot_at size p + 1 ≡ size → (slot_at size (p + 1) ≡ 0) × (counter_at size (p + 1) ≡ not (counter_at size p))
    flips h =
        let e : p + 1 ≡ suc q * size + 0 = round (p + 1) (q * size) (suc q * size) (p % size + 1) size next h (suc-mul q size) in (
          ap (λ (n : ℕ). n % size) e ∙ digits_mod (suc q) big,
          ap (λ (n : ℕ). eqb (n / size % 2) 0) e ∙ ap (λ (n : ℕ). eqb (n % 2) 0) (digits_div (suc q) big) ∙ odd q,
        )
      where
        round : (x y z r s : ℕ) → x ≡ y + r → r ≡ s → z ≡ y + s → x ≡ z + 0
        round x y z r s a b c = omega arith

        odd : (n : ℕ) → eqb (suc n % 2) 0 ≡ not (eqb (n % 2) 0)
        odd n =
            by_eq (n % 2) 0
            (λ e. ne_eqb (suc n % 2) 0 (λ f. omega arith) ∙ sym (ap not (eq-eqb (n % 2) 0 e)))
            (λ e. eq-eqb (suc n % 2) 0 (omega arith) ∙ sym (ap not (ne_eqb (n % 2) 0 e)))
