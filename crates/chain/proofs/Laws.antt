-- The parts of a lent chain, exit by exit, for elements of any width.
-- Assumes nothing.
use Prim.Native.Nat.{ℕ, ◌+◌, ◌-◌, ◌*◌, ◌≤◌, ◌<◌}
use mathlib.Core.Path.{◌≡◌, ap}
use native.Mathlib.Omega.{arith}
use mathlib.Core.Bool.{false, not}
use lib.Dec.{eqb}
use lib.ListN.{length, take}
use borrow.Author.Tests.{le-leb, lt-leb, eqb-true, ltb-false, not-false}
use Rattle.base.specs.Part.{Slice, slice, part}
use Rattle.base.proofs.Tests.{neither}
use Rattle.chain.specs.Chain.{empty_end, readables_of, writables_of, bad_slices}

module _ {A : Type 0} (w n : ℕ) (s : Slice A) where
  -- the first part begins where the slice does, and a part of no length is the empty end
  first : slice s.place (take n s.elements) ≡ part w 0 n s
  first =
      let e : s.place.1 ≡ 0 * w + s.place.1 = omega arith in
      λ i. slice (s.place.0, e i) (take n s.elements)

  last : part w (length s.elements) (length s.elements - length s.elements) s ≡ empty_end w s
  last =
      let e : length s.elements - length s.elements ≡ 0 = omega arith in
      ap (λ (k : ℕ). part w (length s.elements) k s) e

  pub readables_fit : n ≤ length s.elements → slice s.place (take n s.elements) ≡ readables_of w n s
  unfolding readables_of
  readables_fit h = simp (le-leb n (length s.elements) h) first

  pub none_readable :
      length s.elements < n
      → part w (length s.elements) (length s.elements - length s.elements) s ≡ readables_of w n s
  unfolding readables_of
  none_readable h = simp (lt-leb n (length s.elements) h) last

  pub writables_fit : n ≤ length s.elements → part w n (length s.elements - n) s ≡ writables_of w n s
  unfolding writables_of
  writables_fit h = simp (le-leb n (length s.elements) h)

  pub none_writable :
      length s.elements < n
      → part w (length s.elements) (length s.elements - length s.elements) s ≡ writables_of w n s
  unfolding writables_of
  none_writable h = simp (lt-leb n (length s.elements) h) last

-- what a chain that is not refused may count on
pub record Good (addrs lens readable : ℕ) : Type 0 where
  pub equal : addrs ≡ lens
  pub within : readable ≤ addrs

pub good : (addrs lens readable : ℕ) → bad_slices addrs lens readable ≡ false → Good addrs lens readable
unfolding bad_slices
good addrs lens readable e =
    let b = neither (not (eqb addrs lens)) _ e in
    record {
      equal = eqb-true addrs lens (not-false (eqb addrs lens) b.0);
      within = ltb-false addrs readable b.1;
    }
