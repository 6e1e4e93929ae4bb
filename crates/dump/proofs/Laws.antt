-- The ways a dump's header is read, and what the flags' names leave out.
-- Assumes nothing.
use Prim.Native.Nat.{ℕ, ◌+◌, ◌*◌, ◌/◌, ◌%◌, ◌<◌, ◌≤◌}
use native.Mathlib.Omega.{arith}
use mathlib.Core.Path.{◌≡◌}
use mathlib.Core.List.{List}
use mathlib.Core.Bool.{Bool, true, false, ◌||◌}
use lib.Dec.{ltb, eqb}
use lib.ListN.{length}
use borrow.Author.Tests.{lt-ltb, le-ltb}
use Rattle.desc.specs.Flags.{known}
use Rattle.dump.specs.declared.BadHeader.TheVariants.{NoHeader, BadSize, TableOutside}
use Rattle.std.specs.Prelude.{Ok, Err}
use Rattle.dump.specs.Header.{header_of, ring, size_of, table_of}
use Rattle.dump.specs.Names.{unnamed_of}

module _ (l : List ℕ) where
  -- no size that a program runs
  abbrev pub bad_size : Bool
  bad_size = eqb (size_of l) 0 || ltb 2048 (size_of l)

  pub header_none : length l < 6 → header_of l ≡ Err NoHeader
  unfolding header_of
  header_none h = simp (lt-ltb (length l) 6 h)

  pub header_size : 6 ≤ length l → bad_size ≡ true → header_of l ≡ Err (BadSize (size_of l))
  unfolding header_of
  header_size h s = simp (le-ltb (length l) 6 h, s)

  pub header_outside : 6 ≤ length l → bad_size ≡ false → length l < 6 + table_of l → header_of l ≡ Err (TableOutside (table_of l))
  unfolding header_of
  header_outside h s t = simp (le-ltb (length l) 6 h, s, lt-ltb (length l) (6 + table_of l) t)

  pub header_ring : 6 ≤ length l → bad_size ≡ false → 6 + table_of l ≤ length l → header_of l ≡ Ok (ring (size_of l) (table_of l))
  unfolding header_of
  header_ring h s t = simp (le-ltb (length l) 6 h, s, le-ltb (length l) (6 + table_of l) t)

-- the five flags and the bits without a name are the whole word: nothing of it is left out
pub all_bits : (f : ℕ) → known f + unnamed_of f ≡ f
all_bits f =
    let e₀ : f ≡ f % 8 + 8 * (f / 8) = omega arith in
    let e₁ : f / 8 ≡ f / 8 % 16 + 16 * (f / 128) = omega arith in
    let e₂ : f / 128 ≡ f / 128 % 2 + 2 * (f / 256) = omega arith in
    let e₃ : f / 256 ≡ f / 256 % 128 + 128 * (f / 32768) = omega arith in
    whole f (f % 8) (f / 8) (f / 8 % 16) (f / 128) (f / 128 % 2) (f / 256) (f / 256 % 128) (f / 32768) e₀ e₁ e₂ e₃
  where
    whole :
        (f a q b r c s d t : ℕ) → f ≡ a + 8 * q → q ≡ b + 16 * r → r ≡ c + 2 * s → s ≡ d + 128 * t
        → a + c * 128 + t * 32768 + (b * 8 + d * 256) ≡ f
    whole f a q b r c s d t e₀ e₁ e₂ e₃ = omega arith
