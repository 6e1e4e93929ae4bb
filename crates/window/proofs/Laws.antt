-- What a window shows, exit by exit, and how an answer is told.
-- Assumes nothing.
use Prim.Native.Nat.{ℕ, ◌+◌, ◌*◌, ◌≤◌, ◌<◌}
use mathlib.Core.Path.{◌≡◌, refl, ap}
use mathlib.Core.List.{List}
use native.Mathlib.Omega.{arith}
use lib.ListN.{length, get_or}
use borrow.Author.Tests.{lt-ltb, le-ltb, le-leb, lt-leb}
use Rattle.base.specs.Answer.{Answer}
use Rattle.base.specs.Bytes.{get_of}
use Rattle.base.proofs.Tests.{by_lt}
use Rattle.desc.specs.Desc.{descriptor, decode_of}
use Rattle.std.specs.Prelude.{Option, Some, None}
use Rattle.desc.specs.declared.Descriptor.{Descriptor}
use Rattle.window.specs.Window.{answer_of, shown_of}

module _ (bytes : List ℕ) (size i : ℕ) where
  pub shown :
      i < size → i * 16 + 16 ≤ length bytes
      → shown_of bytes size i ≡ answer_of (Some (decode_of (get_of bytes (i * 16) 16)))
  unfolding shown_of
  shown h w = simp (lt-ltb i size h, le-leb (i * 16 + 16) (length bytes) w)

  -- i is not below the size
  pub past : size ≤ i → shown_of bytes size i ≡ answer_of None
  unfolding shown_of
  past h = simp (le-ltb i size h)

  -- the slot is not whole in the bytes
  pub cut : length bytes < i * 16 + 16 → shown_of bytes size i ≡ answer_of None
  unfolding shown_of
  cut w = by_lt i size (λ h. simp (lt-ltb i size h, lt-leb (i * 16 + 16) (length bytes) w)) (λ h. simp (le-ltb i size h))

value : ℕ → Answer → ℕ
value i a = get_or a.values i 0

-- a slot's values tell it
pub answer_same : (x y : Option Descriptor) → answer_of x ≡ answer_of y → x ≡ y
unfolding value
answer_same (Some d) (Some e) h = λ j. Some (descriptor (ap (value 1) h j) (ap (value 2) h j) (ap (value 3) h j) (ap (value 4) h j))
answer_same (Some d) None h = absurd (omega (arith, ap (value 0) h))
answer_same None (Some e) h = absurd (omega (arith, ap (value 0) h))
answer_same None None h = refl
