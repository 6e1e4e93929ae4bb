-- A geometry is refused with 6 exactly for the conditions that document 01 names.
-- Assumes nothing.
use Prim.Native.Nat.{ℕ, ◌+◌, ◌*◌, ◌%◌, ◌<◌}
use mathlib.Core.Path.{◌≡◌}
use mathlib.Core.Logic.{◌↔◌, ⊎_elim}
use mathlib.Core.Bool.{true, not, ◌||◌}
use native.Mathlib.Omega.{arith}
use lib.Dec.{ltb, leb, eqb}
use borrow.Author.Tests.{ltb-true, leb-false, eqb-true, eqb-false, not-true}
use Rattle.base.proofs.Tests.{neither, by_lt}
use Rattle.layout.specs.declared.Layout.{Layout}
use Rattle.layout.specs.Layout.{apart, table_bytes, bad_layout, outside}
use Rattle.layout.proofs.Laws.{Apart, Laid, laid, Within, within}
use Rattle.converse.specs.Geometry.{Overlap, Broken, Outside, InvalidLayout}
use Rattle.converse.specs.Geometry.Broken.{no_slots, too_many, table_offset, driver_offset, device_offset, table_driver, table_device}
use Rattle.converse.specs.Geometry.Broken.{driver_device}
use Rattle.converse.specs.Geometry.Outside.{table, driver, device}
use Rattle.converse.proofs.Ladder.{holds, either, or_is}

-- ---- the conditions, as tests and as facts

-- two areas that have a byte in common are not apart
share_not_apart : (a n b m : ℕ) → Overlap a n b m → Apart a n b m → ⊥
share_not_apart a n b m (k, x, y, z, w) o = ⊎_elim (λ h. omega arith) (λ h. omega arith) o

-- and two areas that are not apart have one, where both have bytes at all: the later start
overlaps : (a n b m : ℕ) → 0 < n → 0 < m → not (apart a n b m) ≡ true → Overlap a n b m
unfolding apart
overlaps a n b m x y e =
    let f = neither (leb (a + n) b) (leb (b + m) a) (not-true _ e) in
    let p = leb-false (a + n) b f.0 in
    let q = leb-false (b + m) a f.1 in
    by_lt a b
    (λ l. (b, omega arith, p, omega arith, omega arith))
    (λ l. (a, omega arith, omega arith, l, q))

-- ---- refusal 6, apart from fitting the lent bytes

-- none of them holds of a geometry that is laid out well
pub clash : (l : Layout) → Laid l → Broken l → ⊥
clash l g (no_slots h) = omega (arith, g.low)
clash l g (too_many h) = omega (arith, g.high)
clash l g (table_offset h) = h g.table
clash l g (driver_offset h) = h g.driver
clash l g (device_offset h) = h g.device
clash l g (table_driver h) = share_not_apart _ _ _ _ h g.table_driver
clash l g (table_device h) = share_not_apart _ _ _ _ h g.table_device
clash l g (driver_device h) = share_not_apart _ _ _ _ h g.driver_device

breaks : (l : Layout) → bad_layout l ≡ true → Broken l
unfolding bad_layout
breaks l e =
    by_lt l.size 1
    no_slots
    (λ z.
    either (eqb l.size 0) _ (λ t. no_slots (omega (arith, eqb-true l.size 0 t)))
    (either (ltb 32768 l.size) _ (λ t. too_many (ltb-true 32768 l.size t))
    (either (not (eqb (l.table % 16) 0)) _ (λ t. table_offset (eqb-false (l.table % 16) 0 (not-true _ t)))
    (either (not (eqb (l.driver % 4) 0)) _ (λ t. driver_offset (eqb-false (l.driver % 4) 0 (not-true _ t)))
    (either (not (eqb (l.device % 4) 0)) _ (λ t. device_offset (eqb-false (l.device % 4) 0 (not-true _ t)))
    (either (not (apart l.table (table_bytes l) l.driver 4)) _
    (λ t. table_driver (overlaps l.table (l.size * 16) l.driver 4 (omega arith) (omega arith) t))
    (either (not (apart l.table (table_bytes l) l.device 4)) _
    (λ t. table_device (overlaps l.table (l.size * 16) l.device 4 (omega arith) (omega arith) t))
    (λ t. driver_device (overlaps l.driver 4 l.device 4 (omega arith) (omega arith) t))))))))
    e)

-- the geometry test holds exactly if a condition of 6 does
pub broken_is : (l : Layout) → (bad_layout l ≡ true) ↔ Broken l
broken_is l = (breaks l, λ b. holds (bad_layout l) (λ f. clash l (laid l f) b))

-- ---- "an area outside the lent bytes"

-- no area is outside of bytes that all three are whole in
pub reaches_out : (l : Layout) (bytes : ℕ) → Within l bytes → Outside l bytes → ⊥
reaches_out l bytes g (table h) = omega (arith, g.table)
reaches_out l bytes g (driver h) = omega (arith, g.driver)
reaches_out l bytes g (device h) = omega (arith, g.device)

lies_out : (l : Layout) (bytes : ℕ) → outside l bytes ≡ true → Outside l bytes
unfolding outside
lies_out l bytes =
    either (not (leb (l.table + table_bytes l) bytes)) _ (λ t. table (leb-false (l.table + table_bytes l) bytes (not-true _ t)))
    (either (not (leb (l.driver + 4) bytes)) _ (λ t. driver (leb-false (l.driver + 4) bytes (not-true _ t)))
    (λ t. device (leb-false (l.device + 4) bytes (not-true _ t))))

-- the test on the lent bytes holds exactly if an area is outside of them
pub outside_is : (l : Layout) (bytes : ℕ) → (outside l bytes ≡ true) ↔ Outside l bytes
outside_is l bytes = (lies_out l bytes, λ o. holds (outside l bytes) (λ f. reaches_out l bytes (within l bytes f) o))

-- both tests, exactly if 6 is to be given
pub invalid_is : (l : Layout) (bytes : ℕ) → (bad_layout l || outside l bytes ≡ true) ↔ InvalidLayout l bytes
invalid_is l bytes = or_is (bad_layout l) (outside l bytes) (broken_is l) (outside_is l bytes)
