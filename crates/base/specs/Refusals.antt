-- The refusals of document 01, "When the ring says no", by name and number.
use Rattle.std.specs.Prelude.{ℕ, cond, ◌&&◌, ltb}
use Rattle.base.specs.declared.RingError.{RingError}
use Rattle.base.specs.declared.RingError.TheVariants.{EmptyChain, BadChain, WouldBlock, OutOfMemory, InvalidState, InvalidLayout, BadRecord}
use Rattle.base.specs.declared.RingError.TheVariants.{BadLent, BadRollback}

-- the table's column "No."
abbrev pub number_of : RingError → ℕ
number_of EmptyChain = 1
number_of BadChain = 2
number_of WouldBlock = 3
number_of OutOfMemory = 4
number_of InvalidState = 5
number_of InvalidLayout = 6
number_of BadRecord = 7
number_of BadLent = 8
number_of BadRollback = 9

-- a number of the table; one that it has not is taken for 9
unfoldable pub listed : ℕ → ℕ
listed n = cond (ltb 0 n && ltb n 9) n 9
