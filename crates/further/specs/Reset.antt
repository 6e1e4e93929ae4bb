-- "reset zeroes the table and the driver event, then everything is fresh"; "Its reset zeroes only the device event." Both ends
-- reset, each given its own: calls of the machine like any other. But a reset of an end given its own that is accepted is not fair (`FairCall`,
-- packed/specs/Machine.antt), and hence in no run; a run in which both ends are reset is two runs (further/proofs/Reset.antt).
use Rattle.std.specs.Prelude.{◌≡◌, []}
use Rattle.base.specs.Answer.{Answer, done}
use Rattle.packed.specs.Calls.{producer_reset, consumer_reset, by_producer, by_consumer, own}
use Rattle.packed.specs.Machine.{World, packed, own_answer, leaves}
use Rattle.packed.specs.Opening.{Opening, opened_world}

-- what the end's reset answers
abbrev pub reset_by_producer : World → Answer
reset_by_producer w = own_answer packed w (by_producer producer_reset)

abbrev pub reset_by_consumer : World → Answer
reset_by_consumer w = own_answer packed w (by_consumer consumer_reset)

-- the world after it
abbrev pub with_producer_reset : World → World
with_producer_reset w = leaves packed w (own (by_producer producer_reset))

abbrev pub with_consumer_reset : World → World
with_consumer_reset w = leaves packed w (own (by_consumer consumer_reset))

-- a world is that of two fresh openings of this one's geometry
pub record Reopened (o : Opening packed) (v : World) : Type 0 where
  pub again : Opening packed
  pub same_layout : again.geometry ≡ o.geometry
  pub opened : opened_world packed again ≡ v

-- both ends reset in this world: each reset is accepted, as the first and as the second, and after both, in either order, the ends are fresh
-- and the descriptor table is zero
pub record ResetsOpen (o : Opening packed) (w : World) : Type 0 where
  pub producer_first : reset_by_producer w ≡ done []
  pub consumer_second : reset_by_consumer (with_producer_reset w) ≡ done []
  pub reopened : Reopened o (with_consumer_reset (with_producer_reset w))
  pub consumer_first : reset_by_consumer w ≡ done []
  pub producer_second : reset_by_producer (with_consumer_reset w) ≡ done []
  pub reopened_too : Reopened o (with_producer_reset (with_consumer_reset w))
