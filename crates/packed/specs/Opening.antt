-- "Take two fresh ends over one zeroed ring, any mix of their calls": two accepted openings, the world after them, calls in it, and demand 3 of
-- a ring.
use Rattle.std.specs.Prelude.{ℕ, ◌+◌, ◌*◌, ◌<◌, ◌≡◌, List, length, get_or}
use Rattle.layout.specs.declared.Layout.{Layout}
use Rattle.consumer.specs.declared.Checkpoint.{Checkpoint}
use Rattle.queue.specs.History.{History}
use Rattle.queue.specs.Promise.{Rules, plain}
use Rattle.queue.specs.Machine.{Machine, world_of, history_of}
use Rattle.queue.specs.Demand.{Premise, Demand3}
use Rattle.packed.specs.Calls.{Given}
use Rattle.packed.specs.Machine.{World, Ring, ProducerOpens, ConsumerOpens, machine_of}

module _ (R : Ring) where
  -- what the two `new` are given. Both are accepted: any geometry that they take, with tables of any first contents and any length that they take.
  -- "Over one zeroed ring": the descriptor table is zero at first (a zeroed ring is so; that other bytes are zero is not asked). An end may be opened
  -- when the other has already written: of the bytes that its `new` finds, only the length is asked. (Which openings the packed ring accepts,
  -- exactly: crate `converse`.)
  pub record Opening : Type 0 where
    pub geometry : Layout
    pub ring : List ℕ
    pub zeroed : (k : ℕ) → k < geometry.size * 16 → get_or ring (geometry.table + k) 0 ≡ 0
    -- the producer's two tables, and the consumer's one
    pub ids : List ℕ
    pub counts : List ℕ
    pub held_counts : List ℕ
    pub producer_finds : List ℕ
    pub consumer_finds : List ℕ
    pub producer_length : length producer_finds ≡ length ring
    pub consumer_length : length consumer_finds ≡ length ring
    pub producer : (R.producer_new geometry producer_finds ids counts).answer.number ≡ 0
    pub consumer : (R.consumer_new geometry consumer_finds held_counts).answer.number ≡ 0

  -- what its two openings answered and left
  abbrev pub producer_opened : Opening → ProducerOpens
  producer_opened o = R.producer_new o.geometry o.producer_finds o.ids o.counts

  abbrev pub consumer_opened : Opening → ConsumerOpens
  consumer_opened o = R.consumer_new o.geometry o.consumer_finds o.held_counts

  -- each end has the record that its opening answered and the tables as it left them
  abbrev pub opened_world : Opening → World
  opened_world o = record { producer = (producer_opened o).side; consumer = (consumer_opened o).side; ring = o.ring }

  -- the machine and the rules of a ring opened so
  abbrev pub machine : Opening → Machine Checkpoint
  machine o = machine_of R o.geometry.size

  abbrev pub rules : Opening → Rules Checkpoint
  rules o = plain o.geometry.size

  -- "Take two fresh ends over one zeroed ring, any mix of their calls ..": an opening, a list of calls, THE LATEST FIRST, and what is asked of them
  pub record Run : Type 0 where
    pub opening : Opening
    pub calls : List Given
    pub premise : Premise (machine opening) (rules opening) (opened_world opening) calls

  -- what its calls said, and the world after them
  abbrev pub history_in : Run → History Checkpoint
  history_in r = history_of (machine r.opening) (opened_world r.opening) r.calls

  abbrev pub world_in : Run → World
  world_in r = world_of (machine r.opening) (opened_world r.opening) r.calls

  -- DEMAND 3 of a ring: of every run of it
  abbrev pub Demand : Type 0
  Demand = (r : Run) → Demand3 (machine r.opening) (rules r.opening) (opened_world r.opening) r.calls
