-- Real calls: a machine whose calls are calls of the public functions of `producer` and `consumer`, each only known to meet the GENERATED contract
-- of its function, each end given back its own last record and tables. What such a call says and leaves is read off its own result and exit, and not
-- off any definition: so demand 3 of this machine (packed/proofs/Real.antt) is demand 3 of the functions.
use Rattle.std.specs.Prelude.{ℕ, ◌+◌, ◌*◌, ◌<◌, ◌≡◌, List, [], ◌∷◌, length, get_or, Ok}
use Rattle.base.specs.Answer.{Answer}
use Rattle.layout.specs.declared.Layout.{Layout}
use Rattle.producer.specs.declared.RingProducer.{RingProducer}
use Rattle.producer.specs.Fresh as made_fresh
use Rattle.producer.proofs.RingProducer.new.Reads as producer_new_contract
use Rattle.consumer.specs.declared.RingConsumer.{RingConsumer}
use Rattle.consumer.specs.declared.Checkpoint.{Checkpoint}
use Rattle.consumer.specs.Fresh as taken_fresh
use Rattle.consumer.proofs.RingConsumer.new.Reads as consumer_new_contract
use Rattle.queue.specs.Promise.{plain}
use Rattle.queue.specs.Machine.{Machine, world_of, history_of}
use Rattle.queue.specs.Demand.{Premise, Demand3}
use Rattle.packed.specs.Meets.{Meets, first, second, third, fourth}
use Rattle.packed.specs.Calls.{Lent, LentProducer, LentConsumer, Call, Given, TypedCall, request_of}
use Rattle.packed.specs.Calls.{by_producer, by_consumer, to_producer, to_consumer, new_producer, new_consumer, own, foreign}
use Rattle.packed.specs.Machine.{World, Lendings, lendings, addrs_lent, lens_lent, place_of, kept_of, FairCall, says_of}
use Rattle.packed.specs.Machine.{after_producer, after_consumer, packed, call_answer}
use Rattle.packed.specs.Opening.{opened_world, Run, history_in, world_in}
use Rattle.packed.specs.RealProducer.{RealProducer}
use Rattle.packed.specs.RealProducer as producer
use Rattle.packed.specs.RealConsumer.{RealConsumer}
use Rattle.packed.specs.RealConsumer as consumer

-- a call of `new` of the producer, and of the consumer
abbrev pub ProducerNew : Type 0
ProducerNew = Meets producer_new_contract.Post

abbrev pub ConsumerNew : Type 0
ConsumerNew = Meets consumer_new_contract.Post

-- the geometry, the bytes and the tables that it was given, and the tables at exit
abbrev pub producer_geometry : ProducerNew → Layout
producer_geometry m = first m.entry

abbrev pub producer_finds : ProducerNew → List ℕ
producer_finds m = (second m.entry).now

abbrev pub consumer_geometry : ConsumerNew → Layout
consumer_geometry m = first m.entry

abbrev pub consumer_finds : ConsumerNew → List ℕ
consumer_finds m = (second m.entry).now

-- a call: one of an end given its own; one given what is not (it says which things are); an opening in the middle of a run
pub data RealCall : Type 0 where
  producers : RealProducer → RealCall
  consumers : RealConsumer → RealCall
  to_another_producer : LentProducer → Lent (List ℕ) → RealProducer → RealCall
  to_another_consumer : LentConsumer → Lent (List ℕ) → RealConsumer → RealCall
  -- IDs, counts; bytes
  opens_producer : Lent (List ℕ) → Lent (List ℕ) → Lent (List ℕ) → ProducerNew → RealCall
  opens_consumer : Lent (List ℕ) → Lent (List ℕ) → ConsumerNew → RealCall

-- the same call, as the machine of Machine.antt has it
abbrev pub as_call : RealCall → Call
as_call (producers x) = own (by_producer (producer.call_of x))
as_call (consumers x) = own (by_consumer (consumer.call_of x))
as_call (to_another_producer l b x) = foreign (to_producer l b (producer.call_of x))
as_call (to_another_consumer l b x) = foreign (to_consumer l b (consumer.call_of x))
as_call (opens_producer i k b m) = foreign (new_producer (producer_geometry m) i k b)
as_call (opens_consumer k b m) = foreign (new_consumer (consumer_geometry m) k b)

-- ---- what it was given, what it answered and what it left, in its place

-- what it was lent
abbrev pub enters_in : World → RealCall → World
enters_in v (producers x) = after_producer v (producer.side_lent v.producer x) (producer.bytes_lent v.ring x)
enters_in v (consumers x) = after_consumer v (consumer.side_lent v.consumer x) (consumer.bytes_lent v.ring x)
enters_in v (to_another_producer l b x) = after_producer v (producer.side_lent v.producer x) (producer.bytes_lent v.ring x)
enters_in v (to_another_consumer l b x) = after_consumer v (consumer.side_lent v.consumer x) (consumer.bytes_lent v.ring x)
enters_in v (opens_producer i k b m) =
    after_producer v (record { end = v.producer.end; ids = (third m.entry).now; counts = (fourth m.entry).now }) (producer_finds m)
enters_in v (opens_consumer k b m) = after_consumer v (record { end = v.consumer.end; counts = (third m.entry).now }) (consumer_finds m)

-- its answer
abbrev pub real_answer : RealCall → Answer
real_answer (producers x) = producer.answer_of x
real_answer (consumers x) = consumer.answer_of x
real_answer (to_another_producer l b x) = producer.answer_of x
real_answer (to_another_consumer l b x) = consumer.answer_of x
real_answer (opens_producer i k b m) = made_fresh.opened_answer m.result
real_answer (opens_consumer k b m) = taken_fresh.opened_answer m.result

-- what it left of it: the record that it handed back, tables and bytes at exit
abbrev pub exits_in : World → RealCall → World
exits_in v (producers x) = after_producer v (producer.side_left v.producer x) (producer.bytes_left v.ring x)
exits_in v (consumers x) = after_consumer v (consumer.side_left v.consumer x) (consumer.bytes_left v.ring x)
exits_in v (to_another_producer l b x) = after_producer v (producer.side_left v.producer x) (producer.bytes_left v.ring x)
exits_in v (to_another_consumer l b x) = after_consumer v (consumer.side_left v.consumer x) (consumer.bytes_left v.ring x)
exits_in v (opens_producer i k b m) =
    after_producer v (record { end = v.producer.end; ids = (third m.exit).now; counts = (fourth m.exit).now }) (producer_finds m)
exits_in v (opens_consumer k b m) = after_consumer v (record { end = v.consumer.end; counts = (third m.exit).now }) (consumer_finds m)

-- a poll's outputs, lent and at exit
abbrev pub addrs_in : RealCall → List ℕ
addrs_in (producers x) = []
addrs_in (consumers x) = addrs_lent (consumer.call_of x)
addrs_in (to_another_producer l b x) = []
addrs_in (to_another_consumer l b x) = addrs_lent (consumer.call_of x)
addrs_in (opens_producer i k b m) = []
addrs_in (opens_consumer k b m) = []

abbrev pub lens_in : RealCall → List ℕ
lens_in (producers x) = []
lens_in (consumers x) = lens_lent (consumer.call_of x)
lens_in (to_another_producer l b x) = []
lens_in (to_another_consumer l b x) = lens_lent (consumer.call_of x)
lens_in (opens_producer i k b m) = []
lens_in (opens_consumer k b m) = []

abbrev pub addrs_out : RealCall → List ℕ
addrs_out (producers x) = []
addrs_out (consumers x) = consumer.addrs_left x
addrs_out (to_another_producer l b x) = []
addrs_out (to_another_consumer l b x) = consumer.addrs_left x
addrs_out (opens_producer i k b m) = []
addrs_out (opens_consumer k b m) = []

abbrev pub lens_out : RealCall → List ℕ
lens_out (producers x) = []
lens_out (consumers x) = consumer.lens_left x
lens_out (to_another_producer l b x) = []
lens_out (to_another_consumer l b x) = consumer.lens_left x
lens_out (opens_producer i k b m) = []
lens_out (opens_consumer k b m) = []

-- ---- the machine of real calls

-- "each end given back its own last record and tables": the call was lent what is in its place. Its arguments are of their types; and the rest as in
-- Machine.antt: no reset that is accepted, no foreign call but one that is refused
pub record FairReal (w : World) (c : RealCall) : Type 0 where
  pub own_given : enters_in (place_of w (as_call c)) c ≡ place_of w (as_call c)
  pub typed : TypedCall (as_call c)
  pub answered : FairCall (as_call c) (real_answer c).number

abbrev pub real_machine : ℕ → Machine Checkpoint
real_machine size =
    record {
      World = World;
      Call = RealCall;
      request = λ c. request_of size (as_call c);
      Fair = FairReal;
      say = λ w c. says_of size (as_call c) (real_answer c) (addrs_out c) (lens_out c);
      go = λ w c. kept_of w (as_call c) (exits_in (place_of w (as_call c)) c);
      Lent = Lendings;
      entry = λ w c. lendings (enters_in (place_of w (as_call c)) c) (addrs_in c) (lens_in c);
      exit = λ w c. lendings (exits_in (place_of w (as_call c)) c) (addrs_out c) (lens_out c);
    }

-- ---- two fresh ends

-- a call of each `new` that handed a record back, with one geometry, over one zeroed ring; of the bytes that each found only the length is asked
pub record RealOpening : Type 0 where
  pub producer_new : ProducerNew
  pub consumer_new : ConsumerNew
  pub producer : RingProducer
  pub consumer : RingConsumer
  pub producer_opened : producer_new.result ≡ Ok producer
  pub consumer_opened : consumer_new.result ≡ Ok consumer
  pub one_geometry : consumer_geometry consumer_new ≡ producer_geometry producer_new
  pub ring : List ℕ
  pub zeroed : (k : ℕ) → k < (producer_geometry producer_new).size * 16 → get_or ring ((producer_geometry producer_new).table + k) 0 ≡ 0
  pub producer_length : length (producer_finds producer_new) ≡ length ring
  pub consumer_length : length (consumer_finds consumer_new) ≡ length ring

abbrev pub opened_size : RealOpening → ℕ
opened_size o = (producer_geometry o.producer_new).size

-- each end has the record that its `new` handed back, and its tables as `new` left them
abbrev pub real_opened : RealOpening → World
real_opened o =
    record {
      producer = record { end = o.producer; ids = (third o.producer_new.exit).now; counts = (fourth o.producer_new.exit).now };
      consumer = record { end = o.consumer; counts = (third o.consumer_new.exit).now };
      ring = o.ring;
    }

-- a run of real calls, THE LATEST FIRST, and what is asked of them
pub record RealRun : Type 0 where
  pub opening : RealOpening
  pub calls : List RealCall
  pub premise : Premise (real_machine (opened_size opening)) (plain (opened_size opening)) (real_opened opening) calls

-- DEMAND 3 of the functions: of every run of real calls
abbrev pub RealDemand : Type 0
RealDemand =
    (r : RealRun) → Demand3 (real_machine (opened_size r.opening)) (plain (opened_size r.opening)) (real_opened r.opening) r.calls

-- ---- and its run of the machine

-- the calls, without what was answered
abbrev pub as_calls : List RealCall → List Call
as_calls [] = []
as_calls (c ∷ cs) = as_call c ∷ as_calls cs

abbrev pub calls_in : List Given → List Call
calls_in [] = []
calls_in (g ∷ gs) = g.call ∷ calls_in gs

-- each call of a real run answered what the machine answers in its place, values and all
abbrev pub AnswersAgree : ℕ → World → List RealCall → Type 0
AnswersAgree n w [] = Unit
AnswersAgree n w (c ∷ cs) =
    AnswersAgree n w cs × (call_answer packed (place_of (world_of (real_machine n) w cs) (as_call c)) (as_call c) ≡ real_answer c)

-- a run of the machine with the same calls and answers, and after it the same records, tables and bytes
pub record IsRun (r : RealRun) : Type 0 where
  pub run : Run packed
  pub opened : opened_world packed run.opening ≡ real_opened r.opening
  pub calls : calls_in run.calls ≡ as_calls r.calls
  pub answers : AnswersAgree (opened_size r.opening) (real_opened r.opening) r.calls
  pub history : history_in packed run ≡ history_of (real_machine (opened_size r.opening)) (real_opened r.opening) r.calls
  pub world : world_in packed run ≡ world_of (real_machine (opened_size r.opening)) (real_opened r.opening) r.calls
