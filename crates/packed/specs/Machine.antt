-- Both ends over one ring, as a machine. A ring is what its calls answer and leave; the packed ring is the very definitions that the contracts of
-- `producer` and `consumer` cite.
use Rattle.std.specs.Prelude.{ℕ, ◌-◌, ◌≡◌, List, [], ◌∷◌, not, T, eqb, get_or}
use Rattle.base.specs.Answer.{Answer, bit}
use Rattle.cursor.specs.Cursor.{at, values_of}
use Rattle.layout.specs.declared.Layout.{Layout}
use Rattle.ring.specs.Asked.{ask_of}
use Rattle.producer.specs.declared.RingProducer.{RingProducer}
use Rattle.producer.specs.Outcome as made
use Rattle.producer.specs.Record as made_record
use Rattle.producer.specs.Submit.{submit_of}
use Rattle.producer.specs.Tell as made_told
use Rattle.producer.specs.Poll as used_poll
use Rattle.producer.specs.Notices as used_notices
use Rattle.producer.specs.Fresh as made_fresh
use Rattle.consumer.specs.declared.RingConsumer.{RingConsumer}
use Rattle.consumer.specs.declared.Checkpoint.{Checkpoint}
use Rattle.consumer.specs.Outcome as taken
use Rattle.consumer.specs.Record as taken_record
use Rattle.consumer.specs.Poll.{Taken, poll_of, peek_of}
use Rattle.consumer.specs.Complete.{complete_of, tell_of}
use Rattle.consumer.specs.Rollback.{checkpoint_of, checkpoint_values, rollback_of}
use Rattle.consumer.specs.Notices as avail_notices
use Rattle.consumer.specs.Fresh as taken_fresh
use Rattle.queue.specs.History.{Chain, Event}
use Rattle.queue.specs.History as said
use Rattle.queue.specs.Machine.{Machine}
use Rattle.queue.specs.Says.{says}
use Rattle.packed.specs.Calls.{ProducerQuestion, ConsumerQuestion, ProducerCall, ConsumerCall, Own, Lent, Foreign, Call, Given}
use Rattle.packed.specs.Calls.{one_of, request_of}
use Rattle.packed.specs.Calls.{producer_num_free, producer_num_inflight, producer_is_full, producer_len, producer_desc_table}
use Rattle.packed.specs.Calls.{producer_avail_cursor, producer_used_cursor}
use Rattle.packed.specs.Calls.{consumer_num_free, consumer_num_inflight, consumer_is_full, consumer_len, consumer_avail_cursor, consumer_used_cursor}
use Rattle.packed.specs.Calls.{submit_available, submit_available_with_notify, submit_one, submit_one_with_notify, poll_used, next_id}
use Rattle.packed.specs.Calls.{producer_asked, should_notify_since, turn_used, enable_used_desc, enable_used_for_next, producer_reset}
use Rattle.packed.specs.Calls.{poll_available, submit_used, submit_used_with_notify, peek_available, poll_checkpoint, rollback_polls}
use Rattle.packed.specs.Calls.{consumer_asked, turn_avail, enable_avail_desc, enable_avail_for_next, consumer_reset}
use Rattle.packed.specs.Calls.{its, another, by_producer, by_consumer, to_producer, to_consumer, new_producer, new_consumer, own, foreign}

-- ---- what there is: each end's last record and tables, and the ring's bytes

pub record ProducerSide : Type 0 where
  pub end : RingProducer
  pub ids : List ℕ
  pub counts : List ℕ

pub record ConsumerSide : Type 0 where
  pub end : RingConsumer
  -- for each ID, the slots of the chain that it holds under it
  pub counts : List ℕ

pub record World : Type 0 where
  pub producer : ProducerSide
  pub consumer : ConsumerSide
  pub ring : List ℕ

-- ---- a ring: what each call answers, and what it leaves of all that it is lent

pub record ProducerLeaves : Type 0 where
  pub answer : Answer
  pub side : ProducerSide
  pub ring : List ℕ

-- of a poll, the two outputs too
pub record ConsumerLeaves : Type 0 where
  pub answer : Answer
  pub side : ConsumerSide
  pub ring : List ℕ
  pub addrs : List ℕ
  pub lens : List ℕ

-- of an opening: its answer, the record that it hands back (where it is accepted), and its tables
pub record ProducerOpens : Type 0 where
  pub answer : Answer
  pub side : ProducerSide

pub record ConsumerOpens : Type 0 where
  pub answer : Answer
  pub side : ConsumerSide

pub record Ring : Type 0 where
  pub producer : ProducerCall → ProducerSide → List ℕ → ProducerLeaves
  pub consumer : ConsumerCall → ConsumerSide → List ℕ → ConsumerLeaves
  -- geometry, bytes, tables
  pub producer_new : Layout → List ℕ → List ℕ → List ℕ → ProducerOpens
  pub consumer_new : Layout → List ℕ → List ℕ → ConsumerOpens

-- ---- its machine

-- a checkpoint out of its five values
abbrev pub checkpoint_in : List ℕ → Checkpoint
checkpoint_in vs =
    record { avail = at (get_or vs 0 0) (eqb (get_or vs 1 0) 1); used = at (get_or vs 2 0) (eqb (get_or vs 3 0) 1); inflight = get_or vs 4 0 }

-- the outputs that a call is lent
abbrev pub addrs_lent : ConsumerCall → List ℕ
addrs_lent (poll_available addrs lens) = addrs
addrs_lent (submit_used i l) = []
addrs_lent (submit_used_with_notify i l) = []
addrs_lent peek_available = []
addrs_lent poll_checkpoint = []
addrs_lent (rollback_polls c js) = []
addrs_lent (consumer_asked q) = []
addrs_lent (turn_avail f) = []
addrs_lent (enable_avail_desc o b) = []
addrs_lent enable_avail_for_next = []
addrs_lent consumer_reset = []

abbrev pub lens_lent : ConsumerCall → List ℕ
lens_lent (poll_available addrs lens) = lens
lens_lent (submit_used i l) = []
lens_lent (submit_used_with_notify i l) = []
lens_lent peek_available = []
lens_lent poll_checkpoint = []
lens_lent (rollback_polls c js) = []
lens_lent (consumer_asked q) = []
lens_lent (turn_avail f) = []
lens_lent (enable_avail_desc o b) = []
lens_lent enable_avail_for_next = []
lens_lent consumer_reset = []

-- what a call is given, of a thing that may be the end's own; and what the end has of it afterwards: of its own, what the call left
abbrev pub given : {A : Type 0} → Lent A → A → A
given its a = a
given (another b) a = b

abbrev pub kept : {A : Type 0} → Lent A → A → A → A
kept its before exit = exit
kept (another b) before exit = before

-- all that a call is lent: records and tables, bytes, outputs
pub record Lendings : Type 0 where
  pub world : World
  pub addrs : List ℕ
  pub lens : List ℕ

abbrev pub lendings : World → List ℕ → List ℕ → Lendings
lendings w addrs lens = record { world = w; addrs = addrs; lens = lens }

-- the two ends' own records and tables stay where they are, but for the end whose call it is
abbrev pub after_producer : World → ProducerSide → List ℕ → World
after_producer w s r = record { producer = s; consumer = w.consumer; ring = r }

abbrev pub after_consumer : World → ConsumerSide → List ℕ → World
after_consumer w s r = record { producer = w.producer; consumer = s; ring = r }

-- the world in which a foreign call is made: what it is given
abbrev pub given_in : World → Foreign → World
given_in w (to_producer l b c) =
    after_producer w
    (record { end = given l.end w.producer.end; ids = given l.ids w.producer.ids; counts = given l.counts w.producer.counts })
    (given b w.ring)
given_in w (to_consumer l b c) =
    after_consumer w (record { end = given l.end w.consumer.end; counts = given l.counts w.consumer.counts }) (given b w.ring)
given_in w (new_producer g i k b) =
    after_producer w (record { end = w.producer.end; ids = given i w.producer.ids; counts = given k w.producer.counts }) (given b w.ring)
given_in w (new_consumer g k b) =
    after_consumer w (record { end = w.consumer.end; counts = given k w.consumer.counts }) (given b w.ring)

-- the world afterwards, if the call left v where it was given `given_in w f`
abbrev pub kept_in : World → Foreign → World → World
kept_in w (to_producer l b c) v =
    after_producer w
    (record {
      end = kept l.end w.producer.end v.producer.end;
      ids = kept l.ids w.producer.ids v.producer.ids;
      counts = kept l.counts w.producer.counts v.producer.counts;
    })
    (kept b w.ring v.ring)
kept_in w (to_consumer l b c) v =
    after_consumer w
    (record { end = kept l.end w.consumer.end v.consumer.end; counts = kept l.counts w.consumer.counts v.consumer.counts })
    (kept b w.ring v.ring)
kept_in w (new_producer g i k b) v =
    after_producer w
    (record {
      end = w.producer.end;
      ids = kept i w.producer.ids v.producer.ids;
      counts = kept k w.producer.counts v.producer.counts;
    })
    (kept b w.ring v.ring)
kept_in w (new_consumer g k b) v =
    after_consumer w (record { end = w.consumer.end; counts = kept k w.consumer.counts v.consumer.counts }) (kept b w.ring v.ring)

-- "no reset": a reset of an end given its own is in a run only where it is refused
abbrev pub FairProducer : ProducerCall → ℕ → Type 0
FairProducer (submit_available c) n = Unit
FairProducer (submit_available_with_notify c) n = Unit
FairProducer (submit_one a l b) n = Unit
FairProducer (submit_one_with_notify a l b) n = Unit
FairProducer poll_used n = Unit
FairProducer next_id n = Unit
FairProducer (producer_asked q) n = Unit
FairProducer (should_notify_since c) n = Unit
FairProducer (turn_used f) n = Unit
FairProducer (enable_used_desc o b) n = Unit
FairProducer enable_used_for_next n = Unit
FairProducer producer_reset n = n ≡ 0 → ⊥

abbrev pub FairConsumer : ConsumerCall → ℕ → Type 0
FairConsumer (poll_available a l) n = Unit
FairConsumer (submit_used i l) n = Unit
FairConsumer (submit_used_with_notify i l) n = Unit
FairConsumer peek_available n = Unit
FairConsumer poll_checkpoint n = Unit
FairConsumer (rollback_polls c js) n = Unit
FairConsumer (consumer_asked q) n = Unit
FairConsumer (turn_avail f) n = Unit
FairConsumer (enable_avail_desc o b) n = Unit
FairConsumer enable_avail_for_next n = Unit
FairConsumer consumer_reset n = n ≡ 0 → ⊥

-- ---- the same of any call

-- where a call is made: for a foreign one, the world with the other things in their places
abbrev pub place_of : World → Call → World
place_of w (own c) = w
place_of w (foreign f) = given_in w f

-- the world after it, if it left v there: each end has its own as the call left it
abbrev pub kept_of : World → Call → World → World
kept_of w (own c) v = v
kept_of w (foreign f) v = kept_in w f v

-- what is fair: no reset that is accepted, and no call given what is not the end's own but one that is refused
abbrev pub FairCall : Call → ℕ → Type 0
FairCall (own (by_producer c)) n = FairProducer c n
FairCall (own (by_consumer c)) n = FairConsumer c n
FairCall (foreign f) n = T (not (eqb n 0))

-- the call with its answer; what a poll gave is read from its outputs at exit
abbrev pub says_of : ℕ → Call → Answer → List ℕ → List ℕ → Event Checkpoint
says_of size (own c) a addrs lens = says checkpoint_in (request_of size (own c)) a addrs lens
says_of size (foreign f) a addrs lens = said.unchanged (said.foreign_answered a.number)

-- all that a call is lent, in its place
abbrev pub own_entry : World → Own → Lendings
own_entry v (by_producer c) = lendings v [] []
own_entry v (by_consumer c) = lendings v (addrs_lent c) (lens_lent c)

abbrev pub call_entry : World → Call → Lendings
call_entry v (own c) = own_entry v c
call_entry v (foreign (to_producer l b c)) = own_entry v (by_producer c)
call_entry v (foreign (to_consumer l b c)) = own_entry v (by_consumer c)
call_entry v (foreign (new_producer g i k b)) = lendings v [] []
call_entry v (foreign (new_consumer g k b)) = lendings v [] []

module _ (R : Ring) where
  -- what a call answers in its place, and all that it was lent when it returns
  abbrev pub own_answer : World → Own → Answer
  own_answer v (by_producer c) = (R.producer c v.producer v.ring).answer
  own_answer v (by_consumer c) = (R.consumer c v.consumer v.ring).answer

  abbrev pub call_answer : World → Call → Answer
  call_answer v (own c) = own_answer v c
  call_answer v (foreign (to_producer l b c)) = own_answer v (by_producer c)
  call_answer v (foreign (to_consumer l b c)) = own_answer v (by_consumer c)
  call_answer v (foreign (new_producer g i k b)) = (R.producer_new g v.ring v.producer.ids v.producer.counts).answer
  call_answer v (foreign (new_consumer g k b)) = (R.consumer_new g v.ring v.consumer.counts).answer

  abbrev pub own_exit : World → Own → Lendings
  own_exit v (by_producer c) =
      let o = R.producer c v.producer v.ring in
      lendings (after_producer v o.side o.ring) [] []
  own_exit v (by_consumer c) =
      let o = R.consumer c v.consumer v.ring in
      lendings (after_consumer v o.side o.ring) o.addrs o.lens

  abbrev pub call_exit : World → Call → Lendings
  call_exit v (own c) = own_exit v c
  call_exit v (foreign (to_producer l b c)) = own_exit v (by_producer c)
  call_exit v (foreign (to_consumer l b c)) = own_exit v (by_consumer c)
  call_exit v (foreign (new_producer g i k b)) =
      let o = R.producer_new g v.ring v.producer.ids v.producer.counts in
      lendings (after_producer v (record { end = v.producer.end; ids = o.side.ids; counts = o.side.counts }) v.ring) [] []
  call_exit v (foreign (new_consumer g k b)) =
      let o = R.consumer_new g v.ring v.consumer.counts in
      lendings (after_consumer v (record { end = v.consumer.end; counts = o.side.counts }) v.ring) [] []

  -- the world after a call, and the call with its answer
  unfoldable pub leaves : World → Call → World
  leaves w c = kept_of w c (call_exit (place_of w c) c).world

  unfoldable pub call_says : ℕ → World → Call → Event Checkpoint
  call_says size w c = says_of size c (call_answer (place_of w c) c) (call_exit (place_of w c) c).addrs (call_exit (place_of w c) c).lens

  -- a ring of so many slots as a machine
  abbrev pub machine_of : ℕ → Machine Checkpoint
  machine_of size =
      record {
        World = World;
        Call = Given;
        request = λ c. request_of size c.call;
        Fair = λ w c. FairCall c.call (call_answer (place_of w c.call) c.call).number;
        say = λ w c. call_says size w c.call;
        go = λ w c. leaves w c.call;
        Lent = Lendings;
        entry = λ w c. call_entry (place_of w c.call) c.call;
        exit = λ w c. call_exit (place_of w c.call) c.call;
      }

-- ---- the packed ring: each call is the definition that its contract cites

-- the answers of the questions; what they count is no part of demand 3
abbrev pub producer_values : ProducerQuestion → RingProducer → List ℕ
producer_values producer_num_free p = p.free ∷ []
producer_values producer_num_inflight p = (p.layout.size - p.free) ∷ []
producer_values producer_is_full p = bit (eqb p.free 0) ∷ []
producer_values producer_len p = p.layout.size ∷ []
producer_values producer_desc_table p = p.layout.table ∷ p.layout.size ∷ []
producer_values producer_avail_cursor p = values_of p.avail
producer_values producer_used_cursor p = values_of p.used

abbrev pub consumer_values : ConsumerQuestion → RingConsumer → List ℕ
consumer_values consumer_num_free p = (p.layout.size - p.inflight) ∷ []
consumer_values consumer_num_inflight p = p.inflight ∷ []
consumer_values consumer_is_full p = bit (eqb p.inflight p.layout.size) ∷ []
consumer_values consumer_len p = p.layout.size ∷ []
consumer_values consumer_avail_cursor p = values_of p.avail
consumer_values consumer_used_cursor p = values_of p.used

abbrev pub producer_answers : RingProducer → ProducerQuestion → Answer
producer_answers p q = ask_of (made_record.bad_record p) (producer_values q p)

abbrev pub consumer_answers : RingConsumer → ConsumerQuestion → Answer
consumer_answers p q = ask_of (taken_record.bad_record p) (consumer_values q p)

-- what a call of the producer leaves: all of it; record and bytes; nothing changed
abbrev pub made_all : made.Outcome → ProducerLeaves
made_all o = record { answer = o.answer; side = record { end = o.end; ids = o.ids; counts = o.counts }; ring = o.ring }

abbrev pub made_changed : ProducerSide → made.Changed → ProducerLeaves
made_changed s o = record { answer = o.answer; side = record { end = o.end; ids = s.ids; counts = s.counts }; ring = o.ring }

abbrev pub made_answer : ProducerSide → List ℕ → Answer → ProducerLeaves
made_answer s r a = record { answer = a; side = s; ring = r }

-- a submission of a chain, and one with notify; poll_used
abbrev pub submits_of : ProducerSide → List ℕ → Chain → made.Outcome
submits_of s r c = submit_of s.end r s.ids s.counts c.addrs c.lens c.readable

abbrev pub tells_of : ProducerSide → List ℕ → Chain → made.Outcome
tells_of s r c = made_told.tell_of s.end.avail (submits_of s r c)

abbrev pub reclaims_of : ProducerSide → List ℕ → made.Outcome
reclaims_of s r = used_poll.poll_of s.end r s.ids s.counts

unfoldable pub producer_does : ProducerCall → ProducerSide → List ℕ → ProducerLeaves
producer_does (submit_available c) s r = made_all (submits_of s r c)
producer_does (submit_available_with_notify c) s r = made_all (tells_of s r c)
producer_does (submit_one a l b) s r = made_all (submits_of s r (one_of a l b))
producer_does (submit_one_with_notify a l b) s r = made_all (tells_of s r (one_of a l b))
producer_does poll_used s r = made_all (reclaims_of s r)
producer_does next_id s r = made_answer s r (used_poll.next_of s.end s.ids s.counts)
producer_does (producer_asked q) s r = made_answer s r (producer_answers s.end q)
producer_does (should_notify_since c) s r = made_answer s r (used_notices.since_of s.end r c)
producer_does (turn_used f) s r = made_changed s (used_notices.turn_of s.end r f)
producer_does (enable_used_desc o b) s r = made_changed s (used_notices.arm_of s.end r o b)
producer_does enable_used_for_next s r = made_changed s (used_notices.arm_of s.end r s.end.used.head s.end.used.wrap)
producer_does producer_reset s r = made_all (made_fresh.reset_of s.end r s.ids s.counts)

-- what a call of the consumer leaves: a poll no byte changed, its outputs written; a completion; a rollback; record and bytes; nothing changed
abbrev pub taken_chain : List ℕ → Taken → ConsumerLeaves
taken_chain r t = record { answer = t.answer; side = record { end = t.end; counts = t.counts }; ring = r; addrs = t.addrs; lens = t.lens }

abbrev pub taken_all : taken.Outcome → ConsumerLeaves
taken_all o = record { answer = o.answer; side = record { end = o.end; counts = o.counts }; ring = o.ring; addrs = []; lens = [] }

abbrev pub taken_back : List ℕ → taken.Rolled → ConsumerLeaves
taken_back r o = record { answer = o.answer; side = record { end = o.end; counts = o.counts }; ring = r; addrs = []; lens = [] }

abbrev pub taken_changed : ConsumerSide → taken.Changed → ConsumerLeaves
taken_changed s o = record { answer = o.answer; side = record { end = o.end; counts = s.counts }; ring = o.ring; addrs = []; lens = [] }

abbrev pub taken_answer : ConsumerSide → List ℕ → Answer → ConsumerLeaves
taken_answer s r a = record { answer = a; side = s; ring = r; addrs = []; lens = [] }

-- a poll; a completion, and one with notify; a rollback
abbrev pub polls_of : ConsumerSide → List ℕ → List ℕ → List ℕ → Taken
polls_of s r addrs lens = poll_of s.end r s.counts addrs lens

abbrev pub completes_of : ConsumerSide → List ℕ → ℕ → ℕ → taken.Outcome
completes_of s r id len = complete_of s.end r s.counts id len

abbrev pub completes_told : ConsumerSide → List ℕ → ℕ → ℕ → taken.Outcome
completes_told s r id len = tell_of s.end.used (completes_of s r id len)

abbrev pub rolls_of : ConsumerSide → Checkpoint → List ℕ → taken.Rolled
rolls_of s c js = rollback_of s.end s.counts c js

unfoldable pub consumer_does : ConsumerCall → ConsumerSide → List ℕ → ConsumerLeaves
consumer_does (poll_available addrs lens) s r = taken_chain r (polls_of s r addrs lens)
consumer_does (submit_used i l) s r = taken_all (completes_of s r i l)
consumer_does (submit_used_with_notify i l) s r = taken_all (completes_told s r i l)
consumer_does peek_available s r = taken_answer s r (peek_of s.end r)
consumer_does poll_checkpoint s r = taken_answer s r (ask_of (taken_record.bad_record s.end) (checkpoint_values (checkpoint_of s.end)))
consumer_does (rollback_polls c js) s r = taken_back r (rolls_of s c js)
consumer_does (consumer_asked q) s r = taken_answer s r (consumer_answers s.end q)
consumer_does (turn_avail f) s r = taken_changed s (avail_notices.turn_of s.end r f)
consumer_does (enable_avail_desc o b) s r = taken_changed s (avail_notices.arm_of s.end r o b)
consumer_does enable_avail_for_next s r = taken_changed s (avail_notices.arm_of s.end r s.end.avail.head s.end.avail.wrap)
consumer_does consumer_reset s r = taken_all (taken_fresh.reset_of s.end r s.counts)

-- the openings: an accepted one answers the fresh record of its geometry
abbrev pub producer_opens_of : Layout → List ℕ → List ℕ → List ℕ → made_fresh.Open
producer_opens_of g r i k = made_fresh.open_of g.size g.table g.driver g.device r i k

abbrev pub consumer_opens_of : Layout → List ℕ → List ℕ → taken_fresh.Open
consumer_opens_of g r k = taken_fresh.open_of g.size g.table g.driver g.device r k

abbrev pub packed : Ring
packed =
    record {
      producer = producer_does;
      consumer = consumer_does;
      producer_new = λ g r i k.
          let o = producer_opens_of g r i k in
          record { answer = o.answer; side = record { end = made_fresh.fresh_of g; ids = o.ids; counts = o.counts } };
      consumer_new = λ g r k.
          let o = consumer_opens_of g r k in
          record { answer = o.answer; side = record { end = taken_fresh.fresh_of g; counts = o.counts } };
    }
