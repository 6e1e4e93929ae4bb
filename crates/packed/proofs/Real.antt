-- DEMAND 3 of the functions: calls of the public functions of both ends, each only known to meet its GENERATED contract, are calls of the packed ring's
-- machine, with the same answers, records, tables, outputs and bytes; so they keep demand 3.
-- Assumes nothing.
use Prim.Native.Nat.{ℕ}
use mathlib.Core.Path.{◌≡◌, refl, sym, ap, ◌∙◌, subst}
use mathlib.Core.Bool.{false}
use mathlib.Core.List.{List, [], ◌∷◌}
use lib.Dec.{T}
use Rattle.std.specs.Prelude.{Result, Ok}
use Rattle.base.specs.declared.RingError.{RingError}
use Rattle.base.specs.Answer.{Answer}
use Rattle.layout.specs.declared.Layout.{Layout}
use Rattle.layout.specs.Layout.{bad_layout}
use Rattle.producer.specs.declared.RingProducer.{RingProducer}
use Rattle.producer.specs.Fresh as made_fresh
use Rattle.producer.proofs.Same as made_same
use Rattle.consumer.specs.declared.Checkpoint.{Checkpoint}
use Rattle.consumer.specs.declared.RingConsumer.{RingConsumer}
use Rattle.consumer.specs.Fresh as taken_fresh
use Rattle.consumer.proofs.Same as taken_same
use Rattle.queue.specs.History.{Event, History}
use Rattle.queue.specs.Promise.{plain, for_handed, Each, MayFollow}
use Rattle.queue.specs.Machine.{world_of, history_of, FairCalls, number_of, OfKind}
use Rattle.queue.specs.Demand.{Premise}
use Rattle.queue.proofs.Model.{model, start, AllOk}
use Rattle.queue.proofs.Machine.{Matches, demanded}
use Rattle.packed.specs.Meets.{third, fourth}
use Rattle.packed.specs.Calls.{Call, Given, request_of}
use Rattle.packed.specs.Machine.{World, ProducerLeaves, ConsumerLeaves, packed, lendings, place_of, kept_of, FairCall, says_of}
use Rattle.packed.specs.Machine.{after_producer, after_consumer, call_answer, call_entry, call_exit, call_says, leaves, machine_of}
use Rattle.packed.specs.Opening.{Opening, opened_world}
use Rattle.packed.specs.Real.{producer_geometry, producer_finds, consumer_finds, RealCall, as_call}
use Rattle.packed.specs.Real.{producers, consumers, to_another_producer, to_another_consumer, opens_producer, opens_consumer}
use Rattle.packed.specs.Real.{enters_in, real_answer, exits_in, addrs_in, lens_in, addrs_out, lens_out, FairReal, real_machine}
use Rattle.packed.specs.Real.{RealOpening, opened_size, real_opened, RealRun, RealDemand, as_calls, calls_in, AnswersAgree, IsRun}
use Rattle.packed.proofs.Invariant.{Match, GoodAfter}
use Rattle.packed.proofs.First.{laid_out, first_like, made_answer, taken_answer}
use Rattle.packed.proofs.Packed.{call_good, call_kind, call_kept, call_unharmed}
use Rattle.packed.proofs.Tied.{producer_tied, consumer_tied}

-- ---- the machine, given what a real call was lent, answers and leaves what the real call did

as_answer : (v : World) (c : RealCall) → call_answer packed (enters_in v c) (as_call c) ≡ real_answer c
as_answer v (producers x) = ap (λ (o : ProducerLeaves). o.answer) (producer_tied v.producer v.ring x)
as_answer v (consumers x) = ap (λ (o : ConsumerLeaves). o.answer) (consumer_tied v.consumer v.ring x)
as_answer v (to_another_producer l b x) = ap (λ (o : ProducerLeaves). o.answer) (producer_tied v.producer v.ring x)
as_answer v (to_another_consumer l b x) = ap (λ (o : ConsumerLeaves). o.answer) (consumer_tied v.consumer v.ring x)
as_answer v (opens_producer i k b m) = ap (λ (o : made_fresh.Open). o.answer) (sym m.meets)
as_answer v (opens_consumer k b m) = ap (λ (o : taken_fresh.Open). o.answer) (sym m.meets)

as_exit : (v : World) (c : RealCall) → call_exit packed (enters_in v c) (as_call c) ≡ lendings (exits_in v c) (addrs_out c) (lens_out c)
as_exit v (producers x) = ap (λ (o : ProducerLeaves). lendings (after_producer v o.side o.ring) [] []) (producer_tied v.producer v.ring x)
as_exit v (consumers x) =
    ap (λ (o : ConsumerLeaves). lendings (after_consumer v o.side o.ring) o.addrs o.lens) (consumer_tied v.consumer v.ring x)
as_exit v (to_another_producer l b x) =
    ap (λ (o : ProducerLeaves). lendings (after_producer v o.side o.ring) [] []) (producer_tied v.producer v.ring x)
as_exit v (to_another_consumer l b x) =
    ap (λ (o : ConsumerLeaves). lendings (after_consumer v o.side o.ring) o.addrs o.lens) (consumer_tied v.consumer v.ring x)
as_exit v (opens_producer i k b m) =
    ap (λ (o : made_fresh.Open). lendings (after_producer v (record { end = v.producer.end; ids = o.ids; counts = o.counts }) (producer_finds m)) [] [])
    (sym m.meets)
as_exit v (opens_consumer k b m) =
    ap (λ (o : taken_fresh.Open). lendings (after_consumer v (record { end = v.consumer.end; counts = o.counts }) (consumer_finds m)) [] [])
    (sym m.meets)

as_entry : (v : World) (c : RealCall) → call_entry (enters_in v c) (as_call c) ≡ lendings (enters_in v c) (addrs_in c) (lens_in c)
as_entry v (producers x) = refl
as_entry v (consumers x) = refl
as_entry v (to_another_producer l b x) = refl
as_entry v (to_another_consumer l b x) = refl
as_entry v (opens_producer i k b m) = refl
as_entry v (opens_consumer k b m) = refl

module _ (w : World) (c : RealCall) (own_given : enters_in (place_of w (as_call c)) c ≡ place_of w (as_call c)) where
  abbrev place : World
  place = place_of w (as_call c)

  -- where it was lent what is in its place: the whole answer, and all that it was lent at exit
  pub same_answer : call_answer packed place (as_call c) ≡ real_answer c
  same_answer = ap (λ (v : World). call_answer packed v (as_call c)) (sym own_given) ∙ as_answer place c

  pub same_exit : call_exit packed place (as_call c) ≡ lendings (exits_in place c) (addrs_out c) (lens_out c)
  same_exit = ap (λ (v : World). call_exit packed v (as_call c)) (sym own_given) ∙ as_exit place c

  same_entry : call_entry place (as_call c) ≡ lendings (enters_in place c) (addrs_in c) (lens_in c)
  same_entry = ap (λ (v : World). call_entry v (as_call c)) (sym own_given) ∙ as_entry place c

  pub same_says : (size : ℕ) → call_says packed size w (as_call c) ≡ (real_machine size).say w c
  unfolding call_says
  same_says size = λ i. says_of size (as_call c) (same_answer i) (same_exit i).addrs (same_exit i).lens

  pub same_leaves : (size : ℕ) → leaves packed w (as_call c) ≡ (real_machine size).go w c
  unfolding leaves
  same_leaves size = λ i. kept_of w (as_call c) (same_exit i).world

-- ---- the two `new`

-- two openings of real functions are an opening of the machine
abbrev pub opening_of : RealOpening → Opening packed
opening_of o =
    record {
      geometry = producer_geometry o.producer_new;
      ring = o.ring;
      zeroed = o.zeroed;
      ids = (third o.producer_new.entry).now;
      counts = (fourth o.producer_new.entry).now;
      held_counts = (third o.consumer_new.entry).now;
      producer_finds = producer_finds o.producer_new;
      consumer_finds = consumer_finds o.consumer_new;
      producer_length = o.producer_length;
      consumer_length = o.consumer_length;
      producer =
          ap (λ (x : made_fresh.Open). x.answer.number) (sym o.producer_new.meets)
          ∙ ap (λ (x : Result RingProducer RingError). (made_fresh.opened_answer x).number) o.producer_opened;
      consumer =
          ap (λ (g : Layout). (packed.consumer_new g (consumer_finds o.consumer_new) (third o.consumer_new.entry).now).answer.number) (sym o.one_geometry)
          ∙ ap (λ (x : taken_fresh.Open). x.answer.number) (sym o.consumer_new.meets)
          ∙ ap (λ (x : Result RingConsumer RingError). (taken_fresh.opened_answer x).number) o.consumer_opened;
    }

module _ (o : RealOpening) where
  producer_is : made_fresh.fresh_of (producer_geometry o.producer_new) ≡ o.producer
  producer_is =
      let e : o.producer_new.result ≡ Ok (made_fresh.fresh_of (producer_geometry o.producer_new)) =
      made_same.opened_same o.producer_new.result (Ok (made_fresh.fresh_of (producer_geometry o.producer_new)))
      (ap (λ (x : made_fresh.Open). x.answer) o.producer_new.meets ∙ made_answer (opening_of o)) in
      cc (e, o.producer_opened)

  consumer_is : taken_fresh.fresh_of (producer_geometry o.producer_new) ≡ o.consumer
  consumer_is =
      let e : o.consumer_new.result ≡ Ok (taken_fresh.fresh_of (producer_geometry o.producer_new)) =
      taken_same.opened_same o.consumer_new.result (Ok (taken_fresh.fresh_of (producer_geometry o.producer_new)))
      (ap (λ (x : taken_fresh.Open). x.answer) o.consumer_new.meets
      ∙ ap (λ (g : Layout). (packed.consumer_new g (consumer_finds o.consumer_new) (third o.consumer_new.entry).now).answer) o.one_geometry
      ∙ taken_answer (opening_of o)) in
      cc (e, o.consumer_opened)

  held_is : (packed.consumer_new (producer_geometry o.producer_new) (consumer_finds o.consumer_new) (third o.consumer_new.entry).now).side.counts
      ≡ (third o.consumer_new.exit).now
  held_is =
      ap (λ (g : Layout). (packed.consumer_new g (consumer_finds o.consumer_new) (third o.consumer_new.entry).now).side.counts) (sym o.one_geometry)
      ∙ ap (λ (x : taken_fresh.Open). x.counts) (sym o.consumer_new.meets)

  tables_are : (packed.producer_new (producer_geometry o.producer_new) (producer_finds o.producer_new) (third o.producer_new.entry).now
      (fourth o.producer_new.entry).now).side
      ≡ record { end = o.producer; ids = (third o.producer_new.exit).now; counts = (fourth o.producer_new.exit).now }
  tables_are =
      let m = sym o.producer_new.meets in
      λ i. record { end = producer_is i; ids = (m i).ids; counts = (m i).counts }

  -- the world after them
  pub same_opened : opened_world packed (opening_of o) ≡ real_opened o
  same_opened =
      λ i.
      record {
        producer = tables_are i;
        consumer = record { end = consumer_is i; counts = held_is i };
        ring = o.ring;
      }

-- ---- demand 3 of real calls

module _ (o : RealOpening) where
  abbrev size : ℕ
  size = opened_size o

  abbrev l : Layout
  l = producer_geometry o.producer_new

  good : bad_layout l ≡ false
  good = laid_out (opening_of o)

  module _ (w : World) (c : RealCall) (f : FairReal w c) where
    fair_too : FairCall (as_call c) (call_answer packed (place_of w (as_call c)) (as_call c)).number
    fair_too = subst (λ (a : Answer). FairCall (as_call c) a.number) (sym (same_answer w c f.own_given)) f.answered

    real_good :
        (h : History Checkpoint) → AllOk (plain size) h → Match l w (model h) → MayFollow (plain size) h ((real_machine size).say w c)
        → GoodAfter l h (model h) ((real_machine size).say w c) ((real_machine size).go w c)
    real_good h ok m p =
        let e = same_says w c f.own_given size in
        subst (λ (v : World). GoodAfter l h (model h) ((real_machine size).say w c) v) (same_leaves w c f.own_given size)
        (subst (λ (x : Event Checkpoint). GoodAfter l h (model h) x (leaves packed w (as_call c))) e
        (call_good l good h ok w (as_call c) f.typed m fair_too (subst (MayFollow (plain size) h) (sym e) p)))

    real_kept : T (for_handed (number_of ((real_machine size).say w c))) → (real_machine size).exit w c ≡ (real_machine size).entry w c
    real_kept t =
        sym (same_exit w c f.own_given)
        ∙ call_kept size w (as_call c) (subst (λ (x : Event Checkpoint). T (for_handed (number_of x))) (sym (same_says w c f.own_given size)) t)
        ∙ same_entry w c f.own_given

  real_matches : Matches (real_machine size) (plain size) (real_opened o)
  real_matches =
      record {
        Like = Match l;
        first = subst (λ (v : World). Match l v start) (same_opened o) ([], first_like (opening_of o));
        step = λ h ok w c m f p. real_good w c f h ok m p;
        kind = λ w q c m f. subst (OfKind (request_of size (as_call c))) (same_says w c f.own_given size) (call_kind l good w q (as_call c) m);
        unharmed = λ w c f k n. sym (same_leaves w c f.own_given size) ∙ call_unharmed size w (as_call c) (fair_too w c f) k;
        keeps = λ w c f t. real_kept w c f t;
      }

-- Every run of real calls keeps demand 3
pub real_demand_3 : RealDemand
real_demand_3 r =
    demanded (real_machine (opened_size r.opening)) (plain (opened_size r.opening)) (real_opened r.opening) (real_matches r.opening) r.calls r.premise

-- ---- and it is a run of the machine

module _ (o : RealOpening) where
  abbrev n : ℕ
  n = opened_size o

  abbrev first_world : World
  first_world = real_opened o

  -- the same calls
  given_calls : (cs : List RealCall) → FairCalls (real_machine n) first_world cs → List Given
  given_calls [] f = []
  given_calls (c ∷ cs) f = record { call = as_call c; typed = f.1.typed } ∷ given_calls cs f.0

  same_world : (cs : List RealCall) (f : FairCalls (real_machine n) first_world cs)
      → world_of (machine_of packed n) first_world (given_calls cs f) ≡ world_of (real_machine n) first_world cs
  unfolding world_of given_calls
  same_world [] f = refl
  same_world (c ∷ cs) f =
      ap (λ (v : World). leaves packed v (as_call c)) (same_world cs f.0)
      ∙ same_leaves (world_of (real_machine n) first_world cs) c f.1.own_given n

  same_history : (cs : List RealCall) (f : FairCalls (real_machine n) first_world cs)
      → history_of (machine_of packed n) first_world (given_calls cs f) ≡ history_of (real_machine n) first_world cs
  unfolding history_of given_calls
  same_history [] f = refl
  same_history (c ∷ cs) f =
      let v = world_of (real_machine n) first_world cs in
      ap (λ (x : World). call_says packed n x (as_call c) ∷ history_of (machine_of packed n) first_world (given_calls cs f.0)) (same_world cs f.0)
      ∙ (λ i. same_says v c f.1.own_given n i ∷ same_history cs f.0 i)

  fair_calls : (cs : List RealCall) (f : FairCalls (real_machine n) first_world cs) → FairCalls (machine_of packed n) first_world (given_calls cs f)
  unfolding given_calls
  fair_calls [] f = tt
  fair_calls (c ∷ cs) f = (
    fair_calls cs f.0,
    subst (λ (v : World). FairCall (as_call c) (call_answer packed (place_of v (as_call c)) (as_call c)).number) (sym (same_world cs f.0))
        (fair_too o (world_of (real_machine n) first_world cs) c f.1),
  )

given_are : (o : RealOpening) (cs : List RealCall) (f : FairCalls (real_machine (opened_size o)) (real_opened o) cs) → calls_in (given_calls o cs f) ≡ as_calls cs
unfolding given_calls
given_are o [] f = refl
given_are o (c ∷ cs) f = ap (λ (t : List Call). as_call c ∷ t) (given_are o cs f.0)

answers_agree : (n : ℕ) (w : World) (cs : List RealCall) → FairCalls (real_machine n) w cs → AnswersAgree n w cs
answers_agree n w [] f = tt
answers_agree n w (c ∷ cs) f = (answers_agree n w cs f.0, same_answer (world_of (real_machine n) w cs) c f.1.own_given)

-- Every run of real calls is a run of the machine
pub real_is_run : (r : RealRun) → IsRun r
real_is_run r =
    let o = r.opening in
    let m = machine_of packed (opened_size o) in
    let f = r.premise.fair in
    let cs = given_calls o r.calls f in
    let e : opened_world packed (opening_of o) ≡ real_opened o = same_opened o in
    let p : Premise m (plain (opened_size o)) (real_opened o) cs =
    record { fair = fair_calls o r.calls f; rollbacks = subst (Each (MayFollow (plain (opened_size o)))) (sym (same_history o r.calls f)) r.premise.rollbacks } in
    record {
      run =
          record {
            opening = opening_of o;
            calls = cs;
            premise = subst (λ (w : World). Premise m (plain (opened_size o)) w cs) (sym e) p;
          };
      opened = e;
      calls = given_are o r.calls f;
      answers = answers_agree (opened_size o) (real_opened o) r.calls f;
      history = ap (λ (w : World). history_of m w cs) e ∙ same_history o r.calls f;
      world = ap (λ (w : World). world_of m w cs) e ∙ same_world o r.calls f;
    }
