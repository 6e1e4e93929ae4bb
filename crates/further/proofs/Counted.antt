-- What both ends answer of their counts, at any point of a run: the slots of the chains that are out, and of the polls that stand and are not
-- completed.
-- Assumes nothing.
use Prim.Native.Nat.{ℕ, ◌+◌, ◌-◌}
use mathlib.Core.Path.{◌≡◌, sym, ap, ◌∙◌}
use mathlib.Core.List.{List, [], ◌∷◌}
use native.Mathlib.Omega.{arith}
use lib.Dec.{eqb}
use lib.ListN.{length, get_or, drop}
use borrow.Author.Tests.{eq-eqb, ne_eqb}
use Rattle.base.specs.Answer.{Answer, done, bit}
use Rattle.base.proofs.Tests.{by_eq}
use Rattle.layout.specs.declared.Layout.{Layout}
use Rattle.ring.proofs.Asked.{ask_good}
use Rattle.producer.specs.Record as made
use Rattle.consumer.specs.Record as takes
use Rattle.consumer.specs.declared.Checkpoint.{Checkpoint}
use Rattle.queue.specs.History.{Item, Done, History, Poll, slots_of, slots_in, items, pubs, reclaims, held, out, reclaimed}
use Rattle.queue.specs.Sentences.{At, ItsOwn}
use Rattle.queue.proofs.Model.{model}
use Rattle.queue.proofs.Trace.{Link, link, allowed}
use Rattle.queue.proofs.Machine.{history_drop}
use Rattle.queue.proofs.Promises.{frees_its_own}
use Rattle.packed.specs.Calls.{ProducerQuestion, producer_num_free, producer_num_inflight, producer_is_full, producer_len}
use Rattle.packed.specs.Calls.{ConsumerQuestion, consumer_num_free, consumer_num_inflight, consumer_is_full, consumer_len}
use Rattle.packed.specs.Machine.{World, packed, producer_values, consumer_values, producer_answers, consumer_answers}
use Rattle.packed.specs.Opening.{opened_world, machine, rules, Run, history_in, world_in}
use Rattle.packed.proofs.Counts.{tot, of_items, both_tot, slots_tot}
use Rattle.packed.proofs.Invariant.{p_sound, c_sound, free_in}
use Rattle.packed.proofs.First.{laid_out}
use Rattle.packed.proofs.Packed.{demand_3, like_queue, begun}

-- of two parts of a sum, one is nothing exactly if the other is all
none_left : (a b n : ℕ) → a + b ≡ n → eqb a 0 ≡ eqb b n
none_left a b n e =
    by_eq a 0
    (λ z. eq-eqb a 0 z ∙ sym (eq-eqb b n (omega (arith, e, z))))
    (λ z. ne_eqb a 0 z ∙ sym (ne_eqb b n (λ y. z (omega (arith, e, y)))))

module _ (r : Run packed) where
  abbrev l : Layout
  l = r.opening.geometry

  abbrev size : ℕ
  size = l.size

  abbrev w : World
  w = world_in packed r

  abbrev h : History Checkpoint
  h = history_in packed r

  -- the slots that are out, and those that the consumer holds
  abbrev out_slots : ℕ
  out_slots = slots_in (out h)

  abbrev held_slots : ℕ
  held_slots = slots_in (items (held h))

  linked : Link h (model h)
  linked = link (rules packed r.opening) h (allowed (rules packed r.opening) h (demand_3 r).answers)

  free_is : w.producer.end.free + out_slots ≡ size
  free_is =
      let m = like_queue r in
      omega (arith, free_in l (laid_out r.opening) m.0 w (model h) m.1, ap slots_in linked.out_is)

  inflight_is : w.consumer.end.inflight ≡ held_slots
  inflight_is =
      let q = model h in
      omega (
        arith,
        (like_queue r).1.inflight,
        both_tot q.old q.fresh,
        slots_tot (items (held h)),
        ap (λ (l : List Poll). tot (of_items (items l))) linked.held_is,
      )

  -- every question is answered
  producer_answers_lem : (q : ProducerQuestion) → producer_answers w.producer.end q ≡ done (producer_values q w.producer.end)
  producer_answers_lem q =
      let m = like_queue r in
      ask_good (made.bad_record w.producer.end) (producer_values q w.producer.end)
      (p_sound l (laid_out r.opening) m.0 w (model h) m.1)

  consumer_answers_lem : (q : ConsumerQuestion) → consumer_answers w.consumer.end q ≡ done (consumer_values q w.consumer.end)
  consumer_answers_lem q =
      let m = like_queue r in
      ask_good (takes.bad_record w.consumer.end) (consumer_values q w.consumer.end)
      (c_sound l (laid_out r.opening) m.0 w (model h) m.1)

  p_size : w.producer.end.layout.size ≡ size
  p_size = ap (λ (l : Layout). l.size) (like_queue r).1.p_layout

  c_size : w.consumer.end.layout.size ≡ size
  c_size = ap (λ (l : Layout). l.size) (like_queue r).1.c_layout

  one : (a b : ℕ) → a ≡ b → done (a ∷ []) ≡ done (b ∷ [])
  one a b e = ap (λ (n : ℕ). done (n ∷ [])) e

  -- the producer's free slots are those of no chain that is out; in flight are those of the chains that are; full if these are all
  pub producer_num_free_lem : producer_answers w.producer.end producer_num_free ≡ done ((size - out_slots) ∷ [])
  producer_num_free_lem = producer_answers_lem producer_num_free ∙ one _ _ (omega (arith, free_is))

  pub producer_num_inflight_lem : producer_answers w.producer.end producer_num_inflight ≡ done (out_slots ∷ [])
  producer_num_inflight_lem = producer_answers_lem producer_num_inflight ∙ one _ _ (omega (arith, free_is, p_size))

  pub producer_is_full_lem : producer_answers w.producer.end producer_is_full ≡ done (bit (eqb out_slots size) ∷ [])
  producer_is_full_lem = producer_answers_lem producer_is_full ∙ one _ _ (ap bit (none_left w.producer.end.free out_slots size free_is))

  pub producer_len_lem : producer_answers w.producer.end producer_len ≡ done (size ∷ [])
  producer_len_lem = producer_answers_lem producer_len ∙ one _ _ p_size

  -- the consumer's slots in flight are those of the polls that stand and are not completed; free are the others; full if these are all
  pub consumer_num_inflight_lem : consumer_answers w.consumer.end consumer_num_inflight ≡ done (held_slots ∷ [])
  consumer_num_inflight_lem = consumer_answers_lem consumer_num_inflight ∙ one _ _ inflight_is

  pub consumer_num_free_lem : consumer_answers w.consumer.end consumer_num_free ≡ done ((size - held_slots) ∷ [])
  consumer_num_free_lem = consumer_answers_lem consumer_num_free ∙ one _ _ (omega (arith, inflight_is, c_size))

  pub consumer_is_full_lem : consumer_answers w.consumer.end consumer_is_full ≡ done (bit (eqb held_slots size) ∷ [])
  consumer_is_full_lem =
      consumer_answers_lem consumer_is_full
      ∙ one _ _ (ap bit (ap (λ (n : ℕ). eqb n w.consumer.end.layout.size) inflight_is ∙ ap (eqb held_slots) c_size))

  pub consumer_len_lem : consumer_answers w.consumer.end consumer_len ≡ done (size ∷ [])
  consumer_len_lem = consumer_answers_lem consumer_len ∙ one _ _ c_size

-- a completion that comes back frees exactly its chain's slots, in num_free's answers: where it answered n before, it answers after it n and
-- the slots of the chain that was submitted
pub num_free_grows :
    (r : Run packed) (h : History Checkpoint) (d : Done) → history_in packed r ≡ reclaimed d ∷ h
    → (p : ℕ) → ItsOwn (reclaimed d ∷ h) (length (reclaims h)) p → (x : Item) → At (pubs h) p x
    → (n : ℕ) → producer_answers (world_in packed (begun 1 r)).producer.end producer_num_free ≡ done (n ∷ [])
    → producer_answers (world_in packed r).producer.end producer_num_free ≡ done ((n + slots_of x.chain) ∷ [])
num_free_grows r h d s p o x a n z =
    let M = machine packed r.opening in
    let R = rules packed r.opening in
    let b : history_in packed (begun 1 r) ≡ h = history_drop M R (opened_world packed r.opening) 1 r.calls ∙ ap (drop 1) s in
    let f : (world_in packed (begun 1 r)).producer.end.free ≡ n = ap (λ (v : Answer). get_or v.values 0 0) (sym (producer_answers_lem (begun 1 r) producer_num_free) ∙ z) in
    let c : slots_in (out (history_in packed (begun 1 r))) ≡ slots_in (out h) = ap (λ (t : History Checkpoint). slots_in (out t)) b in
    let e : slots_in (out (history_in packed r)) ≡ slots_in (out (reclaimed d ∷ h)) = ap (λ (t : History Checkpoint). slots_in (out t)) s in
    let g = frees_its_own M R (opened_world packed r.opening) r.calls (demand_3 r) d [] h s p o x a in
    producer_answers_lem r producer_num_free ∙ one r _ _ (omega (arith, free_is r, free_is (begun 1 r), c, e, f, g))
