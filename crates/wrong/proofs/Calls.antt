-- What the wrong rings share: the calls upon a ring of two slots, zeroed, and how a computed history refutes the demand.
-- Assumes nothing.
use Prim.Native.Nat.{ℕ}
use mathlib.Core.Path.{◌≡◌, refl, sym, subst}
use mathlib.Core.List.{List, [], ◌∷◌}
use mathlib.Core.Bool.{Bool, true, false, ◌&&◌}
use lib.Dec.{T}
use Rattle.consumer.specs.declared.Checkpoint.{Checkpoint}
use Rattle.queue.specs.History.{Chain, Event, History}
use Rattle.queue.specs.Promise.{plain, Each, MayFollow, Right}
use Rattle.queue.specs.Machine.{history_of, FairCalls}
use Rattle.packed.specs.Calls.{Call, Given, one_of}
use Rattle.packed.specs.Calls.{submit_available, submit_available_with_notify, submit_one, submit_one_with_notify, poll_used, next_id}
use Rattle.packed.specs.Calls.{producer_asked, should_notify_since, turn_used, enable_used_desc, enable_used_for_next, producer_reset}
use Rattle.packed.specs.Calls.{poll_available, submit_used, submit_used_with_notify, peek_available, poll_checkpoint, rollback_polls}
use Rattle.packed.specs.Calls.{consumer_asked, turn_avail, enable_avail_desc, enable_avail_for_next, consumer_reset, by_producer, by_consumer, own, foreign}
use Rattle.packed.specs.Machine.{World, Ring, FairCall, packed, machine_of}
use Rattle.packed.specs.Opening.{Opening, opened_world, machine, rules, Demand}
use Rattle.packed.proofs.Packed.{demand_3}
use Rattle.history.proofs.Computing as real_calls
use Rattle.history.proofs.Ends.{Accepted, over_zeros, two_accepted, nothing_asked, none_rolled, makes, takes, chain, submits, completes, polls_for}

-- ---- the chains: two of one element, and one that has both elements and fills the ring, the second of them writable

abbrev pub a : Chain
a = one_of 4096 16 false

abbrev pub b : Chain
b = one_of 8192 32 false

abbrev pub both : Chain
both = chain (4096 ∷ 8192 ∷ []) (16 ∷ 32 ∷ []) 1

-- ---- the calls

abbrev pub submit_a : Given
submit_a = submits a refl refl

abbrev pub submit_b : Given
submit_b = submits b refl refl

abbrev pub submit_both : Given
submit_both = submits both refl refl

-- with outputs of ring-size entries
abbrev pub poll : Given
poll = polls_for 2

-- a completion of ID 1, the first that is given, with length 5
abbrev pub complete_1 : Given
complete_1 = completes 1 5 refl refl

abbrev pub reclaim : Given
reclaim = makes poll_used tt

abbrev pub peek : Given
peek = takes peek_available tt

-- what is unfolded to compute a history of a wrong ring over bytes
unfoldable pub computing : Unit {0}
unfolding real_calls.computing
computing = tt

-- ---- calls by ends given their own, and no reset, are fair whatever the ring answers

abbrev pub ordinary : Call → Bool
ordinary (own (by_producer (submit_available c))) = true
ordinary (own (by_producer (submit_available_with_notify c))) = true
ordinary (own (by_producer (submit_one x l w))) = true
ordinary (own (by_producer (submit_one_with_notify x l w))) = true
ordinary (own (by_producer poll_used)) = true
ordinary (own (by_producer next_id)) = true
ordinary (own (by_producer (producer_asked q))) = true
ordinary (own (by_producer (should_notify_since c))) = true
ordinary (own (by_producer (turn_used f))) = true
ordinary (own (by_producer (enable_used_desc o w))) = true
ordinary (own (by_producer enable_used_for_next)) = true
ordinary (own (by_producer producer_reset)) = false
ordinary (own (by_consumer (poll_available x l))) = true
ordinary (own (by_consumer (submit_used i l))) = true
ordinary (own (by_consumer (submit_used_with_notify i l))) = true
ordinary (own (by_consumer peek_available)) = true
ordinary (own (by_consumer poll_checkpoint)) = true
ordinary (own (by_consumer (rollback_polls c js))) = true
ordinary (own (by_consumer (consumer_asked q))) = true
ordinary (own (by_consumer (turn_avail f))) = true
ordinary (own (by_consumer (enable_avail_desc o w))) = true
ordinary (own (by_consumer enable_avail_for_next)) = true
ordinary (own (by_consumer consumer_reset)) = false
ordinary (foreign f) = false

abbrev pub all_ordinary : List Given → Bool
all_ordinary [] = true
all_ordinary (c ∷ cs) = ordinary c.call && all_ordinary cs

fair_one : (c : Call) (n : ℕ) → T (ordinary c) → FairCall c n
fair_one (own (by_producer (submit_available c))) n t = tt
fair_one (own (by_producer (submit_available_with_notify c))) n t = tt
fair_one (own (by_producer (submit_one x l w))) n t = tt
fair_one (own (by_producer (submit_one_with_notify x l w))) n t = tt
fair_one (own (by_producer poll_used)) n t = tt
fair_one (own (by_producer next_id)) n t = tt
fair_one (own (by_producer (producer_asked q))) n t = tt
fair_one (own (by_producer (should_notify_since c))) n t = tt
fair_one (own (by_producer (turn_used f))) n t = tt
fair_one (own (by_producer (enable_used_desc o w))) n t = tt
fair_one (own (by_producer enable_used_for_next)) n t = tt
fair_one (own (by_producer producer_reset)) n t = absurd t
fair_one (own (by_consumer (poll_available x l))) n t = tt
fair_one (own (by_consumer (submit_used i l))) n t = tt
fair_one (own (by_consumer (submit_used_with_notify i l))) n t = tt
fair_one (own (by_consumer peek_available)) n t = tt
fair_one (own (by_consumer poll_checkpoint)) n t = tt
fair_one (own (by_consumer (rollback_polls c js))) n t = tt
fair_one (own (by_consumer (consumer_asked q))) n t = tt
fair_one (own (by_consumer (turn_avail f))) n t = tt
fair_one (own (by_consumer (enable_avail_desc o w))) n t = tt
fair_one (own (by_consumer enable_avail_for_next)) n t = tt
fair_one (own (by_consumer consumer_reset)) n t = absurd t
fair_one (foreign f) n t = absurd t

and_both : (x y : Bool) → T (x && y) → T x × T y
and_both true y t = (tt, t)
and_both false y t = absurd t

pub ordinary_fair : (R : Ring) (size : ℕ) (w : World) (cs : List Given) → T (all_ordinary cs) → FairCalls (machine_of R size) w cs
ordinary_fair R size w [] t = tt
ordinary_fair R size w (c ∷ cs) t =
    let p = and_both (ordinary c.call) (all_ordinary cs) t in
    (ordinary_fair R size w cs p.1, fair_one c.call _ p.0)

-- ---- a computed history that meets the premise and breaks the promise refutes the demand

-- an opening, calls and their history, the latest first, whose last event is wrong, and no earlier one
pub record Broken (R : Ring) : Type 0 where
  pub opening : Opening R
  pub calls : List Given
  pub before : History Checkpoint
  pub event : Event Checkpoint
  pub computed : history_of (machine R opening) (opened_world R opening) calls ≡ event ∷ before
  pub fair : FairCalls (machine R opening) (opened_world R opening) calls
  pub meets : Each (MayFollow (rules R opening)) (event ∷ before)
  pub right_before : Each (Right (rules R opening)) before
  pub wrong : Right (rules R opening) before event → ⊥

pub refuted : (R : Ring) → Broken R → Demand R → ⊥
refuted R k d =
    k.wrong
    (subst (Each (Right (rules R k.opening))) k.computed
    (d (record {
      opening = k.opening;
      calls = k.calls;
      premise = record { fair = k.fair; rollbacks = subst (Each (MayFollow (rules R k.opening))) (sym k.computed) k.meets };
    })).answers).1

-- the real ring answers these calls so: then the answers are right
abbrev pub real_two : Opening packed
real_two = over_zeros packed 2 two_accepted

pub right_so :
    (cs : List Given) (h : History Checkpoint) → T (all_ordinary cs) → T (none_rolled h)
    → history_of (machine packed real_two) (opened_world packed real_two) cs ≡ h → Each (Right (rules packed real_two)) h
right_so cs h t n e =
    subst (Each (Right (rules packed real_two))) e
    (demand_3 (record {
      opening = real_two;
      calls = cs;
      premise = record {
        fair = ordinary_fair packed 2 (opened_world packed real_two) cs t;
        rollbacks = subst (Each (MayFollow (rules packed real_two))) (sym e) (nothing_asked (rules packed real_two) h n);
      };
    })).answers

-- a call c after the calls cs, by ends given their own, with no rollback among them, so the premise asks nothing; and the real ring answers the
-- calls cs alike, so they were right
pub broken :
    (R : Ring) (acc : Accepted R 2) (c : Given) (cs : List Given) (h : History Checkpoint) (e : Event Checkpoint)
    → T (all_ordinary (c ∷ cs)) → T (none_rolled (e ∷ h)) → T (all_ordinary cs) → T (none_rolled h)
    → history_of (machine_of R 2) (opened_world R (over_zeros R 2 acc)) (c ∷ cs) ≡ e ∷ h
    → history_of (machine packed real_two) (opened_world packed real_two) cs ≡ h → (Right (plain 2) h e → ⊥) → Broken R
broken R acc c cs h e t n t' n' k same w =
    record {
      opening = over_zeros R 2 acc;
      calls = c ∷ cs;
      before = h;
      event = e;
      computed = k;
      fair = ordinary_fair R 2 (opened_world R (over_zeros R 2 acc)) (c ∷ cs) t;
      meets = nothing_asked (plain 2) (e ∷ h) n;
      right_before = right_so cs h t' n' same;
      wrong = w;
    }
