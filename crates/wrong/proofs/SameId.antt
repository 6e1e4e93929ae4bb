-- ID 0 each time: "an ID given is the ID of no chain whose completion poll_used has not yet returned" is broken.
-- Assumes nothing.
use mathlib.Core.Path.{refl}
use mathlib.Core.List.{[], ◌∷◌}
use native.Mathlib.Omega.{arith}
use lib.ListN.{replicate}
use Rattle.consumer.specs.declared.Checkpoint.{Checkpoint}
use Rattle.queue.specs.History.{Event, History, out, promised}
use Rattle.queue.specs.History as said
use Rattle.queue.specs.Promise.{plain, Each, Right}
use Rattle.packed.specs.Machine.{Ring, packed}
use Rattle.packed.specs.Opening.{opened_world}
use Rattle.history.proofs.Ends.{two_accepted, over_zeros, nothing_asked, item}
use Rattle.wrong.proofs.Changed.{is_submit, with_producer}
use Rattle.wrong.proofs.Calls.{a, b, submit_a, submit_b, computing, ordinary_fair, Broken}

-- THE WRONG RING: a submission is the real one over a stack of zeros, with no count that could refuse the ID
abbrev pub same_id : Ring
same_id =
    with_producer is_submit (λ c s r o.
    packed.producer c (record { end = s.end; ids = replicate s.end.layout.size 0; counts = replicate s.end.layout.size 0 }) r)

-- two chains are submitted, and both get ID 0
abbrev one_out : History Checkpoint
one_out = said.submitted (item 0 a) ∷ []

abbrev again : Event Checkpoint
again = said.submitted (item 0 b)

first_right : Each (Right (plain 2)) one_out
unfolding out promised
first_right = (tt, (omega arith, (tt, ((omega arith, (refl, omega arith)), (omega arith, λ i e. cc e)))))

same : Right (plain 2) one_out again → ⊥
unfolding out
same f = f.1.0.0 refl

pub same_id_broken : Broken same_id
unfolding computing
same_id_broken =
    record {
      opening = over_zeros same_id 2 two_accepted;
      calls = submit_b ∷ submit_a ∷ [];
      before = one_out;
      event = again;
      computed = refl;
      fair = ordinary_fair same_id 2 (opened_world same_id (over_zeros same_id 2 two_accepted)) (submit_b ∷ submit_a ∷ []) tt;
      meets = nothing_asked (plain 2) (again ∷ one_out) tt;
      right_before = first_right;
      wrong = same;
    }
