-- The wrong rings in one list: demand 3 is true of the packed ring and of none of these.
-- Assumes nothing.
use Rattle.packed.specs.Machine.{packed}
use Rattle.packed.specs.Opening.{Demand}
use Rattle.packed.proofs.Packed.{demand_3}
use Rattle.wrong.proofs.Calls.{refuted}
use Rattle.wrong.proofs.Refuses.{refuses, blocks_broken, sevens_broken, refuses_used, blocks_used_broken, sevens_used_broken}
use Rattle.wrong.proofs.SameId.{same_id, same_id_broken}
use Rattle.wrong.proofs.FreesOne.{frees_one, frees_one_broken}
use Rattle.wrong.proofs.WrapLate.{late_submit, late_submit_broken, late_all, late_all_broken}
use Rattle.wrong.proofs.NextOnLast.{next_on_last, next_on_last_broken, longer_broken}
use Rattle.wrong.proofs.Skips.{skips, skips_broken}
use Rattle.wrong.proofs.GivenAgain.{frees_last, frees_last_broken}
use Rattle.wrong.proofs.Grows.{grows, grows_broken}
use Rattle.wrong.proofs.Zeroes.{zeroes, zeroes_broken, zeroes_with_two_broken, zeroes_what_was_lent}
use Rattle.wrong.proofs.Silent.{SilentDemand, silent_broken}
use Rattle.wrong.proofs.Answers as answers

pub record Wrong : Type 0 where
  pub the_real_one : Demand packed
  -- polls that always block: the consumer's, and poll_used
  pub always_blocks : Demand (refuses 3) → ⊥
  pub used_always_blocks : Demand (refuses_used 3) → ⊥
  -- polls that answer 7 to everything: the consumer's, and poll_used
  pub seven_to_everything : Demand (refuses 7) → ⊥
  pub used_seven_to_everything : Demand (refuses_used 7) → ⊥
  -- ID 0 each time
  pub id_0_each_time : Demand same_id → ⊥
  -- a completion that frees one slot
  pub frees_one_slot : Demand frees_one → ⊥
  -- wrap flipped late: after a submission, and in every cursor of both ends
  pub wrap_late : Demand late_submit → ⊥
  pub every_wrap_late : Demand late_all → ⊥
  -- NEXT on the last slot: a full ring is refused with 2, and a shorter chain is polled with an element too many
  pub next_on_the_last : Demand next_on_last → ⊥
  pub an_element_too_many : Demand next_on_last → ⊥
  -- a poll that skips
  pub skips_one : Demand skips → ⊥
  -- an ID given again before its completion was returned
  pub id_given_again : Demand frees_last → ⊥
  -- a record that grows at the first poll, so that ring-size outputs get 8
  pub grows_its_record : Demand grows → ⊥
  -- 7 to a bad record, and the bytes lent with it zeroed: seen by the next poll, and at once; the same with 2 for 7
  pub zeroes_the_bytes : Demand (zeroes 7) → ⊥
  pub zeroes_at_once : Demand (zeroes 7) → ⊥
  pub zeroes_with_two : Demand (zeroes 2) → ⊥
  -- 'quiet' to everything
  pub says_nothing : SilentDemand → ⊥
  -- a peek that always says no; a rollback that is never accepted; a poll that takes outputs that are too short
  pub peek_says_no : Demand answers.peeks_no → ⊥
  pub never_rolls_back : Demand answers.never_rolls → ⊥
  pub takes_short_outputs : Demand answers.takes_short → ⊥
  -- a completion with another length, and of another chain's ID; elements in another order
  pub another_length : Demand answers.longer → ⊥
  pub another_chain : Demand answers.swaps → ⊥
  pub another_order : Demand answers.reorders → ⊥
  -- a poll that claims an element more than it gave
  pub an_element_claimed : Demand answers.overcounts → ⊥

pub wrong : Wrong
wrong =
    record {
      the_real_one = demand_3;
      always_blocks = refuted (refuses 3) blocks_broken;
      used_always_blocks = refuted (refuses_used 3) blocks_used_broken;
      seven_to_everything = refuted (refuses 7) sevens_broken;
      used_seven_to_everything = refuted (refuses_used 7) sevens_used_broken;
      id_0_each_time = refuted same_id same_id_broken;
      frees_one_slot = refuted frees_one frees_one_broken;
      wrap_late = refuted late_submit late_submit_broken;
      every_wrap_late = refuted late_all late_all_broken;
      next_on_the_last = refuted next_on_last next_on_last_broken;
      an_element_too_many = refuted next_on_last longer_broken;
      skips_one = refuted skips skips_broken;
      id_given_again = refuted frees_last frees_last_broken;
      grows_its_record = refuted grows grows_broken;
      zeroes_the_bytes = refuted (zeroes 7) zeroes_broken;
      zeroes_with_two = refuted (zeroes 2) zeroes_with_two_broken;
      zeroes_at_once = zeroes_what_was_lent;
      says_nothing = silent_broken;
      peek_says_no = refuted answers.peeks_no answers.peeks_no_broken;
      never_rolls_back = refuted answers.never_rolls answers.never_rolls_broken;
      takes_short_outputs = answers.takes_short_broken;
      another_length = refuted answers.longer answers.longer_broken;
      another_chain = refuted answers.swaps answers.swaps_broken;
      another_order = refuted answers.reorders answers.reorders_broken;
      an_element_claimed = refuted answers.overcounts answers.overcounts_broken;
    }
