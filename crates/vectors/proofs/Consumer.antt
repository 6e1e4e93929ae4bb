-- One exchange of both ends, computed: two chains submitted, both polled, both polls rolled back, both polled again, one completed, and
-- its completion polled by the producer. Each step is given the record, the bytes and the tables that the step before left. What the
-- consumer's laws ask can be met; and what a wrong ring would answer otherwise.
-- Assumes nothing.
use Prim.Native.Nat.{ℕ}
use mathlib.Core.Path.{◌≡◌, refl}
use mathlib.Core.List.{List, [], ◌∷◌}
use mathlib.Core.Bool.{true}
use lib.ListN.{replicate}
use lib.Seq.{sets}
use Rattle.base.specs.Answer.{done, refused}
use Rattle.base.specs.Bytes.{bytes_of, word_at, put_of, get_of}
use Rattle.cursor.specs.Cursor.{at, step, steps}
use Rattle.desc.specs.Flags.{is_avail, is_used}
use Rattle.desc.specs.Desc.{encode_of, decode_of, mark_avail, mark_used}
use Rattle.layout.specs.Layout.{layout, apart, bad_layout, outside}
use Rattle.chain.specs.Chain.{bad_slices}
use Rattle.ring.specs.Slots.{slot_of, slot_put}
use Rattle.ring.specs.Tables.{up_to, up_from}
use Rattle.walk.specs.Walk.{look_of, walk_of, slots_from}
use Rattle.undo.specs.Undo.{named, bad_ids, total_of, cleared_of}
use Rattle.producer.specs.Record as made
use Rattle.producer.specs.Outcome as left
use Rattle.producer.specs.Submit.{submit_refusal, element_of, put_tails, put_chain, taken_of, submitted_of, submit_of}
use Rattle.producer.specs.Poll as reclaims
use Rattle.producer.specs.Fresh as opened
use Rattle.consumer.specs.declared.RingConsumer.{RingConsumer}
use Rattle.consumer.specs.Record.{bad_record, bad_lent, bytes_refusal, lent_refusal}
use Rattle.consumer.specs.Outcome.{Outcome, Rolled}
use Rattle.consumer.specs.Poll as polls
use Rattle.consumer.specs.Poll.{Taken, head_refusal, walk_refusal, poll_refusal, past_of, poll_of}
use Rattle.consumer.specs.Complete.{complete_refusal, completed_of, complete_of}
use Rattle.consumer.specs.Rollback.{checkpoint_of, handed_refusal, stale_of, rollback_refusal, back_of, rollback_of}
use Rattle.consumer.specs.Fresh.{fresh_of, open_of}
use Rattle.consumer.proofs.Ready.{BytesReady, bytes_ready, LentReady, lent_ready}
use Rattle.consumer.proofs.Poll.{PollReady, poll_ready}
use Rattle.consumer.proofs.Complete.{CompleteReady, complete_ready}
use Rattle.consumer.proofs.Rollback.{RollbackReady, rollback_ready}
use Rattle.consumer.proofs.Opening.{OpenReady, open_ready}
use Rattle.vectors.proofs.Producer.{four}

-- a fresh consumer over the ring of `Producer.four`, its 72 bytes zero
pub fresh : RingConsumer
fresh = fresh_of (layout 4 0 64 68)

pub zeros : List ℕ
zeros = replicate 72 0

pub none : List ℕ
none = replicate 4 0

-- a chain of two, the first readable
pub addrs : List ℕ
addrs = 4096 ∷ 8192 ∷ []

pub lens : List ℕ
lens = 16 ∷ 32 ∷ []

-- ---- the exchange, step by step

-- the chain of two submitted, and behind it a writable chain of one
pub first_sent : left.Outcome
first_sent = submit_of four zeros (up_to 4) none addrs lens 1

pub sent : left.Outcome
sent = submit_of first_sent.end first_sent.ring first_sent.ids first_sent.counts (12288 ∷ []) (64 ∷ []) 0

-- both wait: two polls, and one that finds nothing
pub first : Taken
first = poll_of fresh sent.ring none none none

pub second : Taken
second = poll_of first.end sent.ring first.counts first.addrs first.lens

pub third : Taken
third = poll_of second.end sent.ring second.counts second.addrs second.lens

-- both polls rolled back, and the first polled again
pub undone : Rolled
undone = rollback_of third.end third.counts (checkpoint_of fresh) (3 ∷ 2 ∷ [])

pub again : Taken
again = poll_of undone.end sent.ring undone.counts third.addrs third.lens

pub both : Taken
both = poll_of again.end sent.ring again.counts again.addrs again.lens

-- the chain of two completed with length 7, and once more
pub complete : Outcome
complete = complete_of both.end sent.ring both.counts 3 7

pub twice_complete : Outcome
twice_complete = complete_of complete.end complete.ring complete.counts 3 7

-- the producer polls the completion, and finds no other
pub back : left.Outcome
back = reclaims.poll_of sent.end twice_complete.ring sent.ids sent.counts

pub no_more : left.Outcome
no_more = reclaims.poll_of back.end back.ring back.ids back.counts

-- the consumer behind the first poll, and the counts
pub holding : RingConsumer
holding = record { layout = layout 4 0 64 68; avail = at 2 true; used = at 0 true; inflight = 2; shadow = 0 }

pub held : List ℕ
held = 0 ∷ 0 ∷ 0 ∷ 2 ∷ []

-- what is unfolded to compute over bytes: these values, and the definitions that the contracts cite
computing : Unit {0}
unfolding fresh zeros none addrs lens holding held four opened.fresh_of fresh_of bytes_of word_at put_of get_of step steps is_avail is_used encode_of decode_of mark_avail mark_used apart bad_layout outside bad_slices slot_of slot_put up_from look_of walk_of slots_from named bad_ids total_of cleared_of made.bad_record made.bad_lent submit_refusal element_of put_tails put_chain taken_of submitted_of submit_of bad_record bad_lent head_refusal walk_refusal poll_refusal past_of polls.polled_of poll_of complete_refusal completed_of complete_of handed_refusal stale_of rollback_refusal back_of rollback_of reclaims.poll_refusal reclaims.freed_of reclaims.polled_of reclaims.poll_of
computing = tt

pub record Exchange : Type 0 where
  pub gets_id_3 : first_sent.answer ≡ done (3 ∷ [])
  pub gets_id_2 : sent.answer ≡ done (2 ∷ [])
  pub polled : first.answer ≡ done (3 ∷ 2 ∷ 1 ∷ [])
  -- the avail cursor is past the first chain alone
  pub record_behind : first.end ≡ holding
  pub counts_behind : first.counts ≡ held
  pub addresses : first.addrs ≡ 4096 ∷ 8192 ∷ 0 ∷ 0 ∷ []
  pub lengths : first.lens ≡ 16 ∷ 32 ∷ 0 ∷ 0 ∷ []
  -- and the second poll gives the second chain
  pub polled_second : second.answer ≡ done (2 ∷ 1 ∷ 0 ∷ [])
  pub cursor_second : second.end.avail ≡ at 3 true
  pub addresses_second : second.addrs ≡ 12288 ∷ 8192 ∷ 0 ∷ 0 ∷ []
  pub then_blocked : third.answer ≡ refused 3
  pub rolled_back : undone.answer ≡ done []
  pub record_back : undone.end ≡ fresh
  pub counts_back : undone.counts ≡ none
  pub polled_again : again.answer ≡ done (3 ∷ 2 ∷ 1 ∷ [])
  pub both_again : both.answer ≡ done (2 ∷ 1 ∷ 0 ∷ [])
  pub completed : complete.answer ≡ done []
  pub completed_once : twice_complete.answer ≡ refused 5
  -- its own ID and length; and its two slots are free again
  pub returned : back.answer ≡ done (3 ∷ 7 ∷ [])
  pub free_again : back.end.free ≡ 3
  pub returned_once : no_more.answer ≡ refused 3

pub exchange : Exchange
unfolding computing first_sent sent first second third undone again both complete twice_complete back no_more
exchange =
    record {
      gets_id_3 = refl;
      gets_id_2 = refl;
      polled = refl;
      record_behind = refl;
      counts_behind = refl;
      addresses = refl;
      lengths = refl;
      polled_second = refl;
      cursor_second = refl;
      addresses_second = refl;
      then_blocked = refl;
      rolled_back = refl;
      record_back = refl;
      counts_back = refl;
      polled_again = refl;
      both_again = refl;
      completed = refl;
      completed_once = refl;
      returned = refl;
      free_again = refl;
      returned_once = refl;
    }

-- ---- the premises of the laws, met

pub may_open : OpenReady (layout 4 0 64 68) 72 5
unfolding open_of bad_layout apart outside
may_open = open_ready 4 0 64 68 (replicate 72 0) (replicate 5 9) refl

pub may_poll : PollReady fresh first_sent.ring none none none
unfolding computing first_sent
may_poll = poll_ready fresh first_sent.ring none none none refl

pub may_complete : CompleteReady holding 72 3 held
unfolding holding held complete_refusal bad_record bad_lent bad_layout apart outside
may_complete = complete_ready holding 72 3 held refl

pub may_roll_back : RollbackReady holding held (checkpoint_of fresh) (3 ∷ [])
unfolding fresh holding held fresh_of rollback_refusal handed_refusal stale_of named bad_ids total_of step steps bad_record bad_layout apart
may_roll_back = rollback_ready holding held (checkpoint_of fresh) (3 ∷ []) refl

pub may_turn : BytesReady fresh 72
unfolding fresh fresh_of bytes_refusal bad_record bad_layout apart outside
may_turn = bytes_ready fresh 72 refl

pub may_reset : LentReady fresh 72 4
unfolding fresh fresh_of lent_refusal bad_record bad_lent bad_layout apart outside
may_reset = lent_ready fresh 72 4 refl

-- ---- what a wrong ring would answer otherwise

-- the head's slot as a chain with INDIRECT that was never made available, and as one that was
pub indirect : ℕ → List ℕ
indirect flags = sets zeros 14 (flags ∷ [])

pub record Otherwise : Type 0 where
  -- INDIRECT on a head that is not available is 3, not 2
  pub blocked_first : (poll_of fresh (indirect 4) none none none).answer ≡ refused 3
  pub then_bad : (poll_of fresh (indirect 132) none none none).answer ≡ refused 2
  -- a rollback refuses an ID that it names twice
  pub twice : (rollback_of holding held (checkpoint_of fresh) (3 ∷ 3 ∷ [])).answer ≡ refused 9
  -- 7 comes before 8: a bad record over no bytes
  pub seven_first : (poll_of (record { layout = layout 4 0 64 68; avail = at 4 true; used = at 0 true; inflight = 0; shadow = 0 }) [] [] [] []).answer ≡ refused 7

pub otherwise : Otherwise
unfolding computing indirect
otherwise = record { blocked_first = refl; then_bad = refl; twice = refl; seven_first = refl }
