-- A chain polled, and whether there is one (document 01, "What each end does", Consumer).
use Rattle.std.specs.Prelude.{ℕ, ◌+◌, List, [], ◌∷◌, map, not, cond, ◌||◌, ltb, leb, eqb, length, get_or, set, Result}
use Rattle.std.proofs.lemmas.List.Edits.{sets}
use Rattle.base.specs.declared.RingError.{RingError}
use Rattle.base.specs.Answer.{Answer, done, refused, bit, answer_by}
use Rattle.cursor.specs.declared.RingCursor.{RingCursor}
use Rattle.desc.specs.declared.Descriptor.{Descriptor}
use Rattle.desc.specs.Flags.{is_avail}
use Rattle.ring.specs.Slots.{slot_of}
use Rattle.walk.specs.declared.Walk.{Walk}
use Rattle.walk.specs.Walk.{start, walk_of, slots_from, addr_of, len_of}
use Rattle.consumer.specs.declared.RingConsumer.{RingConsumer}
use Rattle.consumer.specs.declared.PolledChain.{PolledChain}
use Rattle.consumer.specs.Record.{bad_record, bad_lent, bytes_refusal}

-- what a poll leaves: its answer, the record, the counts and both outputs
pub record Taken : Type 0 where
  pub answer : Answer
  pub end : RingConsumer
  pub counts : List ℕ
  pub addrs : List ℕ
  pub lens : List ℕ

abbrev pub taken : Answer → RingConsumer → List ℕ → List ℕ → List ℕ → Taken
taken a p k x y = record { answer = a; end = p; counts = k; addrs = x; lens = y }

-- "poll_available checks the head": the slot at the avail cursor. The chain's ID is the head's, as in the Rust; VIRTIO 1.1, 2.7.5
-- has it in the last (docs/DIFFERENCES.md)
abbrev pub head_of : RingConsumer → List ℕ → Descriptor
head_of p ring = slot_of p.layout.table p.avail ring

-- "then walks while NEXT is set, at most ring-size slots"
abbrev pub walked_of : RingConsumer → List ℕ → Walk
walked_of p ring = walk_of p.layout.table p.layout.size ring p.layout.size (start p.avail)

-- "7, 8, then 3": 8 also for "an ID table or poll output shorter than the size", 3 where the looked-at slot is not available; then
-- the rest. "The condition of 3 on the head is read before INDIRECT."
unfoldable pub head_refusal : RingConsumer → ℕ → Descriptor → ℕ → ℕ → ℕ → ℕ → ℕ
head_refusal p bytes d counts addrs lens rest =
    cond (bad_record p) 7
    (cond (bad_lent p bytes counts || (ltb addrs p.layout.size || ltb lens p.layout.size)) 8
    (cond (not (is_avail d.flags p.avail.wrap)) 3 rest))

-- "then 2 (slot by slot), then 5": 2 for a bad chain and for "NEXT still set after ring-size slots"; 5 where the head's ID is not
-- below the size or has a recorded count, or in-flight would pass the size
unfoldable pub walk_refusal : RingConsumer → Walk → ℕ → List ℕ → ℕ
walk_refusal p w id counts =
    cond (w.bad || w.more) 2
    (cond (leb p.layout.size id
    || (not (eqb (get_or counts id 0) 0) || ltb p.layout.size (p.inflight + w.count))) 5 0)

-- "7, 8, then 3, then 2 (slot by slot), then 5 for polls": the head's ladder, and behind it the walk's
unfoldable pub poll_refusal : RingConsumer → List ℕ → List ℕ → ℕ → ℕ → ℕ
poll_refusal p ring counts addrs lens =
    head_refusal p (length ring) (head_of p ring) (length counts) addrs lens
    (walk_refusal p (walked_of p ring) (head_of p ring).id counts)

-- the record behind a poll of n slots
unfoldable pub past_of : RingConsumer → RingCursor → ℕ → RingConsumer
past_of p at n =
    record {
      layout = p.layout;
      avail = at;
      used = p.used;
      inflight = p.inflight + n;
      shadow = p.shadow;
    }

-- a chain that is taken: its ID, its elements and its readable ones. "A successful poll writes the first n addresses and lengths and
-- leaves the rest of both output slices alone."
unfoldable pub polled_of : RingConsumer → List ℕ → ℕ → Walk → List ℕ → List ℕ → List ℕ → Taken
polled_of p ring id w counts addrs lens =
    let ds = slots_from p.layout.table p.layout.size ring p.avail w.count in
    taken (done (id ∷ w.count ∷ w.readable ∷ [])) (past_of p w.at w.count) (set counts id w.count)
    (sets addrs 0 (map addr_of ds)) (sets lens 0 (map len_of ds))

-- a poll: refused, and nothing changed, or the chain at the avail cursor taken
unfoldable pub poll_of : RingConsumer → List ℕ → List ℕ → List ℕ → List ℕ → Taken
poll_of p ring counts addrs lens =
    let no = poll_refusal p ring counts (length addrs) (length lens) in
    cond (eqb no 0)
    (polled_of p ring (head_of p ring).id (walked_of p ring) counts addrs lens)
    (taken (refused no) p counts addrs lens)

-- the answer, in the paper's number and values
abbrev pub polled_answer : Result PolledChain RingError → Answer
polled_answer r = answer_by (λ c. c.id ∷ c.count ∷ c.readable ∷ []) r

-- peek_available, "7, 8 for all else": whether the slot that a poll would look at is available
unfoldable pub peek_of : RingConsumer → List ℕ → Answer
peek_of p ring =
    let no = bytes_refusal p (length ring) in
    cond (eqb no 0) (done (bit (is_avail (head_of p ring).flags p.avail.wrap) ∷ [])) (refused no)
