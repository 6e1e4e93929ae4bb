-- When a poll is refused, and what one that is accepted hands out (document 01, "When the ring says no", the rows 2, 3, 5, 7 and 8
-- and "7, 8, then 3, then 2 (slot by slot), then 5 for polls").
use Rattle.std.specs.Prelude.{ℕ, ◌+◌, ◌≤◌, ◌<◌, ◌≡◌, List, [], ◌∷◌, length, get_or}
use Rattle.cursor.specs.Cursor.{steps}
use Rattle.consumer.specs.declared.RingConsumer.{RingConsumer}
use Rattle.consumer.specs.Poll.{Taken}
use Rattle.converse.specs.Geometry.{Broken, Outside}
use Rattle.converse.specs.Chain.{slot_from, Available, IsChain}

-- no condition of 7: "stored geometry breaks 6, apart from fitting the lent bytes; a head not below the size ..; the record's own
-- .. in-flight .. count above the size"
pub record GoodRecord (p : RingConsumer) : Type 0 where
  pub geometry : ¬ Broken p.layout
  pub avail : p.avail.head < p.layout.size
  pub used : p.used.head < p.layout.size
  pub inflight : p.inflight ≤ p.layout.size

-- no condition of 8: "bytes too short for the areas; an ID table or poll output shorter than the size"
pub record GoodLent (p : RingConsumer) (ring counts addrs lens : List ℕ) : Type 0 where
  pub bytes_whole : ¬ Outside p.layout (length ring)
  pub counts_whole : p.layout.size ≤ length counts
  pub addrs_whole : p.layout.size ≤ length addrs
  pub lens_whole : p.layout.size ≤ length lens

-- 3 is not given: the head is available in the avail cursor's round
abbrev pub HeadAvailable : RingConsumer → List ℕ → Type 0
HeadAvailable p ring = Available (slot_from p ring 0) p.avail.wrap

-- refusal 5, InvalidState, of a chain of n slots: "ID not below the size; a .. newly polled ID with a recorded count; .. in-flight
-- would pass the size". The ID is the head's
pub data InvalidState (p : RingConsumer) (counts : List ℕ) (id n : ℕ) : Type 0 where
  not_below : p.layout.size ≤ id → InvalidState p counts id n
  recorded : ¬ (get_or counts id 0 ≡ 0) → InvalidState p counts id n
  passes_size : p.layout.size < p.inflight + n → InvalidState p counts id n

-- what an accepted poll of a chain of n slots, r of them readable, leaves: the head's ID, n and r as the answer's values, the slots'
-- addresses and lengths in their order, and the avail cursor moved by n. "A successful poll writes the first n addresses and
-- lengths and leaves the rest of both output slices alone."
pub record Handed (p : RingConsumer) (ring addrs lens : List ℕ) (o : Taken) (n r : ℕ) : Type 0 where
  pub head_available : HeadAvailable p ring
  pub chain : IsChain (slot_from p ring) p.layout.size n r
  pub values : o.answer.values ≡ (slot_from p ring 0).id ∷ n ∷ r ∷ []
  pub addr : (i : ℕ) → i < n → get_or o.addrs i 0 ≡ (slot_from p ring i).addr
  pub len : (i : ℕ) → i < n → get_or o.lens i 0 ≡ (slot_from p ring i).len
  pub addr_kept : (i : ℕ) → n ≤ i → get_or o.addrs i 0 ≡ get_or addrs i 0
  pub len_kept : (i : ℕ) → n ≤ i → get_or o.lens i 0 ≡ get_or lens i 0
  pub as_many_addrs : length o.addrs ≡ length addrs
  pub as_many_lens : length o.lens ≡ length lens
  pub moved : o.end.avail ≡ steps p.layout.size n p.avail
