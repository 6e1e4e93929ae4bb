-- Rings of two and of three slots, each opened by two fresh ends over zero bytes; the calls of both ends, written short; and histories of
-- which nothing is asked.
-- Assumes nothing.
use Prim.Native.Nat.{ℕ, zero, suc, ◌+◌, ◌*◌, ◌^◌, ◌<◌}
use mathlib.Core.Path.{◌≡◌, refl}
use mathlib.Core.List.{List, [], ◌∷◌}
use mathlib.Core.Bool.{Bool, true, false, false≢true, ◌&&◌}
use native.Mathlib.Omega.{arith}
use lib.Dec.{T, ltb}
use lib.ListN.{get_or, replicate, get_or-replicate}
use borrow.Author.Tests.{ltb-true}
use Rattle.cursor.specs.declared.RingCursor.{RingCursor}
use Rattle.layout.specs.declared.Layout.{Layout}
use Rattle.layout.specs.Layout.{layout, apart, bad_layout, outside}
use Rattle.producer.specs.Fresh as made
use Rattle.consumer.specs.declared.Checkpoint.{Checkpoint}
use Rattle.consumer.specs.Fresh as taken
use Rattle.ring.specs.Tables.{up_from}
use Rattle.queue.specs.History.{Chain, Item, Done, History}
use Rattle.queue.specs.History.{submitted, polled, completed, reclaimed, marked, rolled, unchanged}
use Rattle.queue.specs.Promise.{Rules, Each, MayFollow}
use Rattle.packed.specs.Calls.{ProducerCall, ConsumerCall, Foreign, Given, TypedProducer, TypedConsumer, TypedChain, one_of}
use Rattle.packed.specs.Calls.{submit_available, submit_one, poll_available, submit_used, by_producer, by_consumer, own, foreign}
use Rattle.packed.specs.Machine.{World, Ring, packed}
use Rattle.packed.specs.Opening.{Opening, opened_world}

-- ---- the openings

abbrev pub zeros : ℕ → List ℕ
zeros n = replicate n 0

-- n slots over zero bytes: the table, then the driver's event area and the device's
abbrev pub geometry_of : ℕ → Layout
geometry_of n = layout n 0 (n * 16) (n * 16 + 4)

-- both openings of this ring are accepted so
abbrev pub Accepted : Ring → ℕ → Type 0
Accepted R n =
    ((R.producer_new (geometry_of n) (zeros (n * 16 + 8)) (zeros n) (zeros n)).answer.number ≡ 0)
    × ((R.consumer_new (geometry_of n) (zeros (n * 16 + 8)) (zeros n)).answer.number ≡ 0)

abbrev pub over_zeros : (R : Ring) (n : ℕ) → Accepted R n → Opening R
over_zeros R n a =
    record {
      geometry = geometry_of n;
      ring = zeros (n * 16 + 8);
      zeroed = λ k h. get_or-replicate (n * 16 + 8) (0 + k) 0 0 (omega (arith, h));
      ids = zeros n;
      counts = zeros n;
      held_counts = zeros n;
      producer_finds = zeros (n * 16 + 8);
      consumer_finds = zeros (n * 16 + 8);
      producer_length = refl;
      consumer_length = refl;
      producer = a.0;
      consumer = a.1;
    }

pub two_accepted : Accepted packed 2
unfolding made.open_of made.fresh_of taken.open_of taken.fresh_of bad_layout outside apart up_from
two_accepted = (refl, refl)

pub three_accepted : Accepted packed 3
unfolding made.open_of made.fresh_of taken.open_of taken.fresh_of bad_layout outside apart up_from
three_accepted = (refl, refl)

abbrev pub three : Opening packed
three = over_zeros packed 3 three_accepted

abbrev pub world_three : World
world_three = opened_world packed three

-- ---- calls with arguments of their types

-- every number of a list is below n
abbrev pub below : ℕ → List ℕ → Bool
below n [] = true
below n (x ∷ xs) = ltb x n && below n xs

both : (a b : Bool) → a && b ≡ true → (a ≡ true) × (b ≡ true)
both true b h = (refl, h)
both false b h = absurd (false≢true h)

pub all_below : (n : ℕ) (l : List ℕ) → 0 < n → below n l ≡ true → (i : ℕ) → get_or l i 0 < n
all_below n [] p h i = p
all_below n (x ∷ xs) p h zero = ltb-true x n (both (ltb x n) (below n xs) h).0
all_below n (x ∷ xs) p h (suc i) = all_below n xs p (both (ltb x n) (below n xs) h).1 i

pub typed : (c : Chain) → below (256 ^ 8) c.addrs ≡ true → below (256 ^ 4) c.lens ≡ true → TypedChain c
typed c a l = (all_below (256 ^ 8) c.addrs (omega arith) a, all_below (256 ^ 4) c.lens (omega arith) l)

-- a call of the producer, one of the consumer, and one given what is not the end's own
abbrev pub makes : (c : ProducerCall) → TypedProducer c → Given
makes c t = record { call = own (by_producer c); typed = t }

abbrev pub takes : (c : ConsumerCall) → TypedConsumer c → Given
takes c t = record { call = own (by_consumer c); typed = t }

abbrev pub strays : Foreign → Given
strays f = record { call = foreign f; typed = tt }

-- a chain that got this ID; a completion
abbrev pub item : ℕ → Chain → Item
item id c = record { id = id; chain = c }

abbrev pub done : ℕ → ℕ → Done
done id len = record { id = id; len = len }

-- addresses, lengths, how many are readable
abbrev pub chain : List ℕ → List ℕ → ℕ → Chain
chain xs ls r = record { addrs = xs; lens = ls; readable = r }

abbrev pub submits : (c : Chain) → below (256 ^ 8) c.addrs ≡ true → below (256 ^ 4) c.lens ≡ true → Given
submits c a l = makes (submit_available c) (typed c a l)

abbrev pub submits_one : (addr len : ℕ) (writable : Bool) → below (256 ^ 8) (addr ∷ []) ≡ true → below (256 ^ 4) (len ∷ []) ≡ true → Given
submits_one addr len w a l = makes (submit_one addr len w) (typed (one_of addr len w) a l)

-- outputs of n entries each
abbrev pub polls_for : ℕ → Given
polls_for n = takes (poll_available (zeros n) (zeros n)) tt

pub ids_fit : (id len : ℕ) → ltb id (256 ^ 2) ≡ true → ltb len (256 ^ 4) ≡ true → (id < 256 ^ 2) × (len < 256 ^ 4)
ids_fit id len i l = (ltb-true id (256 ^ 2) i, ltb-true len (256 ^ 4) l)

abbrev pub completes : (id len : ℕ) → ltb id (256 ^ 2) ≡ true → ltb len (256 ^ 4) ≡ true → Given
completes id len i l = takes (submit_used id len) (ids_fit id len i l)

-- a checkpoint of any value: the avail cursor, the used cursor, the slots in flight
abbrev pub checkpoint : RingCursor → RingCursor → ℕ → Checkpoint
checkpoint a u n = record { avail = a; used = u; inflight = n }

-- ---- a history with no rollback: of it the premise asks nothing

abbrev pub none_rolled : History Checkpoint → Bool
none_rolled [] = true
none_rolled (submitted x ∷ h) = none_rolled h
none_rolled (polled x ∷ h) = none_rolled h
none_rolled (completed d ∷ h) = none_rolled h
none_rolled (reclaimed d ∷ h) = none_rolled h
none_rolled (marked c ∷ h) = none_rolled h
none_rolled (rolled c js ∷ h) = false
none_rolled (unchanged u ∷ h) = none_rolled h

pub nothing_asked : (rules : Rules Checkpoint) (h : History Checkpoint) → T (none_rolled h) → Each (MayFollow rules) h
nothing_asked rules [] t = tt
nothing_asked rules (submitted x ∷ h) t = (nothing_asked rules h t, tt)
nothing_asked rules (polled x ∷ h) t = (nothing_asked rules h t, tt)
nothing_asked rules (completed d ∷ h) t = (nothing_asked rules h t, tt)
nothing_asked rules (reclaimed d ∷ h) t = (nothing_asked rules h t, tt)
nothing_asked rules (marked c ∷ h) t = (nothing_asked rules h t, tt)
nothing_asked rules (rolled c js ∷ h) t = absurd t
nothing_asked rules (unchanged u ∷ h) t = (nothing_asked rules h t, tt)
