-- The main theorems of the leaves that have premises, at values that meet them: none of them is empty.
-- Assumes nothing.
use mathlib.Core.Path.{◌≡◌, refl}
use mathlib.Core.Logic.{inl}
use mathlib.Core.List.{[], ◌∷◌}
use mathlib.Core.Bool.{true, false}
use native.Mathlib.Omega.{arith}
use lib.ListN.{take, drop}
use lib.Seq.{sets}
use Rattle.base.specs.Bytes.{bytes_of, word_at, get_of}
use Rattle.base.proofs.Words.{word_bytes, bytes_word, bytes_are}
use Rattle.base.proofs.Runs.{get_same, get_other}
use Rattle.cursor.specs.Cursor.{at, step, steps, bad_move}
use Rattle.cursor.proofs.Laws.{lands, steps_twice, steps_fewer, heads_apart}
use Rattle.cursor.proofs.Ready.{Ready, ready}
use Rattle.desc.specs.declared.Descriptor.{Descriptor}
use Rattle.desc.specs.Flags.{WRITE}
use Rattle.desc.specs.Desc.{descriptor, encode_of, decode_of, mark_avail, mark_used}
use Rattle.desc.proofs.Trips as desc
use Rattle.event.specs.declared.EventSuppression.{EventSuppression}
use Rattle.event.specs.Event.{DESC, event}
use Rattle.event.specs.Event as events
use Rattle.event.proofs.Trips as event_trips
use Rattle.layout.specs.declared.Layout.{Layout}
use Rattle.layout.specs.Layout.{layout, apart, bad_layout, outside}
use Rattle.layout.proofs.Laws.{Laid, laid, Within, within}
use Rattle.chain.specs.Chain.{bad_slices}
use Rattle.chain.proofs.Laws.{Good, good}
use Rattle.notify.specs.Notify.{notify_of}
use Rattle.notify.specs.Passed.{Passed}
use Rattle.notify.proofs.Passed.{passed_told, told_passed}
use Rattle.virtio.specs.Packed.{image, pvirtq_event_suppress, SameOthers}
use Rattle.virtio.proofs.Descriptor as document
use Rattle.virtio.proofs.Event as area_of
use Rattle.virtio.proofs.Rounds.{mark_available_others, mark_used_others, Known, known_five}

-- ---- words and runs of bytes

word : word_at (bytes_of 2 513) 0 2 ≡ 513
unfolding bytes_of
word = word_bytes 2 513 [] (omega arith)

back : bytes_of 2 (word_at (bytes_of 4 67305985) 1 2) ≡ take 2 (drop 1 (bytes_of 4 67305985))
unfolding bytes_of
back = bytes_word 2 (bytes_of 4 67305985) 1 (bytes_are 4 67305985) (omega arith)

put_there : get_of (sets (7 ∷ 7 ∷ 7 ∷ []) 1 (8 ∷ 9 ∷ [])) 1 2 ≡ 8 ∷ 9 ∷ []
put_there = get_same (8 ∷ 9 ∷ []) (7 ∷ 7 ∷ 7 ∷ []) 1 (omega arith)

put_elsewhere : get_of (sets (7 ∷ 7 ∷ 7 ∷ []) 0 (8 ∷ 9 ∷ [])) 2 1 ≡ get_of (7 ∷ 7 ∷ 7 ∷ []) 2 1
put_elsewhere = get_other (8 ∷ 9 ∷ []) (7 ∷ 7 ∷ 7 ∷ []) 0 1 2 (inl (omega arith))

-- ---- cursors

move : Ready 8 3 (at 6 true)
unfolding bad_move
move = ready 8 3 (at 6 true) refl

on_zero : steps 8 5 (at 3 true) ≡ at 0 false
on_zero = lands 8 5 (at 3 true) (omega arith) refl

round_twice : steps 8 16 (at 3 true) ≡ at 3 true
round_twice = steps_twice 8 (at 3 true) (omega arith)

no_fewer : steps 8 15 (at 3 true) ≡ at 3 true → ⊥
no_fewer = steps_fewer 8 15 (at 3 true) (omega arith) (omega arith) (omega arith)

two_heads : (steps 8 2 (at 3 true)).head ≡ (steps 8 9 (at 3 true)).head → ⊥
two_heads = heads_apart 8 2 9 (at 3 true) (omega arith) (omega arith) (omega arith)

-- ---- descriptors and event areas

slot : Descriptor
slot = descriptor 0x1122334455667788 64 3 WRITE

ranged : desc.Ranged slot
unfolding slot
ranged = record { addr = omega arith; len = omega arith; id = omega arith; flags = omega arith }

slot_back : decode_of (encode_of slot) ≡ slot
slot_back = desc.decode_encode slot ranged

bytes_back : encode_of (decode_of (encode_of slot)) ≡ encode_of slot
bytes_back = desc.encode_decode (encode_of slot) (desc.encode_bytes slot) (desc.encode_length slot)

slot_document : document.fields (decode_of (encode_of slot)) ≡ encode_of slot
slot_document = document.decode_document (encode_of slot) (desc.encode_bytes slot) (desc.encode_length slot)

slot_others : SameOthers (mark_avail slot true).flags slot.flags
slot_others = mark_available_others slot true ranged.flags

area : EventSuppression
area = event 32771 DESC

area_ranged : event_trips.Ranged area
unfolding area
area_ranged = record { off = omega arith; flags = omega arith }

area_back : events.decode_of (events.encode_of area) ≡ area
area_back = event_trips.decode_encode area area_ranged

area_bytes_back : events.encode_of (events.decode_of (events.encode_of area)) ≡ events.encode_of area
area_bytes_back =
    event_trips.encode_decode (events.encode_of area) (event_trips.encode_bytes area) (event_trips.encode_length area)

area_document : area_of.fields (events.decode_of (events.encode_of area)) ≡ events.encode_of area
area_document =
    area_of.decode_document (events.encode_of area) (event_trips.encode_bytes area) (event_trips.encode_length area)

area_read : area_of.Read (events.decode_of (image (pvirtq_event_suppress 3 true 2 9))) 3 true 2 9
area_read = area_of.read_document 3 true 2 9 (record { fifteen = omega arith; two = omega arith; fourteen = omega arith })

slot_only : decode_of (document.fields slot) ≡ slot
slot_only = document.decode_only slot (document.fields slot) ranged refl

slot_used : SameOthers (mark_used slot false).flags slot.flags
slot_used = mark_used_others slot false ranged.flags

five : Known slot.flags
five = known_five slot.flags ranged.flags

-- ---- geometry and chains

places : Layout
places = layout 4 16 12 8

geometry : Laid places
unfolding places bad_layout apart
geometry = laid places refl

fits : Within places 80
unfolding places outside
fits = within places 80 refl

chain : Good 3 3 2
unfolding bad_slices
chain = good 3 3 2 refl

-- ---- notify, both ways: from (2, true) to (5, true) in a ring of eight, with (3, true) awaited

passed : Passed area 8 3 (at 2 true)
unfolding area steps step
passed = record { step = 1; before = omega arith; there = refl }

told : notify_of area 8 (at 2 true) (at 5 true) ≡ true
unfolding area
told = passed_told area 8 (at 2 true) (at 5 true) (omega arith) refl refl (omega arith) (omega arith) passed

passed_again : Passed area 8 3 (at 2 true)
unfolding area
passed_again = told_passed area 8 (at 2 true) (at 5 true) (omega arith) refl refl (omega arith) (omega arith) told
