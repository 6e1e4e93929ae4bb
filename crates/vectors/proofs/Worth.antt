-- D1 to D12 of document 01, "Slots worth checking", as one list: each line is the paper's, and all are computed from the
-- definitions that the contracts cite.
-- Assumes nothing.
use Prim.Native.Nat.{ℕ, ◌+◌}
use mathlib.Core.Path.{◌≡◌, refl}
use mathlib.Core.List.{List, [], ◌∷◌, ◌++◌}
use mathlib.Core.Bool.{Bool, true, false, cond}
use Rattle.base.specs.Answer.{Answer, done}
use Rattle.base.specs.Bytes.{bytes_of}
use Rattle.cursor.specs.Cursor.{at, step, steps, bad_move, Outcome, outcome, advance_of}
use Rattle.desc.specs.declared.Descriptor.{Descriptor}
use Rattle.desc.specs.Flags.{WRITE}
use Rattle.desc.specs.Desc.{descriptor, encode_of, mark_avail, mark_used}
use Rattle.event.specs.declared.EventSuppression.{EventSuppression}
use Rattle.event.specs.Event.{DESC, event}
use Rattle.notify.specs.Notify.{sub16, need_event, awaited, notify_of, should_notify_of}

-- address 1122334455667788 hex, length 64, ID 3, WRITE
abbrev slot : Descriptor
slot = descriptor 0x1122334455667788 64 3 WRITE

-- its bytes up to the flags
abbrev front : List ℕ
front = 0x88 ∷ 0x77 ∷ 0x66 ∷ 0x55 ∷ 0x44 ∷ 0x33 ∷ 0x22 ∷ 0x11 ∷ 0x40 ∷ 0x00 ∷ 0x00 ∷ 0x00 ∷ 0x03 ∷ 0x00 ∷ []

-- ID 3, length 5, and its bytes up to the flags
abbrev finished : Descriptor
finished = descriptor 0 5 3 0

abbrev ended : List ℕ
ended = 0x00 ∷ 0x00 ∷ 0x00 ∷ 0x00 ∷ 0x00 ∷ 0x00 ∷ 0x00 ∷ 0x00 ∷ 0x05 ∷ 0x00 ∷ 0x00 ∷ 0x00 ∷ 0x03 ∷ 0x00 ∷ []

-- DESC at an offset, in a round
abbrev desc_at : ℕ → Bool → EventSuppression
desc_at o w = event (o + cond w 32768 0) DESC

-- a move that is answered with (head, wrap)
abbrev to : ℕ → Bool → Outcome
to h w = outcome (done (h ∷ cond w 1 0 ∷ [])) (at h w)

abbrev says_yes : Answer
says_yes = done (1 ∷ [])

abbrev says_no : Answer
says_no = done (0 ∷ [])

pub record Worth : Type 0 where
  -- D1 round true: 88 77 66 55 44 33 22 11 40 00 00 00 03 00 82 00; D2 round false: last two bytes 02 80
  pub d1 : encode_of (mark_avail slot true) ≡ front ++ (0x82 ∷ 0x00 ∷ [])
  pub d2 : encode_of (mark_avail slot false) ≡ front ++ (0x02 ∷ 0x80 ∷ [])
  -- D3 used, ID 3, length 5, round true: eight 00, then 05 00 00 00 03 00 80 80; D4 round false: flags 00 00
  pub d3 : encode_of (mark_used finished true) ≡ ended ++ (0x80 ∷ 0x80 ∷ [])
  pub d4 : encode_of (mark_used finished false) ≡ ended ++ (0x00 ∷ 0x00 ∷ [])
  -- D5 size 1, one step from (0, true): (0, false)
  pub d5 : advance_of 1 1 (at 0 true) ≡ to 0 false
  -- D6 size 8, (6, true) moved by 3: (1, false)
  pub d6 : advance_of 8 3 (at 6 true) ≡ to 1 false
  -- D7 size 8, moved by 8 from (3, true): (3, false)
  pub d7 : advance_of 8 8 (at 3 true) ≡ to 3 false
  -- D8 to D11, size 8, old (6, true), new (1, false), DESC: event (6, true) yes; (1, false) no; (6, false) yes; (5, true) yes
  pub d8 : should_notify_of (desc_at 6 true) 8 (at 6 true) (at 1 false) ≡ says_yes
  pub d9 : should_notify_of (desc_at 1 false) 8 (at 6 true) (at 1 false) ≡ says_no
  pub d10 : should_notify_of (desc_at 6 false) 8 (at 6 true) (at 1 false) ≡ says_yes
  pub d11 : should_notify_of (desc_at 5 true) 8 (at 6 true) (at 1 false) ≡ says_yes
  -- D12 old (3, true), new (3, false), event (3, true): no
  pub d12 : should_notify_of (desc_at 3 true) 8 (at 3 true) (at 3 false) ≡ says_no

pub worth : Worth
unfolding encode_of mark_avail mark_used bytes_of advance_of bad_move steps step should_notify_of notify_of need_event awaited sub16
worth =
    record {
      d1 = refl;
      d2 = refl;
      d3 = refl;
      d4 = refl;
      d5 = refl;
      d6 = refl;
      d7 = refl;
      d8 = refl;
      d9 = refl;
      d10 = refl;
      d11 = refl;
      d12 = refl;
    }
