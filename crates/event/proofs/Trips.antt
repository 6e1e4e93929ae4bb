-- Both round trips of an event area, from the one law over the number of bytes.
-- Assumes nothing.
use Prim.Native.Nat.{ℕ, ◌^◌, ◌<◌}
use mathlib.Core.Path.{◌≡◌, sym, ◌∙◌, ap, ap₂}
use mathlib.Core.List.{List, [], ◌++◌, append-nil}
use native.Mathlib.Omega.{arith}
use lib.ListN.{length, length-append}
use lib.Seq.{take_all, take-add}
use Rattle.base.specs.Bytes.{bytes_of, word_at}
use Rattle.base.proofs.Words.{Bytes, bytes_are, bytes_append, word_bytes, word_after, bytes_word, length_bytes}
use Rattle.event.specs.declared.EventSuppression.{EventSuppression}
use Rattle.event.specs.Event.{event, encode_of, decode_of}

-- an event area whose words are words
pub record Ranged (e : EventSuppression) : Type 0 where
  pub off : e.off_wrap < 256 ^ 2
  pub flags : e.flags < 256 ^ 2

pub encode_length : (e : EventSuppression) → length (encode_of e) ≡ 4
unfolding encode_of
encode_length e = simp (length-append, length_bytes)

pub encode_bytes : (e : EventSuppression) → Bytes (encode_of e)
unfolding encode_of
encode_bytes e =
    bytes_append (bytes_of 2 e.off_wrap) (bytes_of 2 e.flags) (bytes_are 2 e.off_wrap) (bytes_are 2 e.flags)

pub decode_encode : (e : EventSuppression) → Ranged e → decode_of (encode_of e) ≡ e
unfolding decode_of encode_of
decode_encode e r =
    let o = bytes_of 2 e.off_wrap in
    let f = bytes_of 2 e.flags in
    let n = length_bytes 2 e.off_wrap in
    let eo : word_at (o ++ f) 0 2 ≡ e.off_wrap = word_bytes 2 e.off_wrap f r.off in
    let ef : word_at (o ++ f) 2 2 ≡ e.flags =
    ap (λ (m : ℕ). word_at (o ++ f) m 2) (omega arith) ∙ word_after o f 0 2
    ∙ ap (λ (x : List ℕ). word_at x 0 2) (sym (append-nil f)) ∙ word_bytes 2 e.flags [] r.flags in
    λ j. event (eo j) (ef j)

pub encode_decode : (bs : List ℕ) → Bytes bs → length bs ≡ 4 → encode_of (decode_of bs) ≡ bs
unfolding decode_of encode_of
encode_decode bs b e =
    ap₂ ◌++◌ (bytes_word 2 bs 0 b (omega arith)) (bytes_word 2 bs 2 b (omega arith))
    ∙ sym (take-add 2 2 bs)
    ∙ take_all 4 bs (omega arith)
