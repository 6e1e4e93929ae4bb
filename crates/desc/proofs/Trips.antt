-- Both round trips of a descriptor, from the one law over the number of bytes.
-- Assumes nothing.
use Prim.Native.Nat.{ℕ, ◌+◌, ◌^◌, ◌<◌}
use mathlib.Core.Path.{◌≡◌, refl, sym, ◌∙◌, ap, ap₂}
use mathlib.Core.List.{List, [], ◌++◌, append-nil}
use native.Mathlib.Omega.{arith}
use lib.ListN.{length, take, drop, replicate, length-append}
use lib.Seq.{drop-drop, take_all, take-add}
use Rattle.base.specs.Bytes.{bytes_of, word_at}
use Rattle.base.proofs.Words.{Bytes, bytes_are, bytes_append, word_bytes, word_after, bytes_word, length_bytes}
use Rattle.desc.specs.declared.Descriptor.{Descriptor}
use Rattle.desc.specs.Desc.{descriptor, encode_of, decode_of}

-- a descriptor whose fields are in their types' ranges
pub record Ranged (d : Descriptor) : Type 0 where
  pub addr : d.addr < 256 ^ 8
  pub len : d.len < 256 ^ 4
  pub id : d.id < 256 ^ 2
  pub flags : d.flags < 256 ^ 2

pub encode_length : (d : Descriptor) → length (encode_of d) ≡ 16
unfolding encode_of
encode_length d = simp (length-append, length_bytes)

pub encode_bytes : (d : Descriptor) → Bytes (encode_of d)
unfolding encode_of
encode_bytes d =
    bytes_append (bytes_of 8 d.addr) _ (bytes_are 8 d.addr)
    (bytes_append (bytes_of 4 d.len) _ (bytes_are 4 d.len)
    (bytes_append (bytes_of 2 d.id) (bytes_of 2 d.flags) (bytes_are 2 d.id) (bytes_are 2 d.flags)))

pub decode_encode : (d : Descriptor) → Ranged d → decode_of (encode_of d) ≡ d
unfolding decode_of encode_of
decode_encode d r =
    let a = bytes_of 8 d.addr in
    let l = bytes_of 4 d.len in
    let i = bytes_of 2 d.id in
    let f = bytes_of 2 d.flags in
    let w = a ++ (l ++ (i ++ f)) in
    let na = length_bytes 8 d.addr in
    let nl = length_bytes 4 d.len in
    let ni = length_bytes 2 d.id in
    let ea : word_at w 0 8 ≡ d.addr = word_bytes 8 d.addr (l ++ (i ++ f)) r.addr in
    let el : word_at w 8 4 ≡ d.len =
    ap (λ (n : ℕ). word_at w n 4) (omega arith) ∙ word_after a (l ++ (i ++ f)) 0 4 ∙ word_bytes 4 d.len (i ++ f) r.len in
    let ei : word_at w 12 2 ≡ d.id =
    ap (λ (n : ℕ). word_at w n 2) (omega arith)
    ∙ word_after a (l ++ (i ++ f)) (length l + 0) 2 ∙ word_after l (i ++ f) 0 2 ∙ word_bytes 2 d.id f r.id in
    let ef : word_at w 14 2 ≡ d.flags =
    ap (λ (n : ℕ). word_at w n 2) (omega arith)
    ∙ word_after a (l ++ (i ++ f)) (length l + (length i + 0)) 2 ∙ word_after l (i ++ f) (length i + 0) 2 ∙ word_after i f 0 2
    ∙ ap (λ (x : List ℕ). word_at x 0 2) (sym (append-nil f)) ∙ word_bytes 2 d.flags [] r.flags in
    λ j. descriptor (ea j) (el j) (ei j) (ef j)

pub encode_decode : (bs : List ℕ) → Bytes bs → length bs ≡ 16 → encode_of (decode_of bs) ≡ bs
unfolding decode_of encode_of
encode_decode bs b e =
    ap₂ ◌++◌ (bytes_word 8 bs 0 b (omega arith))
    (ap₂ ◌++◌ (bytes_word 4 bs 8 b (omega arith))
    (ap₂ ◌++◌ (bytes_word 2 bs 12 b (omega arith)) (bytes_word 2 bs 14 b (omega arith))))
    ∙ ap (λ (x : List ℕ). take 8 bs ++ (take 4 (drop 8 bs) ++ x)) (joined 2 2 12)
    ∙ ap (λ (x : List ℕ). take 8 bs ++ x) (joined 4 4 8)
    ∙ joined 8 8 0
    ∙ take_all 16 bs (omega arith)
  where
    -- a part and the part after it are one part
    joined : (n m i : ℕ) → take n (drop i bs) ++ take m (drop (i + n) bs) ≡ take (n + m) (drop i bs)
    joined n m i = ap (λ (x : List ℕ). take n (drop i bs) ++ take m x) (sym (drop-drop n i bs)) ∙ sym (take-add n m (drop i bs))

-- sixteen zeros are the descriptor of zeros
pub decode_zeros : decode_of (replicate 16 0) ≡ descriptor 0 0 0 0
unfolding decode_of word_at
decode_zeros = refl
