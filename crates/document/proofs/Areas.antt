-- Event areas byte by byte: a call that touches its own alone, and one whose answer rests on the other's alone (VIRTIO 1.1, 2.7.10).
-- Assumes nothing.
use Prim.Native.Nat.{ℕ, ◌+◌, ◌≤◌, ◌<◌}
use mathlib.Core.Path.{◌≡◌, sym, ◌∙◌, ap}
use mathlib.Core.Logic.{◌⊎◌, inl, inr, ⊎_elim}
use mathlib.Core.List.{List}
use mathlib.Core.Bool.{Bool, false, cond}
use native.Mathlib.Omega.{arith}
use native.Mathlib.Nat.{add-zero}
use lib.ListN.{length, get_or, take, drop, get_or-eq_default}
use lib.Seq.{ext_get_or}
use Rattle.base.specs.Answer.{Answer, refused}
use Rattle.base.specs.Bytes.{get_of}
use Rattle.base.proofs.Tests.{by_lt, by_eq}
use Rattle.base.proofs.Runs.{get_fits, get_short, part_length, part_at}
use Rattle.ring.proofs.Frames.{Clear, EventAlone}
use Rattle.virtio.specs.Suppression.{WritesOnly, ReadsOnly}

-- ---- bytes one by one, and in fours

byte_of : (l : List ℕ) (k : ℕ) → get_or (get_of l k 1) 0 0 ≡ get_or l k 0
byte_of l k =
    by_lt (length l) (k + 1)
    (λ h. ap (λ (x : List ℕ). get_or x 0 0) (get_short l k 1 h) ∙ sym (get_or-eq_default l 0 {n = k} (omega arith)))
    (λ h.
    ap (λ (x : List ℕ). get_or x 0 0) (get_fits l k 1 h) ∙ part_at l k 1 0 (omega arith) ∙ ap (λ (j : ℕ). get_or l j 0) (add-zero k))

area_of :
    (l m : List ℕ) (at : ℕ) → length l ≡ length m → ((k : ℕ) → k < 4 → get_or l (at + k) 0 ≡ get_or m (at + k) 0) → get_of l at 4 ≡ get_of m at 4
area_of l m at e h =
    by_lt (length l) (at + 4)
    (λ q. get_short l at 4 q ∙ sym (get_short m at 4 (omega arith)))
    (λ q.
    let n = part_length l at 4 q in
    let r : at + 4 ≤ length m = omega arith in
    get_fits l at 4 q
    ∙ ext_get_or 0 (take 4 (drop at l)) (take 4 (drop at m)) (n ∙ sym (part_length m at 4 r))
    (λ k g.
    let s : k < 4 = omega (arith, n) in
    part_at l at 4 k s ∙ h k s ∙ sym (part_at m at 4 k s))
    ∙ sym (get_fits m at 4 r))

pub writes_only : (at : ℕ) (ring bytes : List ℕ) → EventAlone at ring bytes → WritesOnly at ring bytes
writes_only at ring bytes a =
    record {
      same_length = a.same_length;
      elsewhere = λ k o.
          sym (byte_of bytes k) ∙ ap (λ (x : List ℕ). get_or x 0 0) (a.clear k 1 (apart k o)) ∙ byte_of ring k;
    }
  where
    apart : (k : ℕ) → (k < at) ⊎ (at + 4 ≤ k) → Clear at 4 k 1
    apart k o = ⊎_elim (λ h. inr (omega arith)) (λ h. inl h) o

-- a call that is refused by how many bytes there are, and else answers by an area
pub reads_only :
    (number : ℕ → ℕ) (at : ℕ) (answer good : List ℕ → Answer)
    → ((l : List ℕ) → number (length l) ≡ 0 → answer l ≡ good l)
    → ((l : List ℕ) → (number (length l) ≡ 0 → ⊥) → answer l ≡ refused (number (length l)))
    → ((l m : List ℕ) → get_of l at 4 ≡ get_of m at 4 → good l ≡ good m)
    → ReadsOnly at answer
reads_only number at answer good accepted refusal same l m e h =
    by_eq (number (length l)) 0
    (λ z. accepted l z ∙ same l m (area_of l m at e h) ∙ sym (accepted m (ap number (sym e) ∙ z)))
    (λ z. refusal l z ∙ ap (λ (n : ℕ). refused (number n)) e ∙ sym (refusal m (λ y. z (ap number e ∙ y))))

pub not_told : (b : Bool) (x y : Answer) → b ≡ false → cond b x y ≡ y
not_told b x y e = ap (λ (c : Bool). cond c x y) e
