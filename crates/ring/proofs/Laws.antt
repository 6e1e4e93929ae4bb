-- Slots and event areas: a place that is no number of 64 bits is outside any slice, and what lies apart stays.
-- Assumes nothing.
use Prim.Native.Nat.{ℕ, zero, suc, ◌+◌, ◌^◌, ◌<◌}
use mathlib.Core.Path.{◌≡◌, refl, sym, ◌∙◌, ap}
use mathlib.Core.List.{List, [], ◌∷◌}
use mathlib.Core.Bool.{cond}
use native.Mathlib.Omega.{arith}
use lib.Dec.{leb}
use lib.ListN.{length, get_or}
use borrow.Author.Tests.{le-leb, lt-leb, eq-eqb, ne_eqb}
use Rattle.base.specs.Bytes.{put_of, get_of}
use Rattle.base.proofs.Tests.{by_lt}
use Rattle.base.proofs.Runs.{put_short, get_short}
use Rattle.event.specs.Event.{set_flags}
use Rattle.ring.specs.Events.{event_at, event_put, turned}
use Rattle.ring.specs.Tables.{up_from}

-- a place as the code has it
abbrev pub clamped : ℕ → ℕ
clamped at = cond (leb at 18446744073709551615) at 18446744073709551615

pub clamped_get : (l : List ℕ) (at n : ℕ) → length l < 2 ^ 64 → 0 < n → get_of l (clamped at) n ≡ get_of l at n
clamped_get l at n h z =
    by_lt 18446744073709551615 at
    (λ p. ap (λ (i : ℕ). get_of l i n) (rw (lt-leb at 18446744073709551615 p))
    ∙ get_short l 18446744073709551615 n (omega arith) ∙ sym (get_short l at n (omega arith)))
    (λ p. ap (λ (i : ℕ). get_of l i n) (rw (le-leb at 18446744073709551615 p)))

pub clamped_put : (l : List ℕ) (at : ℕ) (bs : List ℕ) → length l < 2 ^ 64 → 0 < length bs → put_of l (clamped at) bs ≡ put_of l at bs
clamped_put l at bs h z =
    by_lt 18446744073709551615 at
    (λ p. ap (λ (i : ℕ). put_of l i bs) (rw (lt-leb at 18446744073709551615 p))
    ∙ put_short l 18446744073709551615 bs (omega arith) ∙ sym (put_short l at bs (omega arith)))
    (λ p. ap (λ (i : ℕ). put_of l i bs) (rw (le-leb at 18446744073709551615 p)))

-- ---- an event area turned: nothing is written where the shadow already says so

module _ (at shadow flags : ℕ) (ring : List ℕ) where
  pub turned_kept : shadow ≡ flags → turned at shadow flags ring ≡ ring
  unfolding turned
  turned_kept e = simp (eq-eqb shadow flags e)

  pub turned_put : (shadow ≡ flags → ⊥) → turned at shadow flags ring ≡ event_put at (set_flags (event_at at ring) flags) ring
  unfolding turned
  turned_put e = simp (ne_eqb shadow flags e)

-- ---- the lent tables

pub up_none : (i : ℕ) → up_from i zero ≡ []
unfolding up_from
up_none i = refl

pub up_more : (i k : ℕ) → up_from i (suc k) ≡ i ∷ up_from (suc i) k
unfolding up_from
up_more i k = refl

pub up_length : (i k : ℕ) → length (up_from i k) ≡ k
unfolding up_from
up_length i zero = refl
up_length i (suc k) = ap suc (up_length (suc i) k)

pub up_at : (i k j : ℕ) → j < k → get_or (up_from i k) j 0 ≡ i + j
unfolding up_from
up_at i zero j h = absurd (omega arith)
up_at i (suc k) zero h = omega arith
up_at i (suc k) (suc j) h = up_at (suc i) k j (omega arith) ∙ omega arith
