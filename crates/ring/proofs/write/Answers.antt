-- `ring::write` meets its contract: the slot at the place, which is outside the bytes where it was cut.
-- Assumes nothing.
use native.Mathlib.Omega.{arith}
use Prim.Native.Nat.{ℕ, ◌+◌, ◌*◌}
use mathlib.Core.Path.{ap, ap₂, ◌∙◌}
use mathlib.Core.List.{List}
use Rattle.base.specs.Answer.{Outcome}
use Rattle.base.specs.Bytes.{put_of}
use Rattle.desc.specs.Desc.{encode_of}
use Rattle.desc.proofs.Trips.{encode_length}
use Rattle.ring.specs.Slots.{slot_put}
use Rattle.ring.proofs.Laws.{clamped_put}
use Rattle.ring.proofs.write.Goals as goal

pub returns : goal.returns
unfolding slot_put
returns c =
    let a = c.args in
    ap (λ (o : Outcome). o.bytes)
    (c.store.ensures
    ∙ ap₂ (λ (i : ℕ) (b : List ℕ). put_of a.ring.now i b) c.place-at.ensures c.encode.ensures
    ∙ clamped_put a.ring.now (a.table + a.c.head * 16) (encode_of a.d)
    c.well_formed.0.0 (omega (arith, encode_length a.d)))
