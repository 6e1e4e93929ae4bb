-- The reading back at values: a chain of two submitted to a fresh ring of four slots stands in it, and the poll hands it out.
-- Assumes nothing.
use Prim.Native.Nat.{ℕ, zero, suc, ◌^◌, ◌<◌}
use mathlib.Core.Path.{◌≡◌, refl}
use mathlib.Core.List.{List, [], ◌∷◌}
use native.Mathlib.Omega.{arith}
use lib.ListN.{get_or, set, replicate}
use lib.Seq.{sets}
use Rattle.base.specs.Answer.{done}
use Rattle.cursor.specs.Cursor.{fresh, steps}
use Rattle.layout.specs.Layout.{layout, apart, bad_layout, outside}
use Rattle.chain.specs.Chain.{bad_slices}
use Rattle.ring.specs.Tables.{up_to, up_from}
use Rattle.producer.specs.declared.RingProducer.{RingProducer}
use Rattle.producer.specs.Record as made
use Rattle.producer.specs.Submit.{submit_refusal, submit_of}
use Rattle.producer.specs.Fresh as opened
use Rattle.producer.proofs.Touch.{submit_length}
use Rattle.consumer.specs.declared.RingConsumer.{RingConsumer}
use Rattle.consumer.specs.Record.{bad_record, bad_lent}
use Rattle.consumer.specs.Poll.{taken, past_of, poll_of}
use Rattle.consumer.specs.Fresh.{fresh_of}
use Rattle.back.proofs.Back.{Stands, written, legible, poll_accepted, poll_back}

pub four : RingProducer
four = opened.fresh_of (layout 4 0 64 68)

pub reader : RingConsumer
reader = fresh_of (layout 4 0 64 68)

unfoldable pub zeros : List ℕ
zeros = replicate 72 0

unfoldable pub none : List ℕ
none = replicate 4 0

unfoldable pub addrs : List ℕ
addrs = 4096 ∷ 8192 ∷ []

unfoldable pub lens : List ℕ
lens = 16 ∷ 32 ∷ []

pub low_addrs : (i : ℕ) → get_or addrs i 0 < 256 ^ 8
unfolding addrs
low_addrs zero = omega arith
low_addrs (suc zero) = omega arith
low_addrs (suc (suc i)) = omega arith

pub low_lens : (i : ℕ) → get_or lens i 0 < 256 ^ 4
unfolding lens
low_lens zero = omega arith
low_lens (suc zero) = omega arith
low_lens (suc (suc i)) = omega arith

accepted : submit_refusal four 72 (up_to 4) none 2 2 1 ≡ 0
unfolding four none opened.fresh_of submit_refusal made.bad_record made.bad_lent bad_layout apart outside bad_slices up_from
accepted = refl

pub bytes : List ℕ
bytes = (submit_of four zeros (up_to 4) none addrs lens 1).ring

pub stands : Stands (layout 4 0 64 68) bytes fresh 3 addrs lens 1
unfolding four zeros none addrs lens bytes opened.fresh_of up_from
stands = written four zeros (up_to 4) none addrs lens 1 accepted low_addrs low_lens

pub handed_out :
    poll_of reader bytes none none none
    ≡ taken (done (3 ∷ 2 ∷ 1 ∷ [])) (past_of reader (steps 4 2 fresh) 2) (set none 3 2) (sets none 0 addrs) (sets none 0 lens)
unfolding four zeros none addrs lens bytes reader fresh_of opened.fresh_of up_from bad_record bad_lent bad_layout apart outside
handed_out =
    let s = legible (layout 4 0 64 68) bytes fresh 3 addrs lens 1 stands in
    poll_back reader bytes 3 addrs lens 1 s none none none
    (poll_accepted reader bytes 3 addrs lens 1 s none none none
    refl (rw (submit_length four zeros (up_to 4) none addrs lens 1 accepted) refl) (omega arith) (omega arith) (omega arith) refl (omega arith))
