-- The producer's calls at values where they are not refused: what their laws ask can be met.
-- Assumes nothing.
use mathlib.Core.Path.{◌≡◌, refl}
use mathlib.Core.List.{[], ◌∷◌}
use mathlib.Core.Bool.{true}
use lib.ListN.{replicate}
use Rattle.cursor.specs.Cursor.{at}
use Rattle.desc.specs.declared.Descriptor.{Descriptor}
use Rattle.desc.specs.Flags.{is_used}
use Rattle.desc.specs.Desc.{descriptor}
use Rattle.layout.specs.Layout.{layout, apart, bad_layout, outside}
use Rattle.chain.specs.Chain.{bad_slices}
use Rattle.ring.specs.Tables.{up_to, up_from}
use Rattle.producer.specs.declared.RingProducer.{RingProducer}
use Rattle.producer.specs.Record.{bad_record, bad_lent, bytes_refusal, lent_refusal}
use Rattle.producer.specs.Submit.{submit_refusal}
use Rattle.producer.specs.Poll.{poll_refusal, next_refusal}
use Rattle.producer.specs.Notices.{since_refusal}
use Rattle.producer.specs.Fresh.{fresh_of, open_of}
use Rattle.producer.proofs.Submit.{SubmitReady, submit_ready}
use Rattle.producer.proofs.Poll.{PollReady, poll_ready}
use Rattle.producer.proofs.Opening.{OpenReady, open_ready}

-- a fresh ring of four slots over 72 bytes
unfoldable pub four : RingProducer
four = fresh_of (layout 4 0 64 68)

-- the same with one slot and one ID out, and the completion of ID 3 at the used cursor
pub out : RingProducer
out = record { layout = layout 4 0 64 68; avail = at 1 true; used = at 0 true; free = 3; height = 3; shadow = 0 }

pub found : Descriptor
found = descriptor 0 5 3 32896

pub opens : OpenReady (layout 4 0 64 68) 72 4 5
unfolding open_of bad_layout apart outside
opens = open_ready 4 0 64 68 (replicate 72 0) (replicate 4 9) (replicate 5 9) refl

pub submits : SubmitReady four 72 (up_to 4) (replicate 4 0) 2 2 1
unfolding four fresh_of submit_refusal bad_record bad_lent bad_layout apart outside bad_slices up_from
submits = submit_ready four 72 (up_to 4) (replicate 4 0) 2 2 1 refl

pub polls : PollReady out 72 found 4 (0 ∷ 0 ∷ 0 ∷ 1 ∷ [])
unfolding out found poll_refusal bad_record bad_lent bad_layout apart outside is_used
polls = poll_ready out 72 found 4 (0 ∷ 0 ∷ 0 ∷ 1 ∷ []) refl

pub record NoneRefused : Type 0 where
  pub next : next_refusal four (up_to 4) (replicate 4 0) ≡ 0
  pub bytes : bytes_refusal four 72 ≡ 0
  pub since : since_refusal four 72 (at 3 true) ≡ 0
  pub reset : lent_refusal four 72 4 4 ≡ 0

pub none_refused : NoneRefused
unfolding four fresh_of next_refusal bytes_refusal since_refusal lent_refusal bad_record bad_lent bad_layout apart outside up_from
none_refused = record { next = refl; bytes = refl; since = refl; reset = refl }
