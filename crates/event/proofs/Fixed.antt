-- Each public contract of the crate determines what its function answers and leaves.
use Rattle.base.specs.Determined.{Determined, both}
use Rattle.base.proofs.Determine.{by_equation, by_answer}
use Rattle.base.proofs.Refusals.{seen, seen_same}
use Rattle.event.proofs.EventSuppression.new.Reads as new
use Rattle.event.proofs.EventSuppression.flags.Reads as flags
use Rattle.event.proofs.EventSuppression.set_flags.Reads as set_flags
use Rattle.event.proofs.EventSuppression.desc_event_off.Reads as desc_event_off
use Rattle.event.proofs.EventSuppression.desc_event_wrap.Reads as desc_event_wrap
use Rattle.event.proofs.EventSuppression.set_desc_event.Reads as set_desc_event
use Rattle.event.proofs.EventSuppression.encode.Reads as encode
use Rattle.event.proofs.EventSuppression.decode.Reads as decode
use Rattle.event.proofs.EventSuppression.read.Reads as read
use Rattle.event.proofs.EventSuppression.write.Reads as write
use Rattle.event.proofs.EventSuppression.clear.Reads as clear

pub new_fixed : Determined new.Post (λ r s. r)
new_fixed = by_equation _ _ _ (λ κ a r s p. p)

pub flags_fixed : Determined flags.Post (λ r s. r)
flags_fixed = by_equation _ _ _ (λ κ a r s p. p)

pub set_flags_fixed : Determined set_flags.Post (λ r s. r)
set_flags_fixed = by_equation _ _ _ (λ κ a r s p. p)

pub desc_event_off_fixed : Determined desc_event_off.Post (λ r s. r)
desc_event_off_fixed = by_equation _ _ _ (λ κ a r s p. p)

pub desc_event_wrap_fixed : Determined desc_event_wrap.Post (λ r s. r)
desc_event_wrap_fixed = by_equation _ _ _ (λ κ a r s p. p)

pub set_desc_event_fixed : Determined set_desc_event.Post (λ r s. r)
set_desc_event_fixed = by_equation _ _ _ (λ κ a r s p. p)

pub encode_fixed : Determined encode.Post (λ r s. r)
encode_fixed = by_equation _ _ _ (λ κ a r s p. p)

pub decode_fixed : Determined decode.Post (λ r s. r)
decode_fixed = by_equation _ _ _ (λ κ a r s p. p)

pub read_fixed : Determined read.Post (λ r s. r)
read_fixed = by_equation _ _ _ (λ κ a r s p. p)

pub write_fixed : Determined write.Post (λ r s. both r s.1.0.now)
write_fixed = by_answer _ _ seen seen_same _ (λ κ a r s p. p)

pub clear_fixed : Determined clear.Post (λ r s. both r s.0.now)
clear_fixed = by_answer _ _ seen seen_same _ (λ κ a r s p. p)
