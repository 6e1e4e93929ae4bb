-- The device asks to be notified in the device's event area, and decides by the driver's whether to notify (VIRTIO 1.1, 2.7.10). Said of the
-- definitions that the consumer's contracts cite, refusals too.
-- Assumes nothing.
use Prim.Native.Nat.{ℕ}
use mathlib.Core.Path.{◌≡◌, sym, ◌∙◌, ap}
use mathlib.Core.Logic.{inl, inr, ⊎_elim}
use mathlib.Core.List.{List, [], ◌∷◌}
use mathlib.Core.Bool.{Bool}
use native.Mathlib.Omega.{arith}
use lib.ListN.{length, get_or, set}
use borrow.Author.Tests.{ne_eqb}
use Rattle.base.specs.Answer.{Answer, done, refused, bit}
use Rattle.base.specs.Bytes.{get_of}
use Rattle.cursor.specs.declared.RingCursor.{RingCursor}
use Rattle.cursor.specs.Cursor.{steps}
use Rattle.ring.specs.Events.{told}
use Rattle.ring.proofs.Frames.{told_by_bytes}
use Rattle.virtio.specs.Suppression.{WritesOnly, ReadsOnly, Suppression}
use Rattle.consumer.specs.declared.RingConsumer.{RingConsumer}
use Rattle.consumer.specs.Outcome as taken
use Rattle.consumer.specs.Complete as consumer
use Rattle.consumer.proofs.Complete.{complete_ready, complete_refused, complete_done}
use Rattle.consumer.proofs.Goes as takes
use Rattle.consumer.proofs.Touch as avail_touch
use Rattle.document.specs.Document.{Request, device_asks, Completion, device_notifies}
use Rattle.document.proofs.Areas.{writes_only, reads_only, not_told}

module _ (p : RingConsumer) where
  abbrev driver : ℕ
  driver = p.layout.driver

  abbrev device : ℕ
  device = p.layout.device

  abbrev size : ℕ
  size = p.layout.size

  device_writes : (n : Request) (bytes : List ℕ) → WritesOnly device bytes (device_asks p n bytes)
  device_writes (inl flags) bytes = writes_only device bytes _ (avail_touch.turn_alone p bytes flags)
  device_writes (inr slot) bytes = writes_only device bytes _ (avail_touch.arm_alone p bytes slot.0 slot.1)

  module _ (c : Completion) where
    abbrev n : ℕ
    n = get_or c.counts c.id 0

    abbrev no : ℕ → ℕ
    no k = consumer.complete_refusal p k c.id c.counts

    abbrev completed : List ℕ → taken.Outcome
    completed l = consumer.complete_of p l c.counts c.id c.len

    abbrev past : RingCursor
    past = steps size n p.used

    abbrev good : List ℕ → Answer
    good l = done (bit (told driver size p.used past l) ∷ [])

    accepted : (l : List ℕ) → no (length l) ≡ 0 → device_notifies p c l ≡ good l
    accepted l z =
        let r = complete_ready p (length l) c.id c.counts z in
        let d = complete_done p l c.counts c.id c.len z in
        let after = consumer.used_put p c.id c.len l in
        takes.tell_answer_lem p.used (completed l)
        ∙ ap (takes.tell_answer p.used)
        (d ∙ (λ i. taken.outcome (done []) (takes.completed_is p n i) after (set c.counts c.id 0)))
        ∙ ap (λ (b : Bool). done (bit b ∷ []))
        (told_by_bytes driver size p.used past after l
        (ap (λ (o : taken.Outcome). get_of o.ring driver 4) (sym d)
        ∙ avail_touch.complete_clear p l c.counts c.id c.len z driver 4
        (⊎_elim (λ h. inl (omega (arith, r.sound.used))) (λ h. inr (omega arith)) r.sound.laid.table_driver)))

    refusal : (l : List ℕ) → (no (length l) ≡ 0 → ⊥) → device_notifies p c l ≡ refused (no (length l))
    refusal l z =
        takes.tell_answer_lem p.used (completed l)
        ∙ ap (takes.tell_answer p.used) (complete_refused p l c.counts c.id c.len z)
        ∙ not_told _ _ _ (ne_eqb (no (length l)) 0 z)

    complete_reads : ReadsOnly driver (device_notifies p c)
    complete_reads =
        reads_only no driver (device_notifies p c) good accepted refusal
        (λ l m e. ap (λ (b : Bool). done (bit b ∷ [])) (told_by_bytes driver size p.used past l m e))

  pub device_suppression : Suppression device driver (device_asks p) (device_notifies p)
  device_suppression = record { writes = device_writes; reads = complete_reads }
