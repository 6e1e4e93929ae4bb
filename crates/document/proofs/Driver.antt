-- The driver asks to be notified in the driver's event area, and decides by the device's whether to notify (VIRTIO 1.1, 2.7.10). Said of the
-- definitions that the producer's contracts cite, refusals too.
-- Assumes nothing.
use Prim.Native.Nat.{ℕ}
use mathlib.Core.Path.{◌≡◌, sym, ◌∙◌, ap}
use mathlib.Core.Logic.{◌⊎◌, inl, inr}
use mathlib.Core.List.{List, [], ◌∷◌}
use mathlib.Core.Bool.{Bool}
use lib.ListN.{length, set}
use borrow.Author.Tests.{ne_eqb}
use Rattle.base.specs.Answer.{Answer, done, refused, bit}
use Rattle.base.specs.Bytes.{get_of}
use Rattle.cursor.specs.declared.RingCursor.{RingCursor}
use Rattle.cursor.specs.Cursor.{steps}
use Rattle.ring.specs.Events.{told}
use Rattle.ring.proofs.Frames.{told_by_bytes}
use Rattle.virtio.specs.Suppression.{WritesOnly, ReadsOnly, Suppression}
use Rattle.producer.specs.declared.RingProducer.{RingProducer}
use Rattle.producer.specs.Outcome as made
use Rattle.producer.specs.Submit.{top_of, submit_refusal, element_of, put_chain, submit_of}
use Rattle.producer.specs.Notices as used
use Rattle.producer.proofs.Submit.{submit_ready, submit_refused, submit_done}
use Rattle.producer.proofs.Notices.{since_refused, since_done}
use Rattle.producer.proofs.Goes as makes
use Rattle.producer.proofs.Frame.{chain_past}
use Rattle.producer.proofs.Touch as used_touch
use Rattle.document.specs.Document.{Request, driver_asks, Submission, driver_notifies}
use Rattle.document.proofs.Areas.{writes_only, reads_only, not_told}

module _ (p : RingProducer) where
  abbrev driver : ℕ
  driver = p.layout.driver

  abbrev device : ℕ
  device = p.layout.device

  abbrev size : ℕ
  size = p.layout.size

  driver_writes : (n : Request) (bytes : List ℕ) → WritesOnly driver bytes (driver_asks p n bytes)
  driver_writes (inl flags) bytes = writes_only driver bytes _ (used_touch.turn_alone p bytes flags)
  driver_writes (inr slot) bytes = writes_only driver bytes _ (used_touch.arm_alone p bytes slot.0 slot.1)

  since_reads : (old : RingCursor) → ReadsOnly device (driver_notifies p (inl old))
  since_reads old =
      reads_only (λ n. used.since_refusal p n old) device (driver_notifies p (inl old))
      (λ l. done (bit (told device size old p.avail l) ∷ []))
      (λ l z. since_done p l old z)
      (λ l z. since_refused p l old z)
      (λ l m e. ap (λ (b : Bool). done (bit b ∷ [])) (told_by_bytes device size old p.avail l m e))

  module _ (s : Submission) where
    abbrev n : ℕ
    n = length s.addrs

    abbrev id : ℕ
    id = top_of p s.ids

    abbrev no : ℕ → ℕ
    no k = submit_refusal p k s.ids s.counts n (length s.lens) s.readable

    abbrev submitted : List ℕ → made.Outcome
    submitted l = submit_of p l s.ids s.counts s.addrs s.lens s.readable

    abbrev past : RingCursor
    past = steps size n p.avail

    abbrev good : List ℕ → Answer
    good l = done (id ∷ bit (told device size p.avail past l) ∷ [])

    accepted : (l : List ℕ) → no (length l) ≡ 0 → driver_notifies p (inr s) l ≡ good l
    accepted l z =
        let r = submit_ready p (length l) s.ids s.counts n (length s.lens) s.readable z in
        let f = element_of id s.addrs s.lens s.readable in
        let w = put_chain p.layout f n p.avail l in
        let c = chain_past p.layout f n p.avail l r.elements in
        makes.tell_answer_lem p.avail (submitted l)
        ∙ ap (makes.tell_answer p.avail)
        (submit_done p l s.ids s.counts s.addrs s.lens s.readable z
        ∙ makes.submitted_is p s.ids s.counts n id w
        ∙ (λ i. made.outcome (done (id ∷ [])) (makes.taken_is p w.past n i) w.bytes s.ids (set s.counts id n)))
        ∙ ap (λ (x : RingCursor). done (id ∷ bit (told device size p.avail x w.bytes) ∷ [])) c
        ∙ ap (λ (b : Bool). done (id ∷ bit b ∷ []))
        (told_by_bytes device size p.avail past w.bytes l
        (ap (λ (x : List ℕ). get_of x device 4) (sym (used_touch.submit_ring p l s.ids s.counts s.addrs s.lens s.readable z))
        ∙ used_touch.submit_clear p l s.ids s.counts s.addrs s.lens s.readable z device 4 r.sound.laid.table_device))

    refusal : (l : List ℕ) → (no (length l) ≡ 0 → ⊥) → driver_notifies p (inr s) l ≡ refused (no (length l))
    refusal l z =
        makes.tell_answer_lem p.avail (submitted l)
        ∙ ap (makes.tell_answer p.avail) (submit_refused p l s.ids s.counts s.addrs s.lens s.readable z)
        ∙ not_told _ _ _ (ne_eqb (no (length l)) 0 z)

    submit_reads : ReadsOnly device (driver_notifies p (inr s))
    submit_reads =
        reads_only no device (driver_notifies p (inr s)) good accepted refusal
        (λ l m e. ap (λ (b : Bool). done (id ∷ bit b ∷ [])) (told_by_bytes device size p.avail past l m e))

  driver_reads : (d : RingCursor ⊎ Submission) → ReadsOnly device (driver_notifies p d)
  driver_reads (inl old) = since_reads old
  driver_reads (inr s) = submit_reads s

  pub driver_suppression : Suppression driver device (driver_asks p) (driver_notifies p)
  driver_suppression = record { writes = driver_writes; reads = driver_reads }
