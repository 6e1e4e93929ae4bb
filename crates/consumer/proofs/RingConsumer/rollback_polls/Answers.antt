-- `consumer::RingConsumer::rollback_polls` meets its contract: each exit by what was handed in, then by the list, then by the checkpoint.
-- Assumes nothing.
use native.Mathlib.Omega.{arith}
use Prim.Native.Nat.{ℕ}
use mathlib.Core.Path.{◌≡◌, sym, ap, ap₂, ◌∙◌}
use mathlib.Core.List.{List, []}
use lib.ListN.{length}
use Rattle.base.specs.Refusals.{number_of}
use Rattle.base.specs.Answer.{done, refused}
use Rattle.cursor.proofs.Ready.{ready_not_bad}
use Rattle.undo.specs.Undo as undo
use Rattle.undo.specs.Undo.{sum_of, cleared_of}
use Rattle.consumer.specs.declared.RingConsumer.{RingConsumer}
use Rattle.consumer.specs.Outcome.{rolled}
use Rattle.consumer.proofs.Ready.{by_error}
use Rattle.consumer.proofs.Rollback.{HandedReady, handed_ready, rollback_stopped, rollback_refused, rollback_done, sum_stops, sum_goes, is_stale, is_current}
use Rattle.consumer.proofs.RingConsumer.rollback_polls.Goals as goal
use Rattle.consumer.proofs.RingConsumer.rollback_polls.Goals.{After-sum, In_default}

-- what was handed in is good
is-handed : (c : In_default) → let a = c.args in HandedReady a.self a.cp (length a.counts.now)
is-handed c =
    let a = c.args in
    (handed_ready a.self a.cp (length a.counts.now) 0 (sym c.in_default.ensures)).0

-- the sum's answer, and that the counts are as they were
is_sum : (c : After-sum) → let a = c.args in
    undo.answer_of c.sum.result ≡ sum_of a.self.layout.size a.self.inflight a.counts.now a.ids.now
is_sum c = ap (λ (o : undo.Outcome). o.answer) c.sum.ensures

as_before : (c : After-sum) → c.sum.new.counts ≡ c.args.counts.now
as_before c = ap (λ (o : undo.Outcome). o.counts) c.sum.ensures

pub returns-in-Err : goal.returns-in-Err
returns-in-Err c =
    let a = c.args in
    by_error (λ (x : ℕ). rolled (refused x) a.self a.counts.now) _ c.in-Err.e _ c.in-Err.ensures
    (rollback_stopped a.self a.counts.now a.cp a.ids.now)

pub returns-in_default-sum : goal.returns-in_default-sum
returns-in_default-sum c =
    let a = c.args in
    let before = (goal.at.returns-in_default-sum c).After-sum in
    ap (λ (l : List ℕ). rolled (refused 9) a.self l) (as_before before)
    ∙ sym (rollback_refused a.self a.counts.now a.cp a.ids.now (sym c.in_default.ensures)
    (sum_stops a.self a.counts.now a.cp a.ids.now (is-handed (goal.at.returns-in_default-sum c).In_default)
    (number_of c.in_default-sum.field-0) (sym (ap undo.answer_of c.in_default-sum.is) ∙ is_sum before)))

pub stale-requires : goal.stale-requires
stale-requires c =
    let a = c.args in
    let h = is-handed (goal.at.stale-requires c).In_default in
    let l = h.sound.laid in
    let n = sum_goes a.self a.counts.now a.cp a.ids.now h c.in-Ok.n (sym (ap undo.answer_of c.in-Ok.is) ∙ is_sum (goal.at.stale-requires c).After-sum) in
    ready_not_bad a.self.layout.size c.in-Ok.n a.cp.avail
    (record { low = l.low; high = l.high; head = h.avail; move = omega (arith, n.1.0, n.1.1, h.sound.inflight) })

pub returns-then-stale : goal.returns-then-stale
returns-then-stale c =
    let a = c.args in
    let before = (goal.at.returns-then-stale c).After-sum in
    let h = is-handed (goal.at.returns-then-stale c).In_default in
    let n = sum_goes a.self a.counts.now a.cp a.ids.now h c.in-Ok.n (sym (ap undo.answer_of c.in-Ok.is) ∙ is_sum before) in
    ap (λ (l : List ℕ). rolled (refused 9) a.self l) (as_before before)
    ∙ sym (rollback_refused a.self a.counts.now a.cp a.ids.now (sym c.in_default.ensures)
    (is_stale a.self a.counts.now a.cp a.ids.now c.in-Ok.n n.1.0 (sym c.stale.ensures ∙ c.if-stale.true)))

pub returns : goal.returns
returns c =
    let a = c.args in
    let before = (goal.at.returns c).After-sum in
    let h = is-handed (goal.at.returns c).In_default in
    let n = sum_goes a.self a.counts.now a.cp a.ids.now h c.in-Ok.n (sym (ap undo.answer_of c.in-Ok.is) ∙ is_sum before) in
    ap₂ (λ (q : RingConsumer) (l : List ℕ). rolled (done []) q l) c.back.ensures
    (c.clear.ensures ∙ ap (λ (l : List ℕ). cleared_of l a.ids.now) (as_before before))
    ∙ sym (rollback_done a.self a.counts.now a.cp a.ids.now (sym c.in_default.ensures)
    (is_current a.self a.counts.now a.cp a.ids.now c.in-Ok.n n.1.0 n.0 (sym c.stale.ensures ∙ c.if-stale.false)))
