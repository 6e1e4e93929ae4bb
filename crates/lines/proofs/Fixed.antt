-- Each public contract of the crate determines what its function answers, or which buffer it leaves the line over, where in it, and
-- what it leaves there.
use Prim.Native.Nat.{ℕ}
use denote.RattleType.{RattleType}
use denote.Param.Laws.{Laws, IsCopy}
use mir.Syntax.{Dict, w64}
use mir.Val.{Fits}
use Rattle.std.specs.declared.clone.Clone.{Ghosts as Clones}
use Rattle.std.specs.declared.convert.Into.{Ghosts as Intos}
use mathlib.Core.Path.{ap₂}
use Rattle.base.specs.Determined.{Determined, both}
use Rattle.base.proofs.Determine.{by_equation}
use Rattle.text.specs.Line.{written_in}
use Rattle.lines.specs.declared.answer.Number.{Ghosts as Numbers}
use Rattle.lines.proofs.answer.Values.of.Reads as answer_of
use Rattle.lines.proofs.answer.done.Reads as answer_done
use Rattle.lines.proofs.answer.four.Reads as answer_four
use Rattle.lines.proofs.asked.value.Reads as asked_value
use Rattle.lines.proofs.asked.cursor.Reads as asked_cursor
use Rattle.lines.proofs.output.value.Reads as output_value
use Rattle.lines.proofs.output.last.Reads as output_last
use Rattle.lines.proofs.output.start.Reads as output_start
use Rattle.lines.proofs.output.refused.Reads as output_refused
use Rattle.lines.proofs.output.answer.Reads as output_answer
use Rattle.lines.proofs.output.bad.Reads as output_bad
use Rattle.lines.proofs.output.values.Reads as output_values
use Rattle.lines.proofs.output.pairs.Reads as output_pairs

pub answer_done_fixed : Determined answer_done.Post (λ r s. r)
answer_done_fixed = by_equation _ _ _ (λ κ a r s p. p)

pub answer_four_fixed : Determined answer_four.Post (λ r s. r)
answer_four_fixed = by_equation _ _ _ (λ κ a r s p. p)

pub asked_cursor_fixed : Determined asked_cursor.Post (λ r s. r)
asked_cursor_fixed = by_equation _ _ _ (λ κ a r s p. p)

pub output_last_fixed : Determined output_last.Post (λ r s. both s.0.now.out.ghost_name (written_in s.0.now))
output_last_fixed = by_equation _ _ _ (λ κ a r s p. ap₂ both p.0 p.1)

pub output_start_fixed : Determined output_start.Post (λ r s. both s.0.now.out.ghost_name (written_in s.0.now))
output_start_fixed = by_equation _ _ _ (λ κ a r s p. ap₂ both p.0 p.1)

pub output_refused_fixed : Determined output_refused.Post (λ r s. both s.0.now.out.ghost_name (written_in s.0.now))
output_refused_fixed = by_equation _ _ _ (λ κ a r s p. ap₂ both p.0 p.1)

pub output_answer_fixed : Determined output_answer.Post (λ r s. both s.0.now.out.ghost_name (written_in s.0.now))
output_answer_fixed = by_equation _ _ _ (λ κ a r s p. ap₂ both p.0 p.1)

pub output_bad_fixed : Determined output_bad.Post (λ r s. both s.0.now.out.ghost_name (written_in s.0.now))
output_bad_fixed = by_equation _ _ _ (λ κ a r s p. ap₂ both p.0 p.1)

pub output_pairs_fixed : Determined output_pairs.Post (λ r s. both s.0.now.out.ghost_name (written_in s.0.now))
output_pairs_fixed = by_equation _ _ _ (λ κ a r s p. ap₂ both p.0 p.1)

-- for every number of values
pub answer_of_fixed : (n : ℕ) (h : Fits w64 n) → Determined (answer_of.Post n h) (λ r s. r)
answer_of_fixed n h = by_equation _ _ _ (λ κ a r s p. p)

-- for every type of what a line has as a number
module _
    (t : RattleType) (l : Laws t) (c : IsCopy t) (n : Numbers t.Denot) (nd : Dict) (g : Clones t.Denot) (d : Dict) (i : Intos t.Denot ℕ)
    (id : Dict) where
  pub asked_value_fixed : Determined (asked_value.Post t l c n nd g d i id) (λ r s. r)
  asked_value_fixed = by_equation _ _ _ (λ κ a r s p. p)

  pub output_value_fixed : Determined (output_value.Post t l c n nd g d i id) (λ r s. both s.0.now.out.ghost_name (written_in s.0.now))
  output_value_fixed = by_equation _ _ _ (λ κ a r s p. ap₂ both p.0 p.1)

  pub output_values_fixed : Determined (output_values.Post t l c n nd g d i id) (λ r s. both s.0.now.out.ghost_name (written_in s.0.now))
  output_values_fixed = by_equation _ _ _ (λ κ a r s p. ap₂ both p.0 p.1)
