-- Each public contract of the crate determines what its function answers and leaves.
use Prim.Native.Nat.{ℕ}
use denote.RattleType.{RattleType}
use denote.Param.Laws.{Laws, IsCopy}
use mir.Syntax.{Dict}
use Rattle.std.specs.declared.clone.Clone.{Ghosts}
use Rattle.std.specs.declared.convert.From.{Ghosts as Froms}
use Rattle.base.specs.declared.bytes.Word.{Ghosts as Words}
use Rattle.base.specs.Determined.{Determined}
use Rattle.base.proofs.Determine.{by_equation}
use Rattle.ring.proofs.tables.fill.Reads as fill
use Rattle.ring.proofs.tables.count_up.Reads as count_up
use Rattle.ring.proofs.look.Reads as look
use Rattle.ring.proofs.write.Reads as write
use Rattle.ring.proofs.turn.Reads as turn
use Rattle.ring.proofs.arm.Reads as arm
use Rattle.ring.proofs.should_notify_evt.Reads as should_notify_evt

pub look_fixed : Determined look.Post (λ r s. r)
look_fixed = by_equation _ _ _ (λ κ a r s p. p)

pub write_fixed : Determined write.Post (λ r s. s.0.now)
write_fixed = by_equation _ _ _ (λ κ a r s p. p)

pub turn_fixed : Determined turn.Post (λ r s. s.0.now)
turn_fixed = by_equation _ _ _ (λ κ a r s p. p)

pub arm_fixed : Determined arm.Post (λ r s. s.0.now)
arm_fixed = by_equation _ _ _ (λ κ a r s p. p)

pub should_notify_evt_fixed : Determined should_notify_evt.Post (λ r s. r)
should_notify_evt_fixed = by_equation _ _ _ (λ κ a r s p. p)

-- for every type of entry
module _ (t : RattleType) (l : Laws t) (c : IsCopy t) (g : Ghosts t.Denot) (d : Dict) where
  pub fill_fixed : Determined (fill.Post t l c g d) (λ r s. s.0.now)
  fill_fixed = by_equation _ _ _ (λ κ a r s p. p)

-- for every width of the words
module _
    (t : RattleType) (l : Laws t) (c : IsCopy t) (w : Words t.Denot) (wd : Dict) (g : Ghosts t.Denot) (d : Dict) (f : Froms t.Denot ℕ)
    (fd : Dict) where
  pub count_up_fixed : Determined (count_up.Post t l c w wd g d f fd) (λ r s. s.0.now)
  count_up_fixed = by_equation _ _ _ (λ κ a r s p. p)
