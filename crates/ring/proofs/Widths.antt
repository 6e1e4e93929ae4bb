-- What `count_up` promises at each width: the word of a number is the number.
-- Assumes nothing.
use Prim.Native.Nat.{ℕ}
use mathlib.Core.Path.{◌≡◌, ap, ◌∙◌}
use lib.Seq.{sets}
use denote.Builtin.{u16, u32, u64}
use denote.Param.Laws.{Laws, IsCopy}
use mir.Syntax.{Dict}
use Rattle.std.specs.declared.clone.Clone.{Ghosts as Clones}
use Rattle.std.specs.declared.convert.From.{Ghosts as Froms}
use Rattle.std.proofs.lemmas.List.{map-id}
use Rattle.base.specs.contracts.bytes.U16Word.TheImpl as U16
use Rattle.base.specs.contracts.bytes.U32Word.TheImpl as U32
use Rattle.base.specs.contracts.bytes.U64Word.TheImpl as U64
use Rattle.ring.specs.Tables.{up_to}
use Rattle.ring.proofs.tables.count_up.Reads as count_up

module _ (wd : Dict) (g : Clones ℕ) (d : Dict) (f : Froms ℕ ℕ) (fd : Dict) where
  pub count16 :
      (l : Laws u16) (c : IsCopy u16) (κ : _) (a : _) (r : _) (s : _) → count_up.Post u16 l c U16.ghosts wd g d f fd κ a r s
      → s.0.now ≡ sets a.0.now 0 (up_to a.1.0)
  count16 l c κ a r s p = p ∙ ap (sets a.0.now 0) (map-id (up_to a.1.0))

  pub count32 :
      (l : Laws u32) (c : IsCopy u32) (κ : _) (a : _) (r : _) (s : _) → count_up.Post u32 l c U32.ghosts wd g d f fd κ a r s
      → s.0.now ≡ sets a.0.now 0 (up_to a.1.0)
  count32 l c κ a r s p = p ∙ ap (sets a.0.now 0) (map-id (up_to a.1.0))

  pub count64 :
      (l : Laws u64) (c : IsCopy u64) (κ : _) (a : _) (r : _) (s : _) → count_up.Post u64 l c U64.ghosts wd g d f fd κ a r s
      → s.0.now ≡ sets a.0.now 0 (up_to a.1.0)
  count64 l c κ a r s p = p ∙ ap (sets a.0.now 0) (map-id (up_to a.1.0))
