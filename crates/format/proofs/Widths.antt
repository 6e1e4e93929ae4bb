-- What the generic functions promise at each width: an element takes so many bytes, and the word of a number is the number.
-- Assumes nothing.
use Prim.Native.Nat.{ℕ}
use mathlib.Core.Path.{◌≡◌, refl, ap, ◌∙◌}
use lib.Seq.{sets}
use denote.Builtin.{u8, u16, u32, u64}
use denote.Param.Laws.{Laws, IsCopy}
use mir.Syntax.{Dict}
use Rattle.std.specs.Mem.{type_size}
use Rattle.std.specs.declared.clone.Clone.{Ghosts as Clones}
use Rattle.std.specs.declared.convert.From.{Ghosts as Froms}
use Rattle.std.proofs.lemmas.List.{map-id}
use Rattle.base.specs.contracts.bytes.U16Word.TheImpl as U16
use Rattle.base.specs.contracts.bytes.U32Word.TheImpl as U32
use Rattle.base.specs.contracts.bytes.U64Word.TheImpl as U64
use Rattle.format.specs.Input.{numbers_at}
use Rattle.format.proofs.input.numbers.Reads as numbers

pub bytes_wide : type_size u8 ≡ 1
bytes_wide = refl

pub halves_wide : type_size u16 ≡ 2
halves_wide = refl

pub words_wide : type_size u32 ≡ 4
words_wide = refl

pub longs_wide : type_size u64 ≡ 8
longs_wide = refl

module _ (wd : Dict) (g : Clones ℕ) (d : Dict) (f : Froms ℕ ℕ) (fd : Dict) where
  pub halves :
      (l : Laws u16) (c : IsCopy u16) (κ : _) (a : _) (r : _) (s : _) → numbers.Post u16 l c U16.ghosts wd g d f fd κ a r s
      → s.1.1.1.1.0.now ≡ sets a.1.1.1.1.0.now 0 (numbers_at 2 a.0.now a.1.0 a.1.1.0 a.1.1.1.0)
  halves l c κ a r s p = p ∙ ap (sets a.1.1.1.1.0.now 0) (map-id (numbers_at 2 a.0.now a.1.0 a.1.1.0 a.1.1.1.0))

  pub words :
      (l : Laws u32) (c : IsCopy u32) (κ : _) (a : _) (r : _) (s : _) → numbers.Post u32 l c U32.ghosts wd g d f fd κ a r s
      → s.1.1.1.1.0.now ≡ sets a.1.1.1.1.0.now 0 (numbers_at 4 a.0.now a.1.0 a.1.1.0 a.1.1.1.0)
  words l c κ a r s p = p ∙ ap (sets a.1.1.1.1.0.now 0) (map-id (numbers_at 4 a.0.now a.1.0 a.1.1.0 a.1.1.1.0))

  pub longs :
      (l : Laws u64) (c : IsCopy u64) (κ : _) (a : _) (r : _) (s : _) → numbers.Post u64 l c U64.ghosts wd g d f fd κ a r s
      → s.1.1.1.1.0.now ≡ sets a.1.1.1.1.0.now 0 (numbers_at 8 a.0.now a.1.0 a.1.1.0 a.1.1.1.0)
  longs l c κ a r s p = p ∙ ap (sets a.1.1.1.1.0.now 0) (map-id (numbers_at 8 a.0.now a.1.0 a.1.1.0 a.1.1.1.0))
