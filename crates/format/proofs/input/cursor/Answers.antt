-- `format::input::cursor` meets its contract: a head and the wrap behind it, of the part behind the place.
use mathlib.Core.Path.{sym, ap, ap₂, ◌∙◌}
use mathlib.Core.List.{List}
use Prim.Native.Nat.{ℕ}
use lib.Dec.{eqb}
use lib.ListN.{get_or}
use lib.Seq.{get_or-drop}
use Rattle.base.specs.Part.{Slice, slice}
use Rattle.base.proofs.Words.{word_from}
use Rattle.cursor.specs.Cursor.{at}
use Rattle.format.specs.Input.{bit_at, cursor_at}
use Rattle.format.proofs.Parts.{from_elements}
use Rattle.format.proofs.input.cursor.Goals as goal

pub returns : goal.returns
unfolding bit_at cursor_at
returns c =
    let s = c.args.s.now in
    let k = c.args.k in
    let t = ap (λ (x : Slice ℕ). x.elements) c.from-t.ensures ∙ from_elements 1 k (slice c.args.s.ref_ptr s) in
    ap₂ at (c.read.ensures ∙ sym (word_from s c.from-t.result.now k 2 t))
    (c.bit.ensures ∙ ap (λ (l : List ℕ). eqb (get_or l 2 0) 1) t ∙ ap (λ (x : ℕ). eqb x 1) (get_or-drop k s 2 0))
