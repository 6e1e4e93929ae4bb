-- The lent tables, filled (document 01, "What each end does": "counts 0, the producer's stack 0 upward").
use Rattle.std.specs.Prelude.{ℕ, zero, suc, List, [], ◌∷◌}

-- k numbers from i upward
unfoldable pub up_from : ℕ → ℕ → List ℕ
up_from i zero = []
up_from i (suc k) = i ∷ up_from (suc i) k

-- 0 upward, n of them
abbrev pub up_to : ℕ → List ℕ
up_to n = up_from 0 n
