-- What it is that a contract determines (document 01, "What nobody may get away with"): any two outcomes that it allows
-- agree in what `see` takes off them.
use Rattle.std.specs.Prelude.{◌≡◌}

-- for all the same arguments (D, under lifetimes K), two results (R) with what stands behind the parameters at exit (S) that the
-- contract P allows: what is seen of them is the same
abbrev pub Determined : {K D R S O : Type 0} → (K → D → R → S → Type 0) → (R → S → O) → Type 0
Determined {K} {D} {R} {S} P see =
    (κ : K) (a : D) (r r' : R) (s s' : S) → P κ a r s → P κ a r' s' → see r s ≡ see r' s'

-- what is seen of a call that leaves something: its result, and what it leaves
abbrev pub both : {A B : Type 0} → A → B → A × B
both a b = (a, b)
