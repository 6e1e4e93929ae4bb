-- One call of a public function, of which is known only that it meets the function's GENERATED contract. (That every call returns, with a result and
-- exit that meet it, is what the prover proves of each function: none of them asks anything of its caller.)
use Rattle.std.specs.Prelude.{ℕ, List}
use Rattle.queue.specs.History.{Chain}

-- its arguments when it was called, its result, its arguments when it returned, and that these meet the contract (`Post` is what the prover made
-- of the function's `ensures`; K, D, R and S are the types of its lifetimes, arguments, result and arguments at exit)
pub record Meets {K D R S : Type 0} (Post : K → D → R → S → Type 0) : Type 0 where
  pub lifetimes : K
  pub entry : D
  pub result : R
  pub exit : S
  pub meets : Post lifetimes entry result exit

-- the arguments by their places
abbrev pub first : {A B : Type 0} → A × B → A
first a = a.0

abbrev pub second : {A B C : Type 0} → A × (B × C) → B
second a = a.1.0

abbrev pub third : {A B C D : Type 0} → A × (B × (C × D)) → C
third a = a.1.1.0

abbrev pub fourth : {A B C D E : Type 0} → A × (B × (C × (D × E))) → D
fourth a = a.1.1.1.0

abbrev pub fifth : {A B C D E F : Type 0} → A × (B × (C × (D × (E × F)))) → E
fifth a = a.1.1.1.1.0

abbrev pub sixth : {A B C D E F G : Type 0} → A × (B × (C × (D × (E × (F × G))))) → F
sixth a = a.1.1.1.1.1.0

abbrev pub seventh : {A B C D E F G H : Type 0} → A × (B × (C × (D × (E × (F × (G × H)))))) → G
seventh a = a.1.1.1.1.1.1.0

-- a chain out of its two slices and its readable count
abbrev pub chain_of : List ℕ → List ℕ → ℕ → Chain
chain_of addrs lens readable = record { addrs = addrs; lens = lens; readable = readable }
