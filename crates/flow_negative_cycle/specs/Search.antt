-- What the search ends with: a residual cycle of cost below 0, or none.
use Rattle.std.specs.Prelude.{◌≡◌, true, List, ℕ, ◌≤◌, ◌<◌, length, get_or, take, drop, ℤ, pos, ◌≤ℤ◌, ◌<ℤ◌, Option, Some, None}
use Rattle.laws.specs.Members.{Every}
use Rattle.laws.specs.Range.{Bounded}
use Rattle.net_model.specs.Network.{Net}
use Rattle.net_model.specs.Residual.{walk_cost, Cycle}
use Rattle.net_model.specs.Potential.{FeasiblePotential}
use Rattle.net_theory.specs.ResidualCapacity.{has_capacity}

-- labels of 64 nodes, from −10¹² to 0, are a feasible potential of the residual arcs with capacity for δ: no negative cycle has capacity for δ
pub record PotentialLabels (N : Net) (f : List ℕ) (δ : ℕ) (d : List ℤ) : Type 0 where
  pub len : length d ≡ 64
  pub low : (v : ℕ) → get_or d v (pos 0) ≤ℤ pos 0
  pub feasible : FeasiblePotential N (has_capacity N f δ) (λ v. get_or d v (pos 0))
  pub small : (v : ℕ) → v < 64 → Bounded 1000000000000 (get_or d v (pos 0))

-- a residual cycle of cost below 0, each of its arcs with capacity for δ
pub record NegativeCycle (N : Net) (f : List ℕ) (δ : ℕ) (cs : List ℕ) : Type 0 where
  pub cycle : Cycle N f cs
  pub capacity : Every (λ c. has_capacity N f δ c ≡ true) cs
  pub negative : walk_cost N cs <ℤ pos 0

-- "the word that there is none": no residual cycle of cost below 0 has capacity for δ
abbrev pub NoNegativeCycle : Net → List ℕ → ℕ → Type 0
NoNegativeCycle N f δ = (cs : List ℕ) → ¬ NegativeCycle N f δ cs

-- "The search for a negative cycle ends with one such cycle, or with the word that there is none.": the count of a negative cycle's codes, which
-- the lent list begins with; or none, the lent list as it was, and labels d that show it
pub data FindsCycle (N : Net) (f : List ℕ) (δ : ℕ) (d : List ℤ) (out out' : List ℕ) (r : Option ℕ) : Type 0 where
  found : (n : ℕ) → r ≡ Some n → n ≤ 64 → NegativeCycle N f δ (take n out') → drop n out' ≡ drop n out → FindsCycle N f δ d out out' r
  none : r ≡ None → NoNegativeCycle N f δ → PotentialLabels N f δ d → out' ≡ out → FindsCycle N f δ d out out' r
