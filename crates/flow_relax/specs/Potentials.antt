-- Where no negative cycle has capacity for a given amount.
use Rattle.std.specs.Prelude.{List, ℕ, ℤ}
use Rattle.net_model.specs.Network.{Net}
use Rattle.net_model.specs.Potential.{FeasiblePotential}
use Rattle.net_theory.specs.ResidualCapacity.{has_capacity}

-- the residual arcs with capacity for δ have a feasible potential: no negative cycle has capacity for δ
pub record HasPotential (N : Net) (f : List ℕ) (δ : ℕ) : Type 0 where
  pub potential : ℕ → ℤ
  pub feasible : FeasiblePotential N (has_capacity N f δ) potential
