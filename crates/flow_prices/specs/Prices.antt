-- The labels of the price search: costs of residual walks at every moment, and in the end the least of each node.
use Rattle.std.specs.Prelude.{◌≡◌, List, ℕ, ◌<◌, length, get_or, ℤ, pos, ◌≤ℤ◌}
use Rattle.net_model.specs.Network.{Net}
use Rattle.net_model.specs.Residual.{Walk, walk_cost}

-- each label is the cost of a residual walk that ends there, and at most that of the walk without arcs
pub record WalkLabels (N : Net) (f : List ℕ) (d : List ℤ) : Type 0 where
  pub len : length d ≡ 64
  pub at_most_0 : (v : ℕ) → get_or d v (pos 0) ≤ℤ pos 0
  pub walked : (v : ℕ) → v < 64 → (u : ℕ) × (cs : List ℕ) × Walk N f u v cs × (walk_cost N cs ≡ get_or d v (pos 0))

-- and no such walk costs less
pub record PriceLabels (N : Net) (f : List ℕ) (d : List ℤ) : Type 0 where
  pub labels : WalkLabels N f d
  pub least : (u v : ℕ) (cs : List ℕ) → v < 64 → Walk N f u v cs → get_or d v (pos 0) ≤ℤ walk_cost N cs
