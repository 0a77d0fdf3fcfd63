-- What searches over free arcs, and pushing along a walk, ask of the lists that they read.
use Rattle.std.specs.Prelude.{◌≡◌, List, Bool, ℕ, length}
use Rattle.net_model.specs.Network.{Net, arcs}
use Rattle.net_theory.specs.Bounds.{InBounds}
use Rattle.net_theory.specs.Limits.{SmallEnds, SmallBounds}

-- what a search asks: small ends and bounds, and a number of the flow and a mark for each arc
pub record Searchable (N : Net) (f : List ℕ) (free : List Bool) : Type 0 where
  pub ends : SmallEnds N
  pub bounds : SmallBounds N
  pub flow_len : length f ≡ arcs N
  pub free_len : length free ≡ arcs N

-- what a function that searches and pushes asks: also that the flow keeps the bounds
pub record Ready (N : Net) (f : List ℕ) (free : List Bool) : Type 0 where
  pub searchable : Searchable N f free
  pub within : InBounds N f
