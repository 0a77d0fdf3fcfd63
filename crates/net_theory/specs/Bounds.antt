-- Lists within the bounds of a network.
use Rattle.std.specs.Prelude.{◌≡◌, List, ℕ, ◌≤◌, ◌<◌, length, get_or}
use Rattle.net_model.specs.Network.{Net, arcs, low, up}

-- a number within the bounds for each arc
pub record InBounds (N : Net) (f : List ℕ) : Type 0 where
  pub all_arcs : length f ≡ arcs N
  pub above : (a : ℕ) → a < arcs N → low N a ≤ get_or f a 0
  pub below : (a : ℕ) → a < arcs N → get_or f a 0 ≤ up N a
