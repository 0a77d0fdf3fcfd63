-- Numbers brought within the bounds of the arcs.
use Rattle.std.specs.Prelude.{◌≡◌, List, ℕ, ◌+◌, ◌*◌, ◌<◌, min, length, get_or}
use Rattle.net_model.specs.Network.{Net, arcs, low, up}

-- for each arc a: number 2a + 1 of r above the lower bound, or the upper bound where that is less
pub record WritesWithin (N : Net) (r f : List ℕ) : Type 0 where
  pub len : length f ≡ arcs N
  pub each : (a : ℕ) → a < length f → get_or f a 0 ≡ min (up N a) (low N a + get_or r (2 * a + 1) 0)
