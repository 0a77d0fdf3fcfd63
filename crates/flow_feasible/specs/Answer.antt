-- The search for a flow: what it asks of the marks, and what it answers.
use Rattle.std.specs.Prelude.{◌≡◌, List, Bool, true, false, ℕ, ◌<◌, length, get_or}
use Rattle.net_model.specs.Network.{Net, arcs, IsFlow}
use Rattle.net_theory.specs.Bounds.{InBounds}

-- every arc is marked free
pub record AllFree (N : Net) (free : List Bool) : Type 0 where
  pub free_len : length free ≡ arcs N
  pub marked : (a : ℕ) → a < arcs N → get_or free a false ≡ true

-- f is a flow, or there is none, and f is within the bounds
pub record Feasible (N : Net) (f : List ℕ) (r : Bool) : Type 0 where
  pub within : InBounds N f
  pub found : r ≡ true → IsFlow N f
  pub none : r ≡ false → (g : List ℕ) → ¬ IsFlow N g
