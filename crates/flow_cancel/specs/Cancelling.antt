-- Cancelling negative cycles: the flow stays a flow, and its cost falls.
use Rattle.std.specs.Prelude.{◌≡◌, Bool, true, false, List, ℕ, ℤ, ◌<ℤ◌}
use Rattle.net_model.specs.Network.{Net, net_out, cost_of}
use Rattle.net_theory.specs.Bounds.{InBounds}
use Rattle.flow_negative_cycle.specs.Search.{PotentialLabels}

-- within the bounds, and as much out of every node as before
pub record Rerouted (N : Net) (f g : List ℕ) : Type 0 where
  pub within : InBounds N g
  pub same : (v : ℕ) → net_out N g v ≡ net_out N f v

-- one cycle cancelled; or the flow as it was, and labels d under which there is none
abbrev pub Cancels : Net → List ℕ → List ℕ → ℕ → List ℤ → Bool → Type 0
Cancels N f g δ d true = Rerouted N f g × (cost_of N g <ℤ cost_of N f)
Cancels N f g δ d false = (g ≡ f) × PotentialLabels N f δ d

-- every cycle with capacity for δ cancelled: the same flow out of every node, and labels d under which no such cycle is left
abbrev pub CancelsAll : Net → List ℕ → List ℕ → ℕ → List ℤ → Type 0
CancelsAll N f g δ d = Rerouted N f g × PotentialLabels N g δ d

-- every cycle cancelled
abbrev pub CancelsNegativeCycles : Net → List ℕ → List ℕ → List ℤ → Type 0
CancelsNegativeCycles N f g d = CancelsAll N f g 1 d
