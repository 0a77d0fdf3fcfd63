-- What `cancel_negative_cycles` leaves of a flow is a flow of least cost.
use mathlib.Core.Path.{◌∙◌}
use mathlib.Core.List.{List}
use Prim.Native.Nat.{ℕ}
use lib.IntN.{ℤ}
use Rattle.net_model.specs.Network.{Net, WellFormed, IsFlow, LeastCost}
use Rattle.net_model.specs.Potential.{FeasiblePotential}
use Rattle.net_theory.specs.Graph.{costed}
use Rattle.net_theory.specs.ResidualCapacity.{has_capacity}
use Rattle.net_theory.proofs.Optimality.{feasible_least}
use Rattle.flow_cancel.specs.Cancelling.{Rerouted}

module _ (N : Net) (f g : List ℕ) where
  -- as much out of every node as before: still a flow
  pub rerouted_flow : IsFlow N f → Rerouted (costed N) f g → IsFlow N g
  rerouted_flow F R = record {
    all_arcs = R.within.all_arcs;
    above = R.within.above;
    below = R.within.below;
    balanced = λ v k. R.same v ∙ F.balanced v k;
  }

  pub cheapest : WellFormed N → IsFlow N f → Rerouted (costed N) f g → (π : ℕ → ℤ) → FeasiblePotential (costed N) (has_capacity (costed N) g 1) π → LeastCost N g
  cheapest ok F R π = feasible_least N ok g π (rerouted_flow F R)
