-- An accepted network, with a flow within its bounds, is one over which labels can be corrected.
use mathlib.Core.List.{List, []}
use Prim.Native.Nat.{ℕ}
use Rattle.net_model.specs.Network.{Net}
use Rattle.net_model.specs.Accepted.{AcceptedNet}
use Rattle.net_theory.specs.Graph.{costed}
use Rattle.net_theory.specs.Bounds.{InBounds}
use Rattle.net_theory.proofs.Graph.{ends_with, bounds_with, costs_with, within_with}
use Rattle.net_theory.proofs.Limits.{small_ends, small_bounds, small_costs}
use Rattle.flow_relax.specs.Labels.{Relaxable}

pub accepted_relaxable : (N : Net) → AcceptedNet N → (f : List ℕ) → InBounds N f → Relaxable (costed N) f
accepted_relaxable N ok f b = record {
  ends = ends_with N [] N.lows N.ups N.costs (small_ends N ok);
  bounds = bounds_with N [] N.heads N.costs (small_bounds N ok);
  costs = costs_with N [] N.heads N.lows N.ups (small_costs N ok);
  within = within_with N [] N.heads N.costs f b;
}
