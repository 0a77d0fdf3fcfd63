-- An accepted network meets what the functions beneath ask of the lists that they get.
use mathlib.Core.Path.{◌≡◌}
use mathlib.Core.List.{List, []}
use Prim.Native.Nat.{ℕ, ◌<◌}
use native.Mathlib.Omega.{arith}
use lib.ListN.{length, get_or}
use lib.IntN.{ℤ, pos}
use Rattle.laws.specs.Range.{Bounded}
use Rattle.net_model.specs.Network.{Net}
use Rattle.net_model.specs.Accepted.{AcceptedNet}
use Rattle.net_theory.specs.Bounds.{InBounds}
use Rattle.net_theory.specs.Graph.{costed}
use Rattle.net_theory.specs.Limits.{SmallEnds, SmallCosts}
use Rattle.net_theory.proofs.Graph.{ends_with, costs_with}
use Rattle.net_theory.proofs.Limits.{small_ends, small_costs}
use Rattle.flow_cost.specs.Costs.{Summable, SmallLabels}

module _ (N : Net) (ok : AcceptedNet N) where
  -- the marks
  pub markable : (d : List ℤ) → length d ≡ 64 → ((v : ℕ) → v < 64 → Bounded 1000000000000 (get_or d v (pos 0))) → SmallEnds (costed N) × SmallCosts (costed N) × SmallLabels d
  markable d l b = (ends_with N [] N.lows N.ups N.costs (small_ends N ok), costs_with N [] N.heads N.lows N.ups (small_costs N ok), record { labels_len = l; label_small = b })

  -- the cost of a flow
  pub summable : (f : List ℕ) → InBounds N f → Summable (costed N) f
  summable f b = record {
    few = ok.few_arcs;
    costs = costs_with N [] N.heads N.lows N.ups (small_costs N ok);
    flow_len = b.all_arcs;
    flow_small = λ a h. omega (arith, b.below a h, ok.up_small a h);
  }
