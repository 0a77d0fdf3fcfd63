-- The flow that follows a flow, and counting.
use Rattle.std.specs.Prelude.{◌≡◌, Option, None, Some, List, Bool, true, false, ℕ, ◌-◌}
use Rattle.std.proofs.Math.Option.{none, some}
use Rattle.std.proofs.Math.ListN.{get_elem?}
use Rattle.laws.specs.Count.{exactly, more}
use Rattle.net_model.specs.Network.{Net, LeastCost}
use Rattle.net_model.specs.FullList.{full_list, next_flow, count_flows}

pub record Next (N : Net) (f f' : List ℕ) (r : Bool) : Type 0 where
  pub follows : r ≡ true → next_flow N f ≡ some f'
  pub least : r ≡ true → LeastCost N f'
  pub end : r ≡ false → next_flow N f ≡ none

-- r is the count, or there are more than the cap, and f is the flow that was met last: the last of the full list, or the first beyond the cap
abbrev pub CountsFlows : Net → ℕ → Option ℕ → List ℕ → Type 0
CountsFlows N cap (Some n) f = (count_flows N cap ≡ exactly n) × (get_elem? (full_list N) (n - 1) ≡ some f)
CountsFlows N cap None f = (count_flows N cap ≡ more) × (get_elem? (full_list N) cap ≡ some f)
