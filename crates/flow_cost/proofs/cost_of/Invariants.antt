use mathlib.Core.Path.{◌≡◌}
use mathlib.Core.List.{[]}
use lib.IntN.{◌*ℤ◌}
use Rattle.laws.specs.Sum.{sum}
use Rattle.net_model.specs.Network.{cost, on}
use Rattle.net_model.specs.Struct.{net_from}
use Rattle.flow_cost.proofs.cost_of.Given as goal

abbrev pub invariant-loop-a : goal.invariant-loop-a
invariant-loop-a l = l.sum ≡ sum l.a (λ i. cost (net_from [] l.arcs) i *ℤ on l.flow i)
