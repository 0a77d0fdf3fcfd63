use mathlib.Core.List.{[]}
use Rattle.net_model.specs.Struct.{net_from}
use Rattle.flow_prices.proofs.Pricing.{Pricing}
use Rattle.flow_prices.proofs.prices.Given as goal

abbrev pub invariant-loop-k : goal.invariant-loop-k
invariant-loop-k l = Pricing (net_from [] l.arcs) l.flow l.least l._k
