use mathlib.Core.List.{[]}
use lib.ListN.{get_or}
use lib.IntN.{pos}
use Rattle.net_model.specs.Struct.{net_from}
use Rattle.flow_cost.specs.Costs.{MarksTight}
use Rattle.flow_cost.proofs.mark_tight.Given as goal

abbrev pub invariant-loop-a : goal.invariant-loop-a
invariant-loop-a l = MarksTight (net_from [] l.arcs) (λ v. get_or l.labels v (pos 0)) l.marks l.a
