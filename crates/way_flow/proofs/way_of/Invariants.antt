use Rattle.std.proofs.Common.{map}
use Rattle.net_model.specs.declared.Arc.{Arc}
use Rattle.way_flow.proofs.Reading.{Noting}
use Rattle.way_flow.proofs.way_of.Given as goal

abbrev pub invariant-loop-k : goal.invariant-loop-k
invariant-loop-k l = Noting (map (λ (a : Arc). a.tail) l.arcs) (map (λ (a : Arc). a.head) l.arcs) l.flow l.joins l.way l.k
