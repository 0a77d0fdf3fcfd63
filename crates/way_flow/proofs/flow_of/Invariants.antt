use Rattle.std.proofs.Common.{◌+◌}
use Rattle.way_flow.proofs.Laying.{Laying}
use Rattle.way_flow.proofs.flow_of.Given as goal

abbrev pub invariant-loop-k : goal.invariant-loop-k
invariant-loop-k l = Laying l.e l.players l.arcs l.way l.flow l.k

abbrev pub invariant-loop-j : goal.invariant-loop-j
invariant-loop-j l = Laying l.e l.players l.arcs l.way l.flow (l.ends + l.j)
