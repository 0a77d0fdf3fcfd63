use Rattle.std.proofs.Common.{[]}
use Rattle.net_model.specs.Struct.{net_from}
use Rattle.flow_closure.specs.Closure.{Closure}
use Rattle.flow_closure.proofs.add_arcs.Given as goal

abbrev pub invariant-loop-a : goal.invariant-loop-a
invariant-loop-a l = Closure (net_from [] l.arcs) l.flow l.free l.a l.rows
