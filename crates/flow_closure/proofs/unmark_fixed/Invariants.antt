use Rattle.std.proofs.Common.{[]}
use Rattle.net_model.specs.Struct.{net_from}
use Rattle.flow_closure.proofs.Narrowing.{Narrowing}
use Rattle.flow_closure.proofs.unmark_fixed.Given as goal

abbrev pub invariant-loop-a : goal.invariant-loop-a
invariant-loop-a l = Narrowing (net_from [] l.arcs) l.flow l.initial.free l.free l.a
