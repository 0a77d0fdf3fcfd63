use Rattle.std.proofs.Common.{[]}
use Rattle.net_model.specs.Struct.{net_from}
use Rattle.flow_closure.specs.Closure.{Closure}
use Rattle.flow_closure.specs.Candidates.{NoneRaisable}
use Rattle.flow_closure.proofs.last_raisable.Given as goal

abbrev pub invariant-loop-a : goal.invariant-loop-a
invariant-loop-a l = let N = net_from [] l.arcs in Closure N l.flow l.free l.a l.rows × NoneRaisable N l.flow l.free l.a
