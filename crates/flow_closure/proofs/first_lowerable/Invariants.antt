use Rattle.std.proofs.Common.{[], ◌≤◌}
use Rattle.net_model.specs.Struct.{net_from}
use Rattle.flow_closure.specs.Closure.{Closure}
use Rattle.flow_closure.specs.Candidates.{FirstLowerable}
use Rattle.flow_closure.proofs.first_lowerable.Given as goal

abbrev pub invariant-loop-a : goal.invariant-loop-a
invariant-loop-a l = let N = net_from [] l.arcs in (l.from ≤ l.a) × Closure N l.flow l.free l.a l.rows × FirstLowerable N l.flow l.free l.a l.first
