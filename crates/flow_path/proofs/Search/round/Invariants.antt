use Rattle.std.proofs.Common.{[], ◌+◌}
use Rattle.net_model.specs.Struct.{net_from}
use Rattle.flow_path.proofs.Reaching.{TurnOf}
use Rattle.flow_path.proofs.Search.round.Given as goal

abbrev pub invariant-loop-a : goal.invariant-loop-a
invariant-loop-a l = TurnOf (net_from [] l.arcs) l.flow l.free l.s l.from l.self.rank l.self.via l.initial.self.count l.self.count (l.a + l.a)
