use Rattle.std.proofs.Common.{[], get_or}
use Rattle.net_model.specs.Struct.{net_from}
use Rattle.flow_path.proofs.Tracing.{TraceTurn}
use Rattle.flow_path.proofs.Search.trace.Given as goal

abbrev pub invariant-loop-v : goal.invariant-loop-v
invariant-loop-v l = TraceTurn (net_from [] l.arcs) l.self.rank l.self.via l.t l.initial.codes l.codes l.v l.len

abbrev pub decreases-loop-v : goal.decreases-loop-v
decreases-loop-v l = get_or l.self.rank l.v 0
