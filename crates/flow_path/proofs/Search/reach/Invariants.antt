use Rattle.std.proofs.Common.{[], ◌-◌}
use Rattle.net_model.specs.Struct.{net_from}
use Rattle.flow_path.specs.Reaching.{SearchTree}
use Rattle.flow_path.proofs.Search.reach.Given as goal

abbrev pub invariant-loop-self : goal.invariant-loop-self
invariant-loop-self l = SearchTree (net_from [] l.arcs) l.flow l.free l.s l.from l.self.rank l.self.via l.self.count

abbrev pub decreases-loop-self : goal.decreases-loop-self
decreases-loop-self l = 64 - l.self.count
