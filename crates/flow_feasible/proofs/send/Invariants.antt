use Rattle.std.proofs.Common.{◌≡◌, []}
use Rattle.net_model.specs.Struct.{net_from}
use Rattle.flow_feasible.specs.Sending.{CutOff}
use Rattle.flow_feasible.proofs.send.Given as goal

abbrev pub invariant-loop-t : goal.invariant-loop-t
invariant-loop-t l = (l.flow ≡ l.initial.flow) × CutOff (net_from [] l.arcs) l.initial.flow l.free l.excess l.s l.t
