use Rattle.std.proofs.Common.{[], drop}
use Rattle.net_model.specs.Struct.{net_from}
use Rattle.flow_push.specs.Pushing.{bottleneck}
use Rattle.flow_push.proofs.LeastCapacity.{CapacityTurn}
use Rattle.flow_push.proofs.bottleneck.Given as goal

abbrev pub invariant-loop-c : goal.invariant-loop-c
invariant-loop-c l = let N = net_from [] l.arcs in CapacityTurn N l.flow (bottleneck N l.flow l.cap l.codes) l.least (drop l.c-index l.codes)
