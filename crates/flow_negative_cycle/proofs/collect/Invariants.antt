use mathlib.Core.List.{[]}
use Prim.Native.Nat.{◌-◌}
use Rattle.net_model.specs.Struct.{net_from}
use Rattle.flow_negative_cycle.proofs.StepsBack.{Collecting}
use Rattle.flow_negative_cycle.proofs.collect.Given as goal

abbrev pub invariant-loop-w : goal.invariant-loop-w
invariant-loop-w l = Collecting (net_from [] l.arcs) l.preds l.x l.initial.out l.out l.w l.len

abbrev pub decreases-loop-w : goal.decreases-loop-w
decreases-loop-w l = 64 - l.len
