use mathlib.Core.List.{[]}
use Prim.Native.Nat.{◌-◌}
use Rattle.net_model.specs.Struct.{net_from}
use Rattle.flow_negative_cycle.proofs.StepsBack.{Going}
use Rattle.flow_negative_cycle.proofs.go_back.Given as goal

abbrev pub invariant-loop-i : goal.invariant-loop-i
invariant-loop-i l = Going (net_from [] l.arcs) l.preds l.v l._i l.w

abbrev pub decreases-loop-i : goal.decreases-loop-i
decreases-loop-i l = 64 - l._i
