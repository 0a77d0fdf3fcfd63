use mathlib.Core.List.{[]}
use Prim.Native.Nat.{◌-◌}
use Rattle.net_model.specs.Struct.{net_from}
use Rattle.flow_negative_cycle.proofs.Searching.{Searching}
use Rattle.flow_negative_cycle.proofs.find_cycle.Given as goal

abbrev pub invariant-rounds : goal.invariant-rounds
invariant-rounds l = Searching (net_from [] l.arcs) l.flow l.need l.labels l.preds l.k

abbrev pub decreases-rounds : goal.decreases-rounds
decreases-rounds l = 64 - l.k
