use mathlib.Core.Path.{◌≡◌}
use mathlib.Core.List.{[]}
use Prim.Native.Nat.{◌≤◌, ◌<◌}
use lib.ListN.{length}
use Rattle.net_model.specs.Struct.{net_from}
use Rattle.flow_relax.specs.Labels.{Relaxable}
use Rattle.flow_cancel.specs.Cancelling.{Rerouted}
use Rattle.flow_cancel.proofs.cancel_by_scaling.Given as goal

abbrev pub invariant-loop-need : goal.invariant-loop-need
invariant-loop-need l = Relaxable (net_from [] l.arcs) l.flow × Rerouted (net_from [] l.arcs) l.initial.flow l.flow × (0 < l.need) × (l.need ≤ 524288) × (length l.labels ≡ 64)

abbrev pub decreases-loop-need : goal.decreases-loop-need
decreases-loop-need l = l.need
