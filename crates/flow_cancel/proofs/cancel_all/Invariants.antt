use mathlib.Core.Path.{◌≡◌}
use mathlib.Core.List.{[]}
use lib.ListN.{length}
use Rattle.net_model.specs.Struct.{net_from}
use Rattle.flow_relax.specs.Labels.{Relaxable}
use Rattle.flow_cancel.specs.Cancelling.{Rerouted}
use Rattle.flow_cancel.proofs.Cancelling.{left}
use Rattle.flow_cancel.proofs.cancel_all.Given as goal

abbrev pub invariant-cycles : goal.invariant-cycles
invariant-cycles l = Relaxable (net_from [] l.arcs) l.flow × Rerouted (net_from [] l.arcs) l.initial.flow l.flow × (length l.labels ≡ 64)

abbrev pub decreases-cycles : goal.decreases-cycles
decreases-cycles l = left (net_from [] l.arcs) l.flow
