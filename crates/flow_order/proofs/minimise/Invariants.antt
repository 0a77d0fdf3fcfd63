use Rattle.std.proofs.Common.{[], ◌-◌, ◌≤◌, length}
use Rattle.net_model.specs.Struct.{net_from}
use Rattle.net_theory.specs.Bounds.{InBounds}
use Rattle.flow_arc.specs.FreeMarks.{FreeMarks, ForAll}
use Rattle.flow_order.proofs.Minimising.{MinTurn}
use Rattle.flow_order.proofs.minimise.Given as goal

abbrev pub invariant-loop-a : goal.invariant-loop-a
invariant-loop-a l = let N = net_from [] l.arcs in
    (l.k ≤ l.from) × (l.from ≤ length l.arcs) × InBounds N l.flow × ForAll N (λ M π. FreeMarks M π l.free l.initial.flow → MinTurn M l.initial.flow l.flow l.k l.from)

abbrev pub decreases-loop-a : goal.decreases-loop-a
decreases-loop-a l = length l.arcs - l.from
