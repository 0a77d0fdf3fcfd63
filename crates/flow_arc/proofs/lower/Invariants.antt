use Rattle.std.proofs.Common.{[], get_or}
use Rattle.net_model.specs.Struct.{net_from}
use Rattle.net_theory.specs.Bounds.{InBounds}
use Rattle.flow_arc.specs.FreeMarks.{FreeMarks, ForAll}
use Rattle.flow_arc.proofs.Lowering.{LowTurn}
use Rattle.flow_arc.proofs.lower.Given as goal

abbrev pub invariant-loop-flow : goal.invariant-loop-flow
invariant-loop-flow l = let N = net_from [] l.arcs in
    InBounds N l.flow × ForAll N (λ M π. FreeMarks M π l.free l.initial.flow → LowTurn M π l.free l.initial.flow l.a l.flow)

abbrev pub decreases-loop-flow : goal.decreases-loop-flow
decreases-loop-flow l = get_or l.flow l.a 0
