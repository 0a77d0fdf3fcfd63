use Rattle.std.proofs.Common.{◌≡◌, [], ◌+◌, ◌≤◌}
use Rattle.std.proofs.Math.Option.{some}
use Rattle.net_model.specs.FullList.{first_flow}
use Rattle.net_model.specs.Struct.{net_from}
use Rattle.net_theory.specs.Bounds.{InBounds}
use Rattle.flow_arc.specs.FreeMarks.{FreeMarks, ForAll}
use Rattle.flow_order.proofs.Counting.{Line}
use Rattle.flow_order.proofs.count.Given as goal

abbrev pub invariant-loop-n : goal.invariant-loop-n
invariant-loop-n l = let N = net_from [] l.arcs in
    (l.n ≤ l.cap + 1) × InBounds N l.flow × ForAll N (λ M π. FreeMarks M π l.free l.initial.flow → first_flow M ≡ some l.initial.flow → Line M l.n l.flow)
