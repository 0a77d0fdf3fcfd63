use Rattle.std.proofs.Common.{◌≡◌}
use Rattle.flow_simplex.proofs.Simplex.walk_up.Given as goal

abbrev pub invariant-loop : goal.invariant-loop
invariant-loop g l = l.self.arcs ≡ l.fn.self.arcs
