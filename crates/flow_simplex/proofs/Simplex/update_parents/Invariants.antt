use Rattle.std.proofs.Common.{◌≡◌}
use Rattle.flow_simplex.proofs.Simplex.update_parents.Given as goal

abbrev pub invariant-loop : goal.invariant-loop
invariant-loop l = l.self.arcs ≡ l.fn.self.arcs
