use Rattle.std.proofs.Common.{◌≤◌}
use Rattle.flow_simplex.proofs.Simplex.improve.Given as goal

abbrev pub invariant-loop : goal.invariant-loop
invariant-loop l = l.from ≤ l.self.arcs
