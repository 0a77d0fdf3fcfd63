use Rattle.std.proofs.Common.{◌≡◌}
use Rattle.flow_simplex.proofs.Simplex.shift_potentials.Given as goal

abbrev pub invariant-loop-rest : goal.invariant-loop-rest
invariant-loop-rest l = l.self.arcs ≡ l.fn.self.arcs

abbrev pub decreases-loop-rest : goal.decreases-loop-rest
decreases-loop-rest l = l.rest
