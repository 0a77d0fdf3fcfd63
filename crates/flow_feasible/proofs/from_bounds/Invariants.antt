use Rattle.std.proofs.Common.{◌≡◌, length}
use Rattle.laws.specs.Parts.{plus}
use Rattle.net_model.specs.Struct.{net_from}
use Rattle.net_theory.specs.Bounds.{InBounds}
use Rattle.net_theory.specs.Excess.{total_excess}
use Rattle.flow_feasible.proofs.from_bounds.Given as goal

abbrev pub invariant-loop-s : goal.invariant-loop-s
invariant-loop-s l = InBounds (net_from l.balances l.arcs) l.flow × (length l.excess ≡ length l.balances)

abbrev pub decreases-loop-s : goal.decreases-loop-s
decreases-loop-s l = plus (total_excess (net_from l.balances l.arcs) l.flow)
