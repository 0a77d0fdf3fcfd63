use mathlib.Core.Path.{◌≡◌}
use mathlib.Core.List.{[]}
use Prim.Native.Nat.{◌+◌}
use Rattle.net_model.specs.Struct.{net_from}
use Rattle.flow_relax.specs.Labels.{state, relaxed_all}
use Rattle.flow_relax.proofs.round.Given as goal

abbrev pub invariant-loop-a : goal.invariant-loop-a
invariant-loop-a l = state l.labels l.preds l.last ≡ relaxed_all (net_from [] l.arcs) l.flow l.need (l.a + l.a) (state l.initial.labels l.initial.preds 64)
