use Rattle.std.proofs.Common.{◌∙◌}
use Rattle.flow_simplex.proofs.Simplex.walk_up.Goals as goal

pub loop-preserved : goal.loop-preserved
loop-preserved g c = c.requires.keeps _ _ _ c.step.ensures ∙ c.loop.invariant
