use Rattle.std.proofs.Common.{arith}
use Rattle.flow_preorder.proofs.Preorder.{alone}
use Rattle.flow_preorder.proofs.alone.Goals as goal

pub returns : goal.returns
returns c = alone c.loop-v.rows (omega arith) (λ u h. c.loop-v.invariant.0 u (omega arith) h) (c.loop-v.invariant.1 (omega arith))
