use native.Mathlib.Omega.{arith}
use Rattle.flow_cost.proofs.Sizes.{asks_reduced, marked_more}
use Rattle.flow_cost.proofs.mark_tight.Goals as goal

pub reduced-requires : goal.reduced-requires
reduced-requires c = asks_reduced c.args.arcs.now c.requires.0 c.requires.1 c.args.labels.now c.requires.2 c.loop-a.a c.loop-a-test.true

pub loop-a-preserved : goal.loop-a-preserved
loop-a-preserved c = marked_more c.args.arcs.now c.requires.0 c.requires.1 c.args.labels.now c.requires.2 c.loop-a.a c.loop-a-test.true c.reduced.result c.reduced.ensures (record { sfits = c.reduced.type_inv }) c.loop-a.marks (omega arith) c.loop-a.invariant
