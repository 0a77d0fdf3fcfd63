use native.Mathlib.Omega.{arith}
use Rattle.std.proofs.lemmas.Int.{ints}
use Rattle.flow_cost.proofs.Sizes.{asks_cost, more_fits, sum_more}
use Rattle.flow_cost.proofs.cost_of.Goals as goal

pub cost_on-sum-requires : goal.cost_on-sum-requires
cost_on-sum-requires c = asks_cost c.args.arcs.now c.args.flow.now c.requires c.loop-a.a c.loop-a-test.true

pub overflow_add-sum : goal.overflow_add-sum
overflow_add-sum c = more_fits c.args.arcs.now c.args.flow.now c.requires c.loop-a.a c.loop-a-test.true _ _ c.loop-a.invariant (omega (arith, ints))

pub loop-a-preserved : goal.loop-a-preserved
loop-a-preserved c = sum_more c.args.arcs.now c.args.flow.now c.requires c.loop-a.a c.loop-a-test.true _ _ c.loop-a.invariant (omega (arith, ints))
