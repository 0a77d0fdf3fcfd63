use Rattle.std.proofs.Common.{arith, add-one}
use Rattle.std.proofs.lemmas.Int.{ints}
use Rattle.flow_test.proofs.Excess.{asks_first, asks_second, both_done}
use Rattle.flow_test.proofs.excess_of.Goals as goal

pub add_at-requires : goal.add_at-requires
add_at-requires c = asks_first c.args.balances.now c.args.arcs.now c.args.flow.now c.requires.0 c.loop-a.a c.loop-a-test.true _ c.loop-a.invariant _ c.from.ensures _ (omega (arith, ints))

pub add_at-requires-in-loop-a : goal.add_at-requires-in-loop-a
add_at-requires-in-loop-a c = asks_second c.args.balances.now c.args.arcs.now c.args.flow.now c.requires.0 c.loop-a.a c.loop-a-test.true _ c.loop-a.invariant _ c.from.ensures _ (omega (arith, ints)) _ c.add_at.ensures _ c.from-in-loop-a.ensures _ (omega (arith, ints))

pub loop-a-preserved : goal.loop-a-preserved
loop-a-preserved c =
    rw add-one (both_done c.args.balances.now c.args.arcs.now c.args.flow.now c.requires.0 c.loop-a.a c.loop-a-test.true _ c.loop-a.invariant _ c.from.ensures _ (omega (arith, ints)) _ c.add_at.ensures _ c.from-in-loop-a.ensures _ (omega (arith, ints)) _ c.add_at-in-loop-a.ensures)
