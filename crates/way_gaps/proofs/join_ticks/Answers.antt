use native.Mathlib.Omega.{arith}
use Rattle.way_gaps.proofs.Filling.{has_timing, count_is, predecessor_inside, fill_more, fill_all}
use Rattle.way_gaps.proofs.join_ticks.Goals as goal

pub ticks_to-requires : goal.ticks_to-requires
ticks_to-requires c =
    let h = c.requires in
    let e = count_is h in
    (has_timing h, omega (arith, e, predecessor_inside h _ c.loop-k-test.true), omega arith, omega (arith, e, c.loop-k-test.true))

pub loop-k-preserved : goal.loop-k-preserved
loop-k-preserved c = fill_more c.requires _ c.loop-k-test.true c.loop-k.invariant _ c.ticks_to.ensures

pub returns : goal.returns
returns c = fill_all c.requires _ _ c.loop-k-test.false c.loop-k.invariant
