use Rattle.way_sheet_sizes.proofs.Summing.{sum_more, short, sum_all}
use Rattle.way_sheet_sizes.proofs.size_of.Goals as goal

pub play_line_size-requires : goal.play_line_size-requires
play_line_size-requires c = short _ _ _ _ c.requires.has _ c.loop-k-test.true

pub loop-k-preserved : goal.loop-k-preserved
loop-k-preserved c = sum_more _ _ _ _ c.loop-k-test.true c.loop-k.invariant _ _ c.lead_size.ensures.0 c.lead_size.ensures.1 c.play_line_size.ensures.0 c.play_line_size.ensures.1

pub returns : goal.returns
returns c = sum_all _ _ _ _ _ c.loop-k-test.false c.loop-k.invariant
