use native.Mathlib.Omega.{arith}
use Rattle.text_read.specs.Heads.{bytes, space, gap_head}
use Rattle.text_write.proofs.Decimal.{row_size}
use Rattle.way_sheet_sizes.proofs.Lines.{item_most, gap_is}
use Rattle.way_sheet_sizes.proofs.gap_line_size.Goals as goal

pub overflow_add-result : goal.overflow_add-result
unfolding bytes
overflow_add-result c = omega (arith, c.item_size.ensures, c.row_size.ensures, item_most gap_head c.args.ticks.gap (omega arith), row_size space c.args.ticks.spare 9 (omega arith))

pub returns : goal.returns
unfolding bytes
returns c = omega (arith, c.item_size.ensures, c.row_size.ensures, gap_is c.args.ticks.gap c.args.ticks.spare)
