use native.Mathlib.Omega.{arith}
use Rattle.text_read.specs.Heads.{bytes, space, name_end}
use Rattle.text_write.proofs.Decimal.{row_size}
use Rattle.way_sheet_sizes.proofs.Lines.{item_most}
use Rattle.way_sheet_sizes.proofs.play_line_size.Goals as goal

pub overflow_add-result-2 : goal.overflow_add-result-2
unfolding bytes
overflow_add-result-2 c = omega (arith, c.requires, c.item_size.ensures, item_most name_end c.args.entry.now.start (omega arith))

pub overflow_add-result-3 : goal.overflow_add-result-3
unfolding bytes
overflow_add-result-3 c = omega (arith, c.requires, c.item_size.ensures, c.row_size.ensures, item_most name_end c.args.entry.now.start (omega arith), row_size space c.args.entry.now.finish 9 (omega arith))

pub returns : goal.returns
unfolding bytes
returns c = (
  omega (arith, c.item_size.ensures, c.row_size.ensures),
  omega (arith, c.requires, c.item_size.ensures, c.row_size.ensures, item_most name_end c.args.entry.now.start (omega arith), row_size space c.args.entry.now.finish 9 (omega arith)),
)
