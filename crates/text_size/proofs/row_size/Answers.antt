use mathlib.Core.List.{◌++◌}
use native.Mathlib.Omega.{arith}
use lib.ListN.{length-append}
use Rattle.text_read.specs.Heads.{bytes, line_end}
use Rattle.text_write.specs.Decimal.{decimal}
use Rattle.text_write.proofs.Decimal.{row_size}
use Rattle.text_size.proofs.row_size.Goals as goal

pub overflow_add-result : goal.overflow_add-result
overflow_add-result c = omega (arith, c.requires, c.item_size.ensures, length-append (c.args.head.now ++ decimal c.args.n) line_end, row_size c.args.head.now c.args.n 9 (omega arith))

pub returns : goal.returns
unfolding bytes
returns c = omega (arith, c.item_size.ensures, length-append (c.args.head.now ++ decimal c.args.n) line_end)
