use native.Mathlib.Omega.{arith}
use Rattle.text_read.specs.Heads.{bytes, part_head}
use Rattle.way_sheet_sizes.proofs.Lines.{item_most, part_is}
use Rattle.way_sheet_sizes.proofs.part_size.Goals as goal

pub overflow_add-result : goal.overflow_add-result
unfolding bytes
overflow_add-result c = omega (arith, c.item_size.ensures, item_most part_head 1 (omega arith))

pub overflow_add-result-2 : goal.overflow_add-result-2
unfolding bytes
overflow_add-result-2 c = omega (arith, c.item_size.ensures, item_most part_head 1 (omega arith))

pub returns : goal.returns
unfolding bytes
returns c = omega (arith, c.item_size.ensures, part_is 1)
