-- By whether the entry opens a part.
use mathlib.Core.Path.{sym, ◌∙◌}
use native.Mathlib.Omega.{arith}
use Rattle.text_read.specs.Heads.{bytes, space, part_head, gap_head}
use Rattle.text_write.proofs.Decimal.{row_size}
use Rattle.way_sheet_sizes.proofs.Lines.{item_most, part_is, gap_is, lead_first, lead_later}
use Rattle.way_sheet_sizes.proofs.lead_size.Goals as goal

pub returns-then-i-eq0 : goal.returns-then-i-eq0
unfolding bytes
returns-then-i-eq0 c = let a = c.args in (
  c.part_size.ensures ∙ sym (lead_first a.i a.ticks.gap a.ticks.spare c.if-i-eq0.true),
  omega (arith, c.part_size.ensures, part_is 1, item_most part_head 1 (omega arith)),
)

pub returns : goal.returns
unfolding bytes
returns c = let a = c.args in (
  c.gap_line_size.ensures ∙ sym (lead_later a.i a.ticks.gap a.ticks.spare c.if-i-eq0.false),
  omega (arith, c.gap_line_size.ensures, gap_is a.ticks.gap a.ticks.spare, item_most gap_head a.ticks.gap (omega arith), row_size space a.ticks.spare 9 (omega arith)),
)
