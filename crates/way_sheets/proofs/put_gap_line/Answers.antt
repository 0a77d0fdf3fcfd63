use Rattle.text_read.specs.Heads.{bytes}
use Rattle.text_write.proofs.Writing.{writes_then, room_first, room_then}
use Rattle.way_sheets.specs.Lines.{gap_line}
use Rattle.way_sheets.proofs.put_gap_line.Goals as goal

pub item-requires : goal.item-requires
unfolding bytes gap_line
item-requires c = room_first _ _ c.requires

pub row-requires : goal.row-requires
unfolding bytes gap_line
row-requires c = room_then _ _ c.item.ensures c.requires

pub returns : goal.returns
unfolding bytes gap_line
returns c = writes_then c.item.ensures c.row.ensures
