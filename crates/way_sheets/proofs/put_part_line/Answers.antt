use Rattle.text_read.specs.Heads.{bytes}
use Rattle.text_write.proofs.Writing.{writes_then, room_first, room_then}
use Rattle.way_sheets.specs.Lines.{part_line}
use Rattle.way_sheets.proofs.put_part_line.Goals as goal

pub item-requires : goal.item-requires
unfolding bytes part_line
item-requires c = room_first _ _ c.requires

pub text-requires : goal.text-requires
unfolding bytes part_line
text-requires c = room_then _ _ c.item.ensures c.requires

pub returns : goal.returns
unfolding bytes part_line
returns c = writes_then c.item.ensures c.text.ensures
