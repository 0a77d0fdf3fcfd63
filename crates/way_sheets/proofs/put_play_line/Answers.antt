-- A text, the name, a text with a number, and the rest of the line, one behind another.
use Rattle.std.proofs.Common.{◌++◌}
use Rattle.text_read.specs.Heads.{bytes, space, line_end, name_end, play_head}
use Rattle.text_write.specs.Decimal.{decimal}
use Rattle.text_write.proofs.Writing.{writes_then, room_first, room_then}
use Rattle.way_sheets.specs.Lines.{play_line}
use Rattle.way_sheets.proofs.put_play_line.Goals as goal

pub text-requires : goal.text-requires
unfolding bytes play_line
text-requires c = let e = c.args.entry.now in
    room_first play_head c.args.name.now
    (room_first (play_head ++ c.args.name.now) (name_end ++ decimal e.start) (room_first (play_head ++ c.args.name.now ++ (name_end ++ decimal e.start)) (space ++ decimal e.finish ++ line_end) c.requires))

pub text-requires-2 : goal.text-requires-2
unfolding bytes play_line
text-requires-2 c = room_then _ _ c.text.ensures (room_first _ _ (room_first _ _ c.requires))

pub item-requires : goal.item-requires
unfolding bytes play_line
item-requires c = room_then _ _ (writes_then c.text.ensures c.text-2.ensures) (room_first _ _ c.requires)

pub row-requires : goal.row-requires
unfolding bytes play_line
row-requires c = room_then _ _ (writes_then (writes_then c.text.ensures c.text-2.ensures) c.item.ensures) c.requires

pub returns : goal.returns
unfolding bytes play_line
returns c = writes_then (writes_then (writes_then c.text.ensures c.text-2.ensures) c.item.ensures) c.row.ensures
