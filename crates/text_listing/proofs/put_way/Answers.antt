use Rattle.text_read.specs.Heads.{bytes}
use Rattle.text_write.proofs.Writing.{writes_then, room_first, room_then}
use Rattle.text_listing.specs.Lines.{way_line}
use Rattle.text_listing.proofs.put_way.Goals as goal

pub item-requires : goal.item-requires
unfolding bytes way_line
item-requires c = rw c.from.ensures (room_first _ _ (room_first _ _ (room_first _ _ c.requires)))

pub text-requires : goal.text-requires
unfolding bytes way_line
text-requires c = room_then _ _ (rw c.from.ensures at c.item.ensures) (room_first _ _ (room_first _ _ c.requires))

pub put_all_spaced-requires : goal.put_all_spaced-requires
unfolding bytes way_line
put_all_spaced-requires c = room_then _ _ (writes_then (rw c.from.ensures at c.item.ensures) c.text.ensures) (room_first _ _ c.requires)

pub text-requires-2 : goal.text-requires-2
unfolding bytes way_line
text-requires-2 c = room_then _ _ (writes_then (writes_then (rw c.from.ensures at c.item.ensures) c.text.ensures) c.put_all_spaced.ensures) c.requires

pub returns : goal.returns
unfolding bytes way_line
returns c = writes_then (writes_then (writes_then (rw c.from.ensures at c.item.ensures) c.text.ensures) c.put_all_spaced.ensures) c.text-2.ensures
