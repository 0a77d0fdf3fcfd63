use Rattle.text_read.specs.Heads.{bytes}
use Rattle.text_write.proofs.Writing.{writes_none, writes_then, room_first, room_then}
use Rattle.text_listing.specs.Lines.{spaced}
use Rattle.text_listing.proofs.Spaced.{spaced_more, spaced_next}
use Rattle.text_listing.proofs.put_all_spaced.Goals as goal

pub loop-n-init : goal.loop-n-init
unfolding spaced
loop-n-init c = (writes_none c.requires, c.requires)

pub item-requires : goal.item-requires
unfolding bytes
item-requires c = rw c.from.ensures (room_first _ _ (rw (spaced_next _ _ c.loop-n-test.true) at c.loop-n.invariant.1))

pub loop-n-preserved : goal.loop-n-preserved
unfolding bytes
loop-n-preserved c =
    let w = rw c.from.ensures at c.item.ensures in
    (rw (spaced_more _ _ c.loop-n-test.true) (writes_then c.loop-n.invariant.0 w), room_then _ _ w (rw (spaced_next _ _ c.loop-n-test.true) at c.loop-n.invariant.1))
