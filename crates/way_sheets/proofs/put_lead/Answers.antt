-- By whether the entry opens a part.
use Rattle.text_write.proofs.Writing.{writes_then, room_first, room_then}
use Rattle.way_sheets.proofs.Cases.{lead_first, lead_later}
use Rattle.way_sheets.proofs.put_lead.Goals as goal

pub put_closing-requires : goal.put_closing-requires
put_closing-requires c = let a = c.args in room_first _ _ (rw (lead_first a.n a.i a.ticks.gap a.ticks.spare c.if-i-eq0.true) at c.requires.1)

pub put_part_line-requires : goal.put_part_line-requires
put_part_line-requires c = let a = c.args in room_then _ _ c.put_closing.ensures (rw (lead_first a.n a.i a.ticks.gap a.ticks.spare c.if-i-eq0.true) at c.requires.1)

pub returns-then-i-eq0 : goal.returns-then-i-eq0
returns-then-i-eq0 c = let a = c.args in rw (lead_first a.n a.i a.ticks.gap a.ticks.spare c.if-i-eq0.true) (writes_then c.put_closing.ensures c.put_part_line.ensures)

pub put_gap_line-requires : goal.put_gap_line-requires
put_gap_line-requires c = let a = c.args in rw (lead_later a.n a.i a.ticks.gap a.ticks.spare c.if-i-eq0.false) at c.requires.1

pub returns : goal.returns
returns c = let a = c.args in rw (lead_later a.n a.i a.ticks.gap a.ticks.spare c.if-i-eq0.false) c.put_gap_line.ensures
