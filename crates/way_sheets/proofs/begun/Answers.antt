-- By whether the entry opens a part.
use Rattle.way_sheets.proofs.Cases.{begun_first, begun_later}
use Rattle.way_sheets.proofs.begun.Goals as goal

pub returns-then-i-eq0 : goal.returns-then-i-eq0
returns-then-i-eq0 c = begun_first _ _ c.if-i-eq0.true

pub returns-else-i-eq0 : goal.returns-else-i-eq0
returns-else-i-eq0 c = begun_later _ _ c.if-i-eq0.false
