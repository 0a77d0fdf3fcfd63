-- By whether a part was begun.
use Rattle.text_read.specs.Heads.{bytes}
use Rattle.text_write.proofs.Writing.{writes_none}
use Rattle.way_sheets.proofs.Cases.{closing_none, closing_some}
use Rattle.way_sheets.proofs.put_closing.Goals as goal

pub text-requires : goal.text-requires
unfolding bytes
text-requires c = rw (closing_some c.args.n c.if-n-ne0.true) at c.requires

pub returns-then-n-ne0 : goal.returns-then-n-ne0
unfolding bytes
returns-then-n-ne0 c = rw (closing_some c.args.n c.if-n-ne0.true) c.text.ensures

pub returns-else-n-ne0 : goal.returns-else-n-ne0
returns-else-n-ne0 c = rw (closing_none c.args.n c.if-n-ne0.false) (writes_none c.requires)
