use Rattle.call_way_bytes.proofs.GivenWays as given
use Rattle.call_way_bytes.proofs.read_given.Goals as goal

pub returns : goal.returns
returns c = let e = c.if-given-book.false in (e, given.read_given c.args.book.now c.requires c.args.given.now e _ c.read_words.ensures)
