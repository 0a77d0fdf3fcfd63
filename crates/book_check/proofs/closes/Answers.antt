-- `book_check::closes` meets its contract.
use Rattle.text_read.specs.Heads.{bytes}
use Rattle.book_check.proofs.Form.{closing_is}
use Rattle.book_check.proofs.closes.Goals as goal

pub returns : goal.returns
unfolding bytes
returns c = rw c.eq.ensures (closing_is c.args.rest.now)
