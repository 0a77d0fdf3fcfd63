-- `book_check::read_opening` meets its contract: each line is read where the one before it ended.
use Rattle.text_read.specs.Heads.{bytes}
use Rattle.book_check.proofs.Form.{no_book, no_players, no_fee, opening_read}
use Rattle.book_check.proofs.read_opening.Goals as goal

pub returns-in_err-rest : goal.returns-in_err-rest
unfolding bytes
returns-in_err-rest c = rw c.from_residual.ensures (no_book c.args.book.now c.in_err-rest.ensures)

pub returns-in_err-players : goal.returns-in_err-players
unfolding bytes
returns-in_err-players c = rw c.from_residual-in_err-players.ensures (no_players c.args.book.now c.in_ok-rest.ensures c.in_err-players.ensures)

pub returns-in_err-fee : goal.returns-in_err-fee
unfolding bytes
returns-in_err-fee c = rw c.from_residual-in_err-fee.ensures (no_fee c.args.book.now c.in_ok-rest.ensures c.in_ok-players.ensures c.in_err-fee.ensures)

pub returns : goal.returns
unfolding bytes
returns c = opening_read c.args.book.now c.in_ok-rest.ensures c.in_ok-players.ensures c.in_ok-fee.ensures
