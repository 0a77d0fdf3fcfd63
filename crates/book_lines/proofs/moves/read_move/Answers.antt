-- `book_lines::moves::read_move` meets its contract.
use Rattle.text_read.specs.Heads.{bytes}
use Rattle.book_lines.proofs.MovePass.{move_read, no_move}
use Rattle.book_lines.proofs.moves.read_move.Goals as goal

pub returns-in_err-read : goal.returns-in_err-read
unfolding bytes
returns-in_err-read c = rw c.from_residual.ensures (no_move c.args.rest.now c.in_err-read.ensures)

pub returns : goal.returns
unfolding bytes
returns c = move_read c.args.rest.now c.in_ok-read.ensures
