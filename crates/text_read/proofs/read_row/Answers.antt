-- `text_read::read_row` meets its contract: numbers, and behind them the end of the line.
use Rattle.text_read.specs.Heads.{bytes}
use Rattle.text_read.proofs.Rows.{row_unread, row_open, row_closed}
use Rattle.text_read.proofs.read_row.Goals as goal

pub returns-in_default : goal.returns-in_default
returns-in_default g c = row_unread _ _ _ c.in_default.ensures

pub returns-in_err-after : goal.returns-in_err-after
unfolding bytes
returns-in_err-after g c = rw c.from_residual.ensures (row_open _ _ _ c.in-Some.ensures c.in_err-after.ensures)

pub returns : goal.returns
unfolding bytes
returns g c = row_closed _ _ _ c.in-Some.ensures c.in_ok-after.ensures
