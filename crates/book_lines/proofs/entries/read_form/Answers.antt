-- `book_lines::entries::read_form` meets its contract: the count of numbers decides the form.
use Rattle.std.proofs.Common.{arith}
use Rattle.text_read.specs.Heads.{bytes}
use Rattle.book_lines.proofs.Forms.{neither, short_read, long_read, neither_read}
use Rattle.book_lines.proofs.entries.read_form.Goals as goal

pub returns-in_err-row : goal.returns-in_err-row
unfolding bytes
returns-in_err-row c =
    let none = c.in_err-row.ensures in
    rw c.from_residual.ensures (neither c.args.rest.now (none 3 (omega arith) (omega arith)) (none 4 (omega arith) (omega arith)))

pub returns-then-row-eq3 : goal.returns-then-row-eq3
unfolding bytes
returns-then-row-eq3 c = short_read c.in_ok-row.ensures c.if-row-eq3.true

pub returns-then-row-eq4 : goal.returns-then-row-eq4
unfolding bytes
returns-then-row-eq4 c = long_read c.in_ok-row.ensures c.if-row-eq4.true

pub returns : goal.returns
unfolding bytes
returns c = neither_read c.in_ok-row.ensures c.if-row-eq3.false c.if-row-eq4.false
