-- `book_lines::entries::read_entry` meets its contract: each part is read where the one before it ended.
use Rattle.text_read.specs.Heads.{bytes}
use Rattle.book_lines.proofs.EntryPass.{no_head, no_name, no_form, entry_read}
use Rattle.book_lines.proofs.entries.read_entry.Goals as goal

pub returns-in_err-named : goal.returns-in_err-named
unfolding bytes
returns-in_err-named c = rw c.from_residual.ensures (no_head c.args.rest.now c.in_err-named.ensures)

pub returns-in_err-name : goal.returns-in_err-name
unfolding bytes
returns-in_err-name c = rw c.from_residual-in_err-name.ensures (no_name c.args.rest.now c.in_ok-named.ensures c.in_err-name.ensures)

pub returns-in_err-numbers : goal.returns-in_err-numbers
unfolding bytes
returns-in_err-numbers c = rw c.from_residual-in_err-numbers.ensures (no_form c.args.rest.now c.in_ok-named.ensures c.in_ok-name.ensures c.in_err-numbers.ensures)

pub returns : goal.returns
unfolding bytes
returns c = entry_read c.args.rest.now c.in_ok-named.ensures c.in_ok-name.ensures c.in_ok-numbers.numbers c.in_ok-numbers.ensures
