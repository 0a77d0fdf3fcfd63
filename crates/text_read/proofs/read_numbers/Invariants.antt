-- `text_read::read_numbers` meets its contract: of the rows of 1 to 4 numbers, no more than one goes on at each place.
use Rattle.text_read.proofs.Rows.{Passed}
use Rattle.text_read.proofs.read_numbers.Given as goal

abbrev pub invariant-loop-k : goal.invariant-loop-k
invariant-loop-k l = Passed l.head l.rest l.numbers l.k l.before l.after
