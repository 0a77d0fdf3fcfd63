-- The invariant: the first entries of the playing order are written.
use Rattle.way_sheets.proofs.Turn.{Puts}
use Rattle.way_sheets.proofs.put_sheets.Given as goal

abbrev pub invariant-loop-number : goal.invariant-loop-number
invariant-loop-number l = Puts l.text l.way l.initial.writer l.writer l.n l.number-index
