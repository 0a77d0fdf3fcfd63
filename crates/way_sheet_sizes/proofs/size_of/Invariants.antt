-- The invariant: what the first k entries take is summed.
use Rattle.way_sheet_sizes.proofs.Summing.{Summed}
use Rattle.way_sheet_sizes.proofs.size_of.Given as goal

abbrev pub invariant-loop-k : goal.invariant-loop-k
invariant-loop-k l = Summed l.way l.book.entries l.ticks l.sum l.k
