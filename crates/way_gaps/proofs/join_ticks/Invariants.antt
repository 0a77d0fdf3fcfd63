-- The gaps and the spares of the first k entries are written.
use Rattle.way_gaps.proofs.Filling.{Filled}
use Rattle.way_gaps.proofs.join_ticks.Given as goal

abbrev pub invariant-loop-k : goal.invariant-loop-k
invariant-loop-k l = Filled l.book l.way l.ticks l.k
