use Rattle.std.proofs.Common.{◌+◌}
use Rattle.way_network.proofs.Put.{JoinsLeft}
use Rattle.way_network.proofs.put_joins.Given as goal

abbrev pub invariant-loop-i : goal.invariant-loop-i
invariant-loop-i l = JoinsLeft l.book l.j l.initial.net l.net (l.i + 1)
