use Rattle.way_network.proofs.Put.{BlocksLeft}
use Rattle.way_network.proofs.network_of.Given as goal

abbrev pub invariant-loop-j : goal.invariant-loop-j
invariant-loop-j l = BlocksLeft l.book l.initial.net l.net l.j
