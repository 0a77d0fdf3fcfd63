use Rattle.way_network.proofs.Put.{EntriesLeft, EndsLeft}
use Rattle.way_network.proofs.put_rows.Given as goal

abbrev pub invariant-loop-j : goal.invariant-loop-j
invariant-loop-j l = EntriesLeft l.e l.players l.fn.net l.net l.j

abbrev pub invariant-loop-j-2 : goal.invariant-loop-j-2
invariant-loop-j-2 l = EndsLeft l.e l.players l.fn.net l.net l.j
