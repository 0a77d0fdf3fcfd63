use Rattle.net_model.specs.Struct.{net_from}
use Rattle.flow_test.proofs.Excess.{ExcessTurn}
use Rattle.flow_test.proofs.excess_of.Given as goal

abbrev pub invariant-loop-a : goal.invariant-loop-a
invariant-loop-a l = ExcessTurn (net_from l.balances l.arcs) l.flow l.a l.excess
