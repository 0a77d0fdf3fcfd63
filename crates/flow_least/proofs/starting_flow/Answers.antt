use Rattle.net_model.specs.Struct.{net_from}
use Rattle.flow_test.proofs.Accepted.{accepted_testable}
use Rattle.flow_least.proofs.starting_flow.Goals as goal

pub feasible-requires : goal.feasible-requires
feasible-requires c = (accepted_testable (net_from c.args.balances.now c.args.arcs.now) c.requires.0 c.guess.new.flow c.guess.ensures.all_arcs, c.guess.ensures)
