use Rattle.way_network.proofs.Balances.{less_fits, balances_set}
use Rattle.way_network.proofs.balances_of.Goals as goal

pub overflow_sub-r : goal.overflow_sub-r
overflow_sub-r c = less_fits c.args.players c.requires.0

pub returns : goal.returns
returns c = balances_set c.args.players c.requires.0 c.args.e c.requires.1
