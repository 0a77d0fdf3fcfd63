use Rattle.flow_enumerate.proofs.Standing.{prices_on}
use Rattle.flow_enumerate.proofs.Enumerator.prices.Goals as goal

pub returns : goal.returns
returns c = prices_on c.args.self c.requires.0 c.prices.result (rw c.arcs.ensures at c.prices.ensures)
