use Rattle.demands.proofs.Prices.{prices_demands}
use Rattle.demands.proofs.prices_of_flow.Goals as goal

pub returns : goal.returns
returns c = prices_demands _ _ _ _ _ _ c.desk_network_prices.ensures
