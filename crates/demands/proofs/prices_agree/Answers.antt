use Rattle.demands.proofs.Runs.{first_flow_demands, first_prices_demands}
use Rattle.demands.proofs.Prices.{prices_agree}
use Rattle.demands.proofs.prices_agree.Goals as goal

pub returns : goal.returns
returns c = prices_agree _ _ _ _ _ _ c.desk_network_prices-priced.ensures _ _ (first_flow_demands _ _ _ _ c.desk_network_first_priced-first.ensures) (first_prices_demands _ _ _ _ c.desk_network_first_priced-first.ensures)
