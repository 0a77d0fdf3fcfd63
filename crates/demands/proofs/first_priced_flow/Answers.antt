use Rattle.demands.proofs.Runs.{first_flow_demands, first_prices_demands}
use Rattle.demands.proofs.first_priced_flow.Goals as goal

pub returns : goal.returns
returns c = record { demands = first_flow_demands _ _ _ _ c.desk_network_first_priced.ensures; prices = first_prices_demands _ _ _ _ c.desk_network_first_priced.ensures }
