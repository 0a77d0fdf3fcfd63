use Rattle.demands.proofs.Runs.{count_flows_demands}
use Rattle.demands.proofs.count_flows.Goals as goal

pub returns : goal.returns
returns c = count_flows_demands _ _ _ _ c.desk_network_count.ensures
