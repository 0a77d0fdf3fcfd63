use Rattle.demands.proofs.Runs.{next_flow_demands}
use Rattle.demands.proofs.next_flow.Goals as goal

pub returns : goal.returns
returns c = next_flow_demands _ _ _ _ _ c.desk_network_next.ensures
