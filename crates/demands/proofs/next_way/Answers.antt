use Rattle.demands.proofs.Runs.{next_way_demands}
use Rattle.demands.proofs.next_way.Goals as goal

pub returns : goal.returns
returns c = next_way_demands _ _ _ _ c.desk_next.ensures
