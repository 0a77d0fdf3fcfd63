use Rattle.demands.proofs.Runs.{first_way_demands}
use Rattle.demands.proofs.first_way.Goals as goal

pub returns : goal.returns
returns c = first_way_demands _ _ _ c.desk_first.ensures
