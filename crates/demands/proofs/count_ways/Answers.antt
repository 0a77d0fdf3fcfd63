use Rattle.demands.proofs.Runs.{count_ways_demands}
use Rattle.demands.proofs.count_ways.Goals as goal

pub returns : goal.returns
returns c = count_ways_demands _ _ _ c.desk_count.ensures
