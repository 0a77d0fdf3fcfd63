use Rattle.demands.proofs.Spares.{spare_demands}
use Rattle.demands.proofs.spare_between.Goals as goal

pub returns : goal.returns
returns c = spare_demands _ _ _ _ c.desk_spare.ensures
