use Rattle.demands.proofs.Names.{name_demands}
use Rattle.demands.proofs.name_of.Goals as goal

pub returns : goal.returns
returns c = name_demands _ _ _ _ c.desk_name-part.ensures c.desk_name_refusal-number.ensures
