use Rattle.demands.proofs.Sheets.{sheets_demands}
use Rattle.demands.proofs.write_sheets.Goals as goal

pub returns : goal.returns
returns c = sheets_demands _ _ _ _ _ c.desk_sheets.ensures
