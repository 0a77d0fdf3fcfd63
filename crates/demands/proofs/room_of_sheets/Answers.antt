use Rattle.demands.proofs.Sheets.{room_demands}
use Rattle.demands.proofs.room_of_sheets.Goals as goal

pub returns : goal.returns
returns c = room_demands _ _ _ c.desk_sheets_room.ensures
