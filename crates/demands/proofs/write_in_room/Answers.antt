use Rattle.demands.proofs.Sheets.{in_room}
use Rattle.demands.proofs.write_in_room.Goals as goal

pub returns : goal.returns
returns c = in_room _ _ _ _ _ c.desk_sheets-sheets.ensures _ c.desk_sheets_room-room.ensures
