-- The arc that is read beyond the last.
use Rattle.std.specs.Prelude.{pos}
use Rattle.net_model.specs.declared.Row.{Row}

abbrev pub no_arc : Row
no_arc = record { tail = pos 0; head = pos 0; low = pos 0; up = pos 0; cost = pos 0 }
