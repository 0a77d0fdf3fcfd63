-- The invariant: the first a arcs are those of the rows, blank ones are behind them, and all else stays.
use Rattle.std.proofs.Common.{◌≡◌}
use Rattle.laws.specs.Padded.{filled}
use Rattle.bytes_read.specs.Words.{ints}
use Rattle.net_model.specs.Input.{rows}
use Rattle.net_model.specs.Struct.{blank_arc}
use Rattle.net_check.specs.Checked.{arc_of}
use Rattle.net_check.proofs.fill.Given as goal

abbrev pub invariant-loop-a : goal.invariant-loop-a
invariant-loop-a l = l.net ≡ record l.initial.net { table = filled arc_of (rows (ints l.arcs)) 512 blank_arc l.a }
