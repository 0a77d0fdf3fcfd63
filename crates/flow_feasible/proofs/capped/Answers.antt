use mir.Syntax.{w64}
use mir.Val.{to_z, of_z}
use mir.Facts.{to_z-of_z}
use Rattle.flow_feasible.proofs.Widths.{cap_yes, cap_cast, cap_no}
use Rattle.flow_feasible.proofs.capped.Goals as goal

pub returns-then-x-gt1000000 : goal.returns-then-x-gt1000000
returns-then-x-gt1000000 c = cap_yes c.args.x (to_z w64 (of_z w64 c.args.x)) (to_z-of_z c.ranges.x) c.if-x-gt1000000.true

pub overflow_cast-result : goal.overflow_cast-result
overflow_cast-result c = cap_cast c.args.x (to_z w64 (of_z w64 c.args.x)) (to_z-of_z c.ranges.x) c.requires c.if-x-gt1000000.false

pub returns : goal.returns
returns c = cap_no c.args.x (to_z w64 (of_z w64 c.args.x)) (to_z-of_z c.ranges.x) c.requires
