use Rattle.std.proofs.Common.{arith, pos}
use Rattle.bytes_read.specs.Words.{ints}
use Rattle.net_model.specs.Input.{rows}
use Rattle.laws.specs.Tests.{all_at}
use Rattle.net_questions.specs.Questions.{Ends, Bounds, passes}
use Rattle.net_questions.specs.Arcs.{no_arc}
use Rattle.net_questions.proofs.Rows.{arcs_of}
use Rattle.net_check.proofs.arc_at.Goals as goal

pub arc_of-requires-clause-ends : goal.arc_of-requires-clause-ends
arc_of-requires-clause-ends c =
    let rs = rows (ints c.args.arcs.now) in
    rw c.row_at.ensures (all_at (passes Ends (pos 63)) rs no_arc c.args.a c.requires.ends (omega (arith, arcs_of c.args.arcs.now)))

pub arc_of-requires-clause-bounds : goal.arc_of-requires-clause-bounds
arc_of-requires-clause-bounds c =
    let rs = rows (ints c.args.arcs.now) in
    rw c.row_at.ensures (all_at (passes Bounds (pos 63)) rs no_arc c.args.a c.requires.bounds (omega (arith, arcs_of c.args.arcs.now)))
