use Rattle.std.proofs.Common.{arith, rules}
use Rattle.bytes_read.specs.Words.{ints}
use Rattle.bytes_read.proofs.Words.{length_ints}
use Rattle.net_questions.proofs.Rows.{rows_at}
use Rattle.net_questions.proofs.row_at.Goals as goal

pub returns : goal.returns
returns c = rw (rows_at (ints c.args.arcs.now) c.args.a (omega (arith, length_ints c.args.arcs.now, c.requires))) (search rules)
