use Rattle.std.proofs.Common.{rules}
use Rattle.way_flow.proofs.Laying.{times_counted}
use Rattle.way_flow.proofs.times.Goals as goal

pub returns : goal.returns
returns c = rw (times_counted c.args.i c.args.way.now) (search rules)
