-- The invariant: the parts that the first k entries open are written.
use Rattle.std.proofs.Common.{replicate}
use Rattle.way_parts.proofs.AllParts.{Ordered}
use Rattle.way_parts.proofs.playing_order.Given as goal

abbrev pub invariant-loop-k : goal.invariant-loop-k
invariant-loop-k l = Ordered l.way (replicate 28 0) l.order l.at l.k
