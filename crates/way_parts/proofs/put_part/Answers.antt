use Rattle.std.proofs.Common.{arith}
use Rattle.way_parts.proofs.OnePart.{part_chain, part_begin, part_room, part_free, part_more, part_end}
use Rattle.way_parts.proofs.put_part.Goals as goal

pub loop-next-init : goal.loop-next-init
loop-next-init c = part_begin _ _ _ _ _ (part_chain _ c.requires.0 _ c.requires.1 c.requires.2) (omega (arith, c.requires.3))

pub offset_bounds-order-k : goal.offset_bounds-order-k
offset_bounds-order-k c = omega (arith, part_free c.loop-next.invariant c.in-Some.is c.requires.3)

pub bounds-order-k : goal.bounds-order-k
bounds-order-k c = part_free c.loop-next.invariant c.in-Some.is c.requires.3

pub overflow_add-k : goal.overflow_add-k
overflow_add-k c = omega (arith, part_free c.loop-next.invariant c.in-Some.is c.requires.3)

pub loop-next-smaller : goal.loop-next-smaller
loop-next-smaller c = omega (arith, part_room c.loop-next.invariant c.in-Some.is)

pub loop-next-preserved : goal.loop-next-preserved
loop-next-preserved c = rw c.successor-next.ensures (part_more c.loop-next.invariant c.in-Some.is c.requires.3)

pub returns : goal.returns
returns c = part_end c.loop-next.invariant c.in_default.is
