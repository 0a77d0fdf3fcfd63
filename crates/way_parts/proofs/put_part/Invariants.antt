-- The invariant: some entries are written, and those from `next` on are left.
use Rattle.std.proofs.Common.{◌+◌, ◌-◌, length}
use Rattle.way_parts.specs.Parts.{part_of}
use Rattle.way_parts.proofs.OnePart.{PartBegun}
use Rattle.way_parts.proofs.put_part.Given as goal

abbrev pub invariant-loop-next : goal.invariant-loop-next
invariant-loop-next l = PartBegun l.way (part_of l.way l.j) l.initial.order l.at l.order l.next l.k

abbrev pub decreases-loop-next : goal.decreases-loop-next
decreases-loop-next l = l.at + length (part_of l.way l.j) - l.k
