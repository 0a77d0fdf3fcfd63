-- The invariant: the numbers so far are written, and there is room for the others.
use Rattle.std.proofs.Common.{take, drop}
use Rattle.text_write.specs.Writing.{HasRoomFor, Writes}
use Rattle.text_listing.specs.Lines.{spaced}
use Rattle.text_listing.proofs.put_all_spaced.Given as goal

abbrev pub invariant-loop-n : goal.invariant-loop-n
invariant-loop-n l = Writes l.initial.writer (spaced (take l.n-index l.ns)) l.writer × HasRoomFor l.writer (spaced (drop l.n-index l.ns))
