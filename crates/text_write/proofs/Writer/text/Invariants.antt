-- The invariant: the bytes so far are written, and there is room for the others.
use Rattle.std.proofs.Common.{take, drop}
use Rattle.text_write.specs.Writing.{HasRoomFor, Writes}
use Rattle.text_write.proofs.Writer.text.Given as goal

abbrev pub invariant-loop-byte : goal.invariant-loop-byte
invariant-loop-byte l = Writes l.initial.self (take l.byte-index l.head) l.self × HasRoomFor l.self (drop l.byte-index l.head)
