-- `book_lines::moves::read_moves` meets its contract: after each line the table is that of the moves taken.
use mathlib.Core.List.{List}
use lib.ListN.{length}
use Rattle.book_lines.specs.declared.moves.Move.{Move}
use Rattle.book_lines.specs.Lines.{move}
use Rattle.text_read.proofs.Lines.{Lines}
use Rattle.book_lines.proofs.MovePass.{KnownMoves}
use Rattle.book_lines.proofs.moves.read_moves.Given as goal

abbrev pub invariant-loop-m : goal.invariant-loop-m
invariant-loop-m l = (done : List Move) × Lines move l.book done l.rest × KnownMoves done l.line l.bad l.table

abbrev pub decreases-loop-m : goal.decreases-loop-m
decreases-loop-m l = length l.rest
