-- `book_lines::entries::read_entries` meets its contract: after each line the array has the first 28 of the lines read.
use mathlib.Core.List.{List}
use lib.ListN.{length}
use Rattle.book_lines.specs.Lines.{Entry, entry}
use Rattle.text_read.proofs.Lines.{Lines}
use Rattle.book_lines.proofs.EntryPass.{KnownEntries}
use Rattle.book_lines.proofs.entries.read_entries.Given as goal

abbrev pub invariant-loop-e : goal.invariant-loop-e
invariant-loop-e l = (done : List Entry) × Lines entry l.book done l.rest × KnownEntries l.first l.total done l.count l.line l.bad l.entries

abbrev pub decreases-loop-e : goal.decreases-loop-e
decreases-loop-e l = length l.rest
