-- The checked book, by value.
use Rattle.std.specs.Prelude.{ℕ, zero, suc, List, [], length, Option, Some, None}
use Rattle.std.proofs.Math.Option.{Option as Maybe, none, some}
use Rattle.book_form.specs.declared.CheckedBook.{CheckedBook}
use Rattle.book_lines.specs.Lines.{Entry}
use Rattle.book_form.specs.Book.{Book, parse}
use Rattle.book_lines.specs.Columns.{table, entries_in}
use Rattle.book_form.specs.Questions.{book_refusal}

-- `total` is the length of the book
abbrev pub checked_of : ℕ → Book → CheckedBook
checked_of total b = record { players = b.players; fee = b.fee; moves = table b.moves; count = length b.entries; entries = entries_in total b.entries }

-- "A "no" gives its number", and no book
abbrev pub checked_unless : ℕ → ℕ → Maybe Book → Option CheckedBook
checked_unless zero total (some b) = Some (checked_of total b)
checked_unless zero total none = None
checked_unless (suc q) total o = None

abbrev pub checked_book : List ℕ → Option CheckedBook
checked_book s = checked_unless (book_refusal s) (length s) (parse s)

-- the entries of a book that keeps the form
abbrev pub entries_of : Maybe Book → List Entry
entries_of none = []
entries_of (some b) = b.entries
