-- What of a checked book the spare of a join, the joins and the network go by: `Timing` has the count, the ticks of the moves, and the entries
-- without their names, `Tables` the fee and the costs of the moves as well. Neither has the players.
use Rattle.std.specs.Prelude.{◌≡◌, List, map, ℕ, Option, option_map}
use Rattle.book_lines.specs.declared.moves.PairMove.{PairMove}
use Rattle.book_lines.specs.declared.entries.BookEntry.{BookEntry}
use Rattle.book_form.specs.declared.CheckedBook.{CheckedBook}
use Rattle.book_form.specs.Book.{Book}
use Rattle.book_form.specs.Checked.{checked_of}
use Rattle.book_form.specs.WithinLimits.{WithinLimits}

abbrev pub ticks_of : Option PairMove → Option ℕ
ticks_of = option_map (λ (m : PairMove). m.ticks)

abbrev pub cost_of : Option PairMove → Option ℕ
cost_of = option_map (λ (m : PairMove). m.cost)

abbrev pub nameless : BookEntry → BookEntry
nameless e = record e { name = 0; length = 0 }

pub record Timing : Type 0 where
  pub count : ℕ
  pub ticks : List (Option ℕ)
  pub entries : List BookEntry

pub record Tables : Type 0 where
  pub timing : Timing
  pub fee : ℕ
  pub costs : List (Option ℕ)

-- those of a checked book
abbrev pub timing_in : CheckedBook → Timing
timing_in c = record { count = c.count; ticks = map ticks_of c.moves; entries = map nameless c.entries }

abbrev pub tables_in : CheckedBook → Tables
tables_in c = record { timing = timing_in c; fee = c.fee; costs = map cost_of c.moves }

-- those of a book; how many bytes it has, here 0, bears on none of them
abbrev pub tables_of : Book → Tables
tables_of b = tables_in (checked_of 0 b)

-- c has the timing of the book b, which is within its limits
pub record TimingOf (b : Book) (c : CheckedBook) : Type 0 where
  pub limits : WithinLimits b
  pub are : timing_in c ≡ (tables_of b).timing

pub record HasTiming (c : CheckedBook) : Type 0 where
  pub book : Book
  pub timing : TimingOf book c

-- c has the tables of the book b, which is within its limits
pub record TablesOf (b : Book) (c : CheckedBook) : Type 0 where
  pub limits : WithinLimits b
  pub are : tables_in c ≡ tables_of b

pub record HasTables (c : CheckedBook) : Type 0 where
  pub book : Book
  pub tables : TablesOf book c
