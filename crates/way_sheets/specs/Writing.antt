-- What the functions write, entry after entry in playing order, and what they ask. n is how many parts are begun, i an entry's predecessor.
use Rattle.std.specs.Prelude.{◌≡◌, List, [], ◌++◌, ℕ, zero, suc, ◌≤◌, length}
use Rattle.std.proofs.Math.Option.{some}
use Rattle.laws.specs.Appended.{Appended}
use Rattle.text_read.specs.Heads.{line_end}
use Rattle.book_form.specs.Book.{Book, parse}
use Rattle.book_form.specs.Checked.{checked_of}
use Rattle.book_form.specs.WithinLimits.{WithinLimits}
use Rattle.book_form.specs.declared.CheckedBook.{CheckedBook}
use Rattle.way_theory.specs.Ways.{IsWay}
use Rattle.way_gaps.specs.declared.JoinTicks.{JoinTicks}
use Rattle.way_gaps.specs.Gaps.{JoinTicksOf}
use Rattle.way_sheets.specs.Lines.{part_line, gap_line}
use Rattle.way_sheets.specs.Sheets.{sheets}

-- the last line of a part, if one was begun
unfoldable pub closing : ℕ → List ℕ
closing zero = []
closing (suc n) = line_end

-- what stands before the line of an entry: the gap to it; or the part before is closed, and its own part begins
unfoldable pub lead : ℕ → ℕ → ℕ → ℕ → List ℕ
lead n zero g r = closing n ++ part_line (suc n)
lead n (suc i) g r = gap_line g r

-- how many parts are begun with it
abbrev pub begun : ℕ → ℕ → ℕ
begun n zero = suc n
begun n (suc i) = n

-- what the sheets of w are written from: the bytes s, their checked book, and the gaps and spares of the way
pub record HasSheets (s : List ℕ) (c : CheckedBook) (w : List ℕ) (x : List JoinTicks) : Type 0 where
  pub book : Book
  pub holds : parse s ≡ some book
  pub limits : WithinLimits book
  pub is : c ≡ checked_of (length s) book
  pub way : IsWay book w
  pub ticks : JoinTicksOf book w x

-- and room for them
pub record HasRoom (s : List ℕ) (c : CheckedBook) (w : List ℕ) (x : List JoinTicks) (bytes : ℕ) : Type 0 where
  pub has : HasSheets s c w x
  pub room : length (sheets has.book w) ≤ bytes

-- what is written: the sheets of the book that the bytes s hold
pub record WritesSheets (s w before after : List ℕ) (r : ℕ) : Type 0 where
  pub each : (b : Book) → parse s ≡ some b → Appended before 0 (sheets b w) after r
