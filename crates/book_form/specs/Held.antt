-- A checked book that holds a book: what the functions take.
use Rattle.std.specs.Prelude.{◌≡◌, ℕ}
use Rattle.book_form.specs.Book.{Book}
use Rattle.book_form.specs.declared.CheckedBook.{CheckedBook}
use Rattle.book_form.specs.Checked.{checked_of}
use Rattle.book_form.specs.WithinLimits.{WithinLimits}

pub record Holds (b : Book) (s : CheckedBook) : Type 0 where
  pub limits : WithinLimits b
  pub total : ℕ
  pub is : s ≡ checked_of total b

pub record Held (s : CheckedBook) : Type 0 where
  pub book : Book
  pub holds : Holds book s
