-- What a check of a book promises: the question, the line and the checked book.
use Rattle.std.specs.Prelude.{ℕ, ◌≡◌, List, Result, Ok, Err}
use Rattle.std.specs.Result.{result_ok}
use Rattle.book_form.specs.declared.CheckedBook.{CheckedBook}
use Rattle.book_form.specs.declared.BookRefusal.{BookRefusal}
use Rattle.book_form.specs.Questions.{book_refusal, question_of, line_of}
use Rattle.book_form.specs.LineTold.{line_told}
use Rattle.book_form.specs.Checked.{checked_book}

-- the number of the question that is told, 0 with an accepted book
abbrev pub number_with : Result CheckedBook BookRefusal → ℕ
number_with (Ok b) = 0
number_with (Err e) = question_of e

-- the line that is told, 0 if none
abbrev pub line_with : Result CheckedBook BookRefusal → ℕ
line_with (Ok b) = 0
line_with (Err e) = line_of e

-- what a check of the bytes s promises
pub record ChecksBook (s : List ℕ) (r : Result CheckedBook BookRefusal) : Type 0 where
  pub question : number_with r ≡ book_refusal s
  pub line : line_with r ≡ line_told s (book_refusal s)
  pub book : result_ok r ≡ checked_book s
