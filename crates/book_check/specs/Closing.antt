-- The last line of a book.
use Rattle.std.specs.Prelude.{ℕ, ◌≡◌, Bool, cond, List}
use Rattle.std.proofs.Math.Option.{some, none}
use Rattle.text_read.specs.Reader.{◌>>=◌, give, text}
use Rattle.text_read.specs.Heads.{line_end}
use Rattle.book_form.specs.Book.{Book, whole}

-- s is `)` and byte 10, and nothing more
pub record Closing (s : List ℕ) (r : Bool) : Type 0 where
  pub is : (b : Book) → whole ((text line_end >>= (λ _. give b)) s) ≡ cond r (some b) none
