-- Demand 2 of a book: what a call of `first` shows that passes the questions.
use Rattle.std.specs.Prelude.{◌≡◌, List, ℕ}
use Rattle.std.proofs.Math.Option.{some}
use Rattle.laws.specs.Lexicographic.{◌<lex◌}
use Rattle.laws.specs.Rules.{first}
use Rattle.laws.specs.Seen.{nothing, item, Seen, Shows}
use Rattle.book_form.specs.Book.{Book, parse}
use Rattle.way_theory.specs.Ways.{IsWay, LeastCostWay}
use Rattle.call_book.specs.BookRules.{book_rules}

-- a least-cost way of the book, and the first of them in the order of ways
pub record FindsWay (s l : List ℕ) (t : Seen (List ℕ)) : Type 0 where
  pub book : Book
  pub holds : parse s ≡ some book
  pub way : List ℕ
  pub least_cost : LeastCostWay book way
  pub first_of_all : (w : List ℕ) → LeastCostWay book w → ¬ (w <lex way)
  pub shows : Shows (book_rules s) (first l) (item way) t

-- "none": there is no way
pub record FindsNoWay (s l : List ℕ) (t : Seen (List ℕ)) : Type 0 where
  pub book : Book
  pub holds : parse s ≡ some book
  pub no_way : (w : List ℕ) → ¬ IsWay book w
  pub shows : Shows (book_rules s) (first l) nothing t
