-- The spare of a join, and its cost, or that there is none.
use Rattle.std.specs.Prelude.{◌≡◌, ℕ, ℤ, Option, option_map}
use Rattle.laws.specs.Optional.{optional}
use Rattle.book_lines.specs.declared.moves.PairMove.{PairMove}
use Rattle.book_lines.specs.Columns.{said}
use Rattle.book_form.specs.declared.CheckedBook.{CheckedBook}
use Rattle.book_form.specs.Book.{Book}
use Rattle.way_theory.specs.Follow.{road, spare}
use Rattle.way_theory.specs.Ways.{predecessor_cost}
use Rattle.way_joins.specs.Tables.{ticks_of, cost_of, TimingOf, TablesOf}

-- how a player goes from i to j: its ticks, of each book that has this timing, and its cost, of each that has these tables
pub record Roads (c : CheckedBook) (i j : ℕ) (r : Option PairMove) : Type 0 where
  pub ticks : (b : Book) → TimingOf b c → ticks_of r ≡ ticks_of (option_map said (optional (road b i j)))
  pub cost : (b : Book) → TablesOf b c → cost_of r ≡ cost_of (option_map said (optional (road b i j)))

-- the spare of the join from i to j, of each book that has this timing; 02, request 7: "that test now gives the signed spare .. A missing move has
-- an answer of its own"
pub record Spares (c : CheckedBook) (i j : ℕ) (r : Option ℤ) : Type 0 where
  pub each : (b : Book) → TimingOf b c → r ≡ optional (spare b i j)

-- the join from i to j, or the opening of j where i is 0, of each book that has these tables
pub record Joins (c : CheckedBook) (i j : ℕ) (r : Option ℕ) : Type 0 where
  pub each : (b : Book) → TablesOf b c → r ≡ optional (predecessor_cost b i j)
