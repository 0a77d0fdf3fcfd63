-- A book as bytes: its full list of ways, the cost of a way, and E.
use Rattle.std.specs.Prelude.{List, [], ℕ, length, ℤ, pos}
use Rattle.std.proofs.Math.Option.{Option, none, some}
use Rattle.book_form.specs.Book.{Book, parse}
use Rattle.book_form.specs.Checked.{entries_of}
use Rattle.way_theory.specs.Ways.{way_cost}
use Rattle.way_theory.specs.FullWays.{full_ways}

-- bytes that hold no book have no way
abbrev pub ways_in : Option Book → List (List ℕ)
ways_in none = []
ways_in (some b) = full_ways b

abbrev pub way_cost_or_zero : Option Book → List ℕ → ℕ
way_cost_or_zero none w = 0
way_cost_or_zero (some b) w = way_cost b w

-- of the book that the bytes s hold: the full list, the cost of a way, and E
abbrev pub ways : List ℕ → List (List ℕ)
ways s = ways_in (parse s)

abbrev pub way_cost_in : List ℕ → List ℕ → ℤ
way_cost_in s w = pos (way_cost_or_zero (parse s) w)

abbrev pub entry_count : List ℕ → ℕ
entry_count s = length (entries_of (parse s))
