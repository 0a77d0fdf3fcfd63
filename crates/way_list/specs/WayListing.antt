-- Document 01, "The listing", and document 02, request 6: the text of a list of ways.
use Rattle.std.specs.Prelude.{◌≡◌, List, [], ◌∷◌, ◌++◌, ℕ, ◌+◌, ◌≤◌, length, take}
use Rattle.std.proofs.Math.Option.{some}
use Rattle.laws.specs.Count.{Count, exactly, more, counted}
use Rattle.laws.specs.Appended.{Appended}
use Rattle.text_write.specs.declared.Writer.{Writer}
use Rattle.text_write.specs.Writing.{Writes}
use Rattle.text_listing.specs.Lines.{cost_line, way_line, end_line, more_line, none_line}
use Rattle.book_form.specs.Book.{Book}
use Rattle.way_theory.specs.Ways.{times, way_cost}
use Rattle.way_theory.specs.FullWays.{full_ways, first_way}
use Rattle.flow_enumerate.specs.declared.Place.TheVariants.{Item}
use Rattle.way_enumerate.specs.WayEnumerator.{Enumerates, way_at}
use Rattle.way_enumerate.specs.declared.WayEnumerator.{WayEnumerator}
use Rattle.way_list.specs.Room.{way_room}

-- the line of a way. "The listing writes it out: `(way (parts N) ..)`, N being the number of openings."
abbrev pub line_of_way : List ℕ → List ℕ
line_of_way w = way_line (times 0 w) w

-- "`(way ..)` with the E predecessors for each way", by what the line of a way is
abbrev pub lines_by : (List ℕ → List ℕ) → List (List ℕ) → List ℕ
lines_by line [] = []
lines_by line (w ∷ l) = line w ++ lines_by line l

-- "then `(end N)` with the count of ways. After 1,000 ways, if more exist, the last line is `(more 1000)` instead."
abbrev pub last_line : Count → List ℕ
last_line (exactly n) = end_line n
last_line more = more_line

-- "prints `(cost C)`, then .. Without a way it prints `(none)`": what the line of a way is, what each way costs, and the ways
abbrev pub list_by : (List ℕ → List ℕ) → (List ℕ → ℕ) → List (List ℕ) → List ℕ
list_by line cost [] = none_line
list_by line cost (w ∷ l) = cost_line (cost w) ++ (lines_by line (take 1000 (w ∷ l)) ++ last_line (counted 1000 (length (w ∷ l))))

-- the listing, in the lines of request 6
abbrev pub list_ways : (List ℕ → ℕ) → List (List ℕ) → List ℕ
list_ways cost l = list_by line_of_way cost l

-- the text of the ways of a book
abbrev pub ways_text : Book → List ℕ
ways_text b = list_ways (way_cost b) (full_ways b)

-- an enumerator that stands on the first way of a book
pub record OnFirst (s : WayEnumerator) : Type 0 where
  pub book : Book
  pub enumerates : Enumerates book s
  pub first : way_at book s ≡ first_way book
  pub on : s.flows.place ≡ Item

-- what the functions write, of each book whose ways are enumerated: the line of the way that the enumerator stands on
pub record ListsOne (s : WayEnumerator) (before after : Writer) : Type 0 where
  pub each : (b : Book) → Enumerates b s → (w : List ℕ) → way_at b s ≡ some w → Writes before (line_of_way w) after
  pub few : after.at ≤ before.at + way_room

-- all lines after `(cost C)`, of an enumerator that stands on the first way
pub record ListsFrom (s : WayEnumerator) (before after : Writer) : Type 0 where
  pub lent : after.out.ghost_name ≡ before.out.ghost_name
  pub each : (b : Book) → Enumerates b s → way_at b s ≡ first_way b → Writes before (lines_by line_of_way (take 1000 (full_ways b)) ++ last_line (counted 1000 (length (full_ways b)))) after

-- the whole text, of an enumerator that stands on the first way
pub record Lists (s : WayEnumerator) (before after : List ℕ) (r : ℕ) : Type 0 where
  pub each : (b : Book) → Enumerates b s → way_at b s ≡ first_way b → Appended before 0 (ways_text b) after r
