-- The state of an enumerator of the full list of a book.
use Rattle.std.specs.Prelude.{◌≡◌, Bool, true, false, List, ℕ, ℤ, pos}
use Rattle.std.proofs.Math.Option.{Option, none, some}
use Rattle.laws.specs.Count.{counted}
use Rattle.laws.specs.Image.{map_option}
use Rattle.laws.specs.Padded.{padded}
use Rattle.net_model.specs.Struct.{struct_of}
use Rattle.flow_enumerate.specs.Enumerator.{item_of, place_after, Stands}
use Rattle.flow_enumerate.specs.declared.Place.{Place}
use Rattle.flow_enumerate.specs.declared.Place.TheVariants.{Start}
use Rattle.book_form.specs.Book.{Book}
use Rattle.book_form.specs.declared.CheckedBook.{CheckedBook}
use Rattle.book_form.specs.WithinLimits.{WithinLimits}
use Rattle.way_theory.specs.Follow.{size}
use Rattle.way_theory.specs.Ways.{way_cost, LeastCostWay}
use Rattle.way_theory.specs.FullWays.{next_way, count_ways}
use Rattle.way_theory.specs.BookNet.{book_net}
use Rattle.way_theory.specs.WayFlow.{way_of}
use Rattle.book_form.specs.Held.{Holds}
use Rattle.way_enumerate.specs.declared.WayEnumerator.{WayEnumerator}

-- s enumerates the ways of b, by the network of b
pub record Enumerates (b : Book) (s : WayEnumerator) : Type 0 where
  pub limits : WithinLimits b
  pub entries_are : s.entries ≡ size b
  pub net_is : s.flows.net ≡ struct_of (book_net b)
  pub stands : Stands s.flows

pub record EnumeratesSome (s : WayEnumerator) : Type 0 where
  pub book : Book
  pub enumerates : Enumerates book s

-- the way that it stands on
abbrev pub way_at : Book → WayEnumerator → Option (List ℕ)
way_at b s = map_option (way_of b) (item_of s.flows)

-- "First and next also give the cost, 0 with 'none' or 'end'."
abbrev pub way_item_cost : Book → Option (List ℕ) → ℤ
way_item_cost b none = pos 0
way_item_cost b (some w) = pos (way_cost b w)

-- what follows a way; nothing follows no way
abbrev pub way_after : Book → Option (List ℕ) → Option (List ℕ)
way_after b none = none
way_after b (some w) = next_way b w

-- r enumerates the ways of b and stands on o, with the word p where that is none
pub record At (b : Book) (p : Place) (o : Option (List ℕ)) (r : WayEnumerator) : Type 0 where
  pub enumerates : Enumerates b r
  pub way_is : way_at b r ≡ o
  pub place_is : r.flows.place ≡ place_after p o
  pub cost_is : r.flows.cost ≡ way_item_cost b o

-- what the functions promise, of each book that the checked book holds, or whose ways are enumerated
pub record WayStarts (c : CheckedBook) (r : WayEnumerator) : Type 0 where
  pub each : (b : Book) → Holds b c → At b Start none r

pub record WaySteps (s : WayEnumerator) (p : Place) (o : Book → Option (List ℕ)) (r : WayEnumerator) : Type 0 where
  pub each : (b : Book) → Enumerates b s → At b p (o b) r

-- r stands on w if that is a least-cost way, and else it has not begun
pub record ResumesIn (b : Book) (w : List ℕ) (r : WayEnumerator) : Type 0 where
  pub on : LeastCostWay b w → At b Start (some w) r
  pub off : ¬ LeastCostWay b w → At b Start none r

pub record WayResumes (c : CheckedBook) (w : List ℕ) (r : WayEnumerator) : Type 0 where
  pub each : (b : Book) → Holds b c → ResumesIn b w r

-- question 18: "a least-cost way of the book"
abbrev pub LeastWayIf : Book → List ℕ → Bool → Type 0
LeastWayIf b w true = LeastCostWay b w
LeastWayIf b w false = ¬ LeastCostWay b w

pub record WayIsItem (c : CheckedBook) (w : List ℕ) (r : Bool) : Type 0 where
  pub each : (b : Book) → Holds b c → LeastWayIf b w r

-- the way that it stands on, in the first places of an array
pub record Tells (s : WayEnumerator) (r : List ℕ) : Type 0 where
  pub each : (b : Book) → Enumerates b s → (w : List ℕ) → way_at b s ≡ some w → r ≡ padded 28 0 w

pub record WayCounts (s : WayEnumerator) (cap r : ℕ) : Type 0 where
  pub each : (b : Book) → Enumerates b s → counted cap r ≡ count_ways b cap
