-- The first line and the others are the whole text; what the first way costs.
use mathlib.Core.Path.{◌≡◌, refl, ap, ◌∙◌}
use mathlib.Core.List.{List, [], ◌∷◌, ◌++◌}
use mathlib.Core.Option.{some}
use Prim.Native.Nat.{ℕ, suc, ◌*◌, ◌≤◌}
use native.Mathlib.Omega.{arith}
use lib.ListN.{length, take}
use lib.IntN.{pos}
use Rattle.laws.specs.Count.{counted}
use Rattle.laws.specs.Members.{first?, none_some}
use Rattle.flow_enumerate.specs.declared.Place.TheVariants.{Item}
use Rattle.laws.specs.Appended.{Appended}
use Rattle.text_listing.specs.Lines.{cost_line}
use Rattle.book_form.specs.Book.{Book}
use Rattle.book_form.specs.WithinLimits.{WithinLimits}
use Rattle.way_theory.specs.Ways.{way_cost}
use Rattle.way_theory.specs.FullWays.{full_ways, first_way}
use Rattle.way_theory.specs.BookNet.{arc_cost}
use Rattle.way_theory.proofs.Blocks.{along}
use Rattle.way_theory.proofs.Matched.{arc_cost_sum}
use Rattle.way_theory.proofs.Accepted.{arc_cost_small}
use Rattle.way_enumerate.specs.WayEnumerator.{Enumerates, way_at, way_item_cost}
use Rattle.way_enumerate.specs.declared.WayEnumerator.{WayEnumerator}
use Rattle.way_enumerate.proofs.Enumerating.{cost_held}
use Rattle.way_list.specs.WayListing.{line_of_way, lines_by, last_line, list_ways, ways_text, Lists}
use Rattle.way_list.proofs.Progress.{all_lines}
use Rattle.way_list.proofs.Standing.{standing_way, on_way, standing_few}

some_text : (cost : List ℕ → ℕ) (l : List (List ℕ)) (w : List ℕ) → first? l ≡ some w → cost_line (cost w) ++ (lines_by line_of_way (take 1000 l) ++ last_line (counted 1000 (length l))) ≡ list_ways cost l
some_text cost [] w e = absurd (none_some w e)
some_text cost (v ∷ l) w e = let q : v ≡ w = cc in rw q refl

pub text_of : (b : Book) (w : List ℕ) → first_way b ≡ some w → cost_line (way_cost b w) ++ all_lines b ≡ ways_text b
text_of b w e = some_text (way_cost b) (full_ways b) w e

-- the bytes x that a list has at the end are those that its writer held
pub lists_all : {s : WayEnumerator} {before x now : List ℕ} {r : ℕ} → x ≡ now → ((b : Book) → Enumerates b s → way_at b s ≡ first_way b → Appended before 0 (ways_text b) now r) → Lists s before x r
lists_all e f = record { each = rw e f }

-- each number of a way adds at most a million
along_most : (f : ℕ → ℕ → ℕ) → ((p j : ℕ) → f p j ≤ 1000000) → (j : ℕ) (w : List ℕ) → along f j w ≤ 1000000 * length w
along_most f h j [] = omega arith
along_most f h j (p ∷ w) = omega (arith, h p j, along_most f h (suc j) w)

cost_small : (b : Book) → WithinLimits b → (w : List ℕ) → length w ≤ 28 → way_cost b w ≤ 28000000
cost_small b ok w h = omega (arith, arc_cost_sum b 1 w, along_most (λ p k. arc_cost b p k) (arc_cost_small b ok) 1 w)

module _ (b : Book) (s : WayEnumerator) (on : s.flows.place ≡ Item) (enumerates : Enumerates b s) where
  pub cost_is : s.flows.cost ≡ pos (way_cost b (standing_way b s))
  cost_is = cost_held b s enumerates ∙ ap (way_item_cost b) (on_way b s on)

  pub cost_few : way_cost b (standing_way b s) ≤ 28000000
  cost_few = cost_small b enumerates.limits (standing_way b s) (standing_few b s on enumerates)
