-- The cost of a way and the full list of a book, as in specs/Ways.antt and specs/FullWays.antt, by any rule of who may follow whom.
use mathlib.Core.Path.{◌≡◌, refl, ap, ap₂, fun_ext, ◌∙◌}
use mathlib.Core.Bool.{Bool, true, ◌&&◌}
use mathlib.Core.Option.{Option, some}
use mathlib.Core.List.{List, [], ◌∷◌}
use Prim.Native.Nat.{ℕ, zero, suc, ◌+◌, ◌*◌}
use lib.Dec.{leb}
use Rattle.laws.specs.Tests.{all}
use Rattle.laws.specs.Members.{keep}
use Rattle.laws.specs.Best.{best}
use Rattle.laws.specs.Within.{within}
use Rattle.book_form.specs.Book.{Book}
use Rattle.way_theory.specs.Follow.{follow_cost}
use Rattle.way_theory.specs.Ways.{given?, or_none, times, joins_cost, way_cost}
use Rattle.way_theory.specs.FullWays.{numbers, is_joined, is_way, way_bounds, way_list, full_ways}

-- the cost of the join from i to j, if j may follow i
abbrev pub Rule : Type 0
Rule = ℕ → ℕ → Option ℕ

abbrev pub predecessor_cost_by : Rule → Book → ℕ → ℕ → Option ℕ
predecessor_cost_by rule book zero j = some book.fee
predecessor_cost_by rule book (suc i) j = rule (suc i) j

abbrev pub is_joined_by : Rule → Book → ℕ → List ℕ → Bool
is_joined_by rule book j [] = true
is_joined_by rule book j (p ∷ w) = given? (predecessor_cost_by rule book p j) && is_joined_by rule book (suc j) w

abbrev pub is_way_by : Rule → Book → List ℕ → Bool
is_way_by rule book w = is_joined_by rule book 1 w && (all (λ i. leb (times i w) 1) (numbers book) && leb (times 0 w) book.players)

abbrev pub joins_cost_by : Rule → ℕ → List ℕ → ℕ
joins_cost_by rule j [] = 0
joins_cost_by rule j (zero ∷ w) = joins_cost_by rule (suc j) w
joins_cost_by rule j (suc i ∷ w) = or_none (rule (suc i) j) + joins_cost_by rule (suc j) w

abbrev pub way_cost_by : Rule → Book → List ℕ → ℕ
way_cost_by rule book w = book.fee * times 0 w + joins_cost_by rule 1 w

abbrev pub full_ways_by : Rule → Book → List (List ℕ)
full_ways_by rule book = best (λ w x. leb (way_cost_by rule book w) (way_cost_by rule book x)) (keep (is_way_by rule book) (within (way_bounds book)))

-- by `follow_cost` they are `way_cost` and `full_ways`
module _ (book : Book) where
  joined_by : (j : ℕ) (w : List ℕ) → is_joined book j w ≡ is_joined_by (follow_cost book) book j w
  joined_by j [] = refl
  joined_by j (zero ∷ w) = joined_by (suc j) w
  joined_by j (suc i ∷ w) = ap (λ t. given? (follow_cost book (suc i) j) && t) (joined_by (suc j) w)

  joins_cost_by_lem : (j : ℕ) (w : List ℕ) → joins_cost book j w ≡ joins_cost_by (follow_cost book) j w
  joins_cost_by_lem j [] = refl
  joins_cost_by_lem j (zero ∷ w) = joins_cost_by_lem (suc j) w
  joins_cost_by_lem j (suc i ∷ w) = ap (λ n. or_none (follow_cost book (suc i) j) + n) (joins_cost_by_lem (suc j) w)

  way_cost_by_lem : (w : List ℕ) → way_cost book w ≡ way_cost_by (follow_cost book) book w
  way_cost_by_lem w = ap (λ n. book.fee * times 0 w + n) (joins_cost_by_lem 1 w)

  is_way_by_lem : (w : List ℕ) → is_way book w ≡ is_way_by (follow_cost book) book w
  is_way_by_lem w = ap (λ t. t && (all (λ i. leb (times i w) 1) (numbers book) && leb (times 0 w) book.players)) (joined_by 1 w)

  full_ways_by_lem : full_ways book ≡ full_ways_by (follow_cost book) book
  unfolding full_ways way_list
  full_ways_by_lem = ap₂ (λ c p. best (λ w x. leb (c w) (c x)) (keep p (within (way_bounds book)))) (fun_ext way_cost_by_lem) (fun_ext is_way_by_lem)

-- by another rule the book lists the same ways, at the same cost
pub record SameWays (rule : Rule) (book : Book) : Type 0 where
  pub listed : full_ways book ≡ full_ways_by rule book
  pub costed : (w : List ℕ) → way_cost book w ≡ way_cost_by rule book w

pub same_ways : (rule : Rule) (book : Book) → ((i j : ℕ) → follow_cost book i j ≡ rule i j) → SameWays rule book
same_ways rule book h =
    let same : follow_cost book ≡ rule = fun_ext (λ i. fun_ext (h i)) in
    record {
      listed = full_ways_by_lem book ∙ ap (λ rule. full_ways_by rule book) same;
      costed = λ w. way_cost_by_lem book w ∙ ap (λ rule. way_cost_by rule book w) same;
    }
