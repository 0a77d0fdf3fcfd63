-- Document 01, "The book": ways and their cost. Their order is `◌<lex◌` of laws/specs/Lexicographic.antt: "Ways are ordered by the lowest
-- entry where they differ, smaller predecessor first."
use Rattle.std.specs.Prelude.{◌≡◌, Bool, true, false, List, [], ◌∷◌, ℕ, zero, suc, ◌+◌, ◌*◌, ◌≤◌, eqb, length}
use Rattle.std.proofs.Math.Option.{Option, none, some}
use Rattle.book_form.specs.Book.{Book}
use Rattle.way_theory.specs.Follow.{size, follow_cost}

abbrev pub given? : Option ℕ → Bool
given? none = false
given? (some c) = true

abbrev pub or_none : Option ℕ → ℕ
or_none none = 0
or_none (some c) = c

-- what predecessor i of entry j costs, if j may have it: the fee for 0, which opens a part
abbrev pub predecessor_cost : Book → ℕ → ℕ → Option ℕ
predecessor_cost book zero j = some book.fee
predecessor_cost book (suc i) j = follow_cost book (suc i) j

abbrev pub permits : Book → ℕ → ℕ → Bool
permits book i j = given? (predecessor_cost book i j)

abbrev pub one_if : Bool → ℕ
one_if true = 1
one_if false = 0

-- how often i stands in w
abbrev pub times : ℕ → List ℕ → ℕ
times i [] = 0
times i (p ∷ w) = one_if (eqb p i) + times i w

-- "Each predecessor must be one it may follow": the entries from j on have such predecessors
abbrev pub Joined : Book → ℕ → List ℕ → Type 0
Joined book j [] = Unit {0}
Joined book j (p ∷ w) = (p ≤ size book) × (permits book p j ≡ true) × Joined book (suc j) w

-- "A way gives each entry its predecessor, or 0 if it opens a part. Each predecessor must be one it may follow, no entry is the
-- predecessor of two, and at most P open."
pub record IsWay (book : Book) (w : List ℕ) : Type 0 where
  pub all_entries : length w ≡ size book
  pub joined : Joined book 1 w
  pub once : (i : ℕ) → 1 ≤ i → i ≤ size book → times i w ≤ 1
  pub openings : times 0 w ≤ book.players

-- the costs of the joins, from entry j on
abbrev pub joins_cost : Book → ℕ → List ℕ → ℕ
joins_cost book j [] = 0
joins_cost book j (zero ∷ w) = joins_cost book (suc j) w
joins_cost book j (suc i ∷ w) = or_none (follow_cost book (suc i) j) + joins_cost book (suc j) w

-- "The cost is fee × openings plus the joins."
abbrev pub way_cost : Book → List ℕ → ℕ
way_cost book w = book.fee * times 0 w + joins_cost book 1 w

-- "A way is least-cost if no way of its book costs less."
pub record LeastCostWay (book : Book) (w : List ℕ) : Type 0 where
  pub way : IsWay book w
  pub least : (x : List ℕ) → IsWay book x → way_cost book w ≤ way_cost book x
