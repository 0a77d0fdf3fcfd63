-- Document 01, "The book's network": the flow of a way, and the way of a flow.
use Rattle.std.specs.Prelude.{cond, List, [], ◌∷◌, ◌++◌, map, ℕ, zero, suc, ◌-◌, eqb, length, drop}
use Rattle.book_form.specs.Book.{Book}
use Rattle.way_theory.specs.Follow.{size}
use Rattle.way_theory.specs.Ways.{one_if, times}
use Rattle.way_theory.specs.FullWays.{numbers}
use Rattle.way_theory.specs.BookNet.{sources}

-- 1 where the two numbers are one
abbrev pub one_if_same : ℕ → ℕ → ℕ
one_if_same m n = one_if (eqb m n)

-- "1 on the arc from 2i to 2j−1 where i is the predecessor of j, 1 on the opening arc of j where that is 0"
abbrev pub marked : ℕ → List ℕ → List ℕ
marked p l = map (λ i. one_if_same i p) l

abbrev pub join_flow : Book → ℕ → List ℕ → List ℕ
join_flow book j [] = []
join_flow book j (p ∷ w) = marked p (sources book j) ++ join_flow book (suc j) w

-- "1 on each entry arc"
abbrev pub entry_flow : Book → List ℕ
entry_flow book = map (λ j. 1) (numbers book)

-- "1 on the arc from 2j to 2E+1 where j is nobody's predecessor"
abbrev pub end_flow : Book → List ℕ → List ℕ
end_flow book w = map (λ j. 1 - times j w) (numbers book)

-- "P less the openings on the last arc, and 0 elsewhere"
abbrev pub flow_of : Book → List ℕ → List ℕ
flow_of book w = join_flow book 1 w ++ (entry_flow book ++ (end_flow book w ++ ((book.players - times 0 w) ∷ [])))

-- back: the predecessor whose arc carries 1
abbrev pub pick : List ℕ → List ℕ → ℕ
pick [] f = 0
pick (a ∷ l) [] = 0
pick (a ∷ l) (x ∷ f) = cond (eqb x 1) a (pick l f)

-- of each of n entries from j on, whose arcs f begins with
abbrev pub way_from : Book → ℕ → ℕ → List ℕ → List ℕ
way_from book zero j f = []
way_from book (suc n) j f = pick (sources book j) f ∷ way_from book n (suc j) (drop (length (sources book j)) f)

abbrev pub way_of : Book → List ℕ → List ℕ
way_of book f = way_from book (size book) 1 f
