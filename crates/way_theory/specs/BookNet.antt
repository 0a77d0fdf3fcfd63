-- Document 01, "The book's network".
use Rattle.std.specs.Prelude.{List, [], ◌∷◌, ◌++◌, map, ℕ, zero, suc, ◌+◌, ◌*◌, ◌-◌, replicate, ℤ, pos, neg_ℤ}
use Rattle.laws.specs.Members.{keep}
use Rattle.net_model.specs.Network.{Net}
use Rattle.book_form.specs.Book.{Book}
use Rattle.way_theory.specs.Follow.{size}
use Rattle.way_theory.specs.Ways.{predecessor_cost, or_none, permits}
use Rattle.way_theory.specs.FullWays.{numbers}

pub record BookArc : Type 0 where
  pub tail : ℕ
  pub head : ℕ
  pub low : ℕ
  pub up : ℕ
  pub cost : ℕ

-- "Node 0 has balance P, node 2E+1 has −P, entry j runs from node 2j−1 to node 2j."
abbrev pub last_node : Book → ℕ
last_node book = 2 * size book + 1

abbrev pub balances_of : Book → List ℤ
balances_of book = pos book.players ∷ (replicate (2 * size book) (pos 0) ++ (neg_ℤ (pos book.players) ∷ []))

-- n, n − 1, .. 0
abbrev pub down : ℕ → List ℕ
down zero = 0 ∷ []
down (suc n) = suc n ∷ down n

-- the predecessors that entry j may have, highest first; the last is 0, for the opening
abbrev pub sources : Book → ℕ → List ℕ
sources book j = keep (λ i. permits book i j) (down (size book))

abbrev pub arc_cost : Book → ℕ → ℕ → ℕ
arc_cost book i j = or_none (predecessor_cost book i j)

-- "the joins from 2i to 2j−1, ... bounds 0 and 1, cost of the join; then the opening arc from 0 to 2j−1, bounds 0 and 1, cost the fee":
-- the opening arc is that of i = 0
abbrev pub join_arc : Book → ℕ → ℕ → BookArc
join_arc book j i = record { tail = 2 * i; head = 2 * j - 1; low = 0; up = 1; cost = arc_cost book i j }

-- "For each j from 1 to E": of each of n entries from j on
abbrev pub join_arcs : Book → ℕ → ℕ → List BookArc
join_arcs book zero j = []
join_arcs book (suc n) j = map (join_arc book j) (sources book j) ++ join_arcs book n (suc j)

-- "Then for each j the entry arc, bounds 1 and 1, cost 0."
abbrev pub entry_arc : ℕ → BookArc
entry_arc j = record { tail = 2 * j - 1; head = 2 * j; low = 1; up = 1; cost = 0 }

-- "Then for each j the arc from 2j to 2E+1, bounds 0 and 1, cost 0."
abbrev pub end_arc : Book → ℕ → BookArc
end_arc book j = record { tail = 2 * j; head = last_node book; low = 0; up = 1; cost = 0 }

-- "Last the arc from 0 to 2E+1, bounds 0 and P, cost 0."
abbrev pub last_arc : Book → BookArc
last_arc book = record { tail = 0; head = last_node book; low = 0; up = book.players; cost = 0 }

-- "Arcs in this order."
abbrev pub book_arcs : Book → List BookArc
book_arcs book = join_arcs book (size book) 1 ++ (map entry_arc (numbers book) ++ (map (end_arc book) (numbers book) ++ (last_arc book ∷ [])))

abbrev pub net_of_arcs : List ℤ → List BookArc → Net
net_of_arcs balances arcs = record {
  balances = balances;
  tails = map (λ a. a.tail) arcs;
  heads = map (λ a. a.head) arcs;
  lows = map (λ a. a.low) arcs;
  ups = map (λ a. a.up) arcs;
  costs = map (λ a. pos a.cost) arcs;
}

abbrev pub book_net : Book → Net
book_net book = net_of_arcs (balances_of book) (book_arcs book)
