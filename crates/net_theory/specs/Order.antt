-- The numbers of a flow, arc by arc, against those of the least-cost flows.
use Rattle.std.specs.Prelude.{◌≡◌, List, ℕ, ◌≤◌, ◌<◌, get_or}
use Rattle.net_model.specs.Network.{Net, arcs, LeastCost}

-- f and g have the same numbers before arc k
abbrev pub Agree : ℕ → List ℕ → List ℕ → Type 0
Agree k f g = (a : ℕ) → a < k → get_or f a 0 ≡ get_or g a 0

-- no least-cost flow that agrees with f before arc k has more, or less, on k
abbrev pub NoMore : Net → List ℕ → ℕ → Type 0
NoMore N f k = (g : List ℕ) → LeastCost N g → Agree k f g → get_or g k 0 ≤ get_or f k 0

abbrev pub NoLess : Net → List ℕ → ℕ → Type 0
NoLess N f k = (g : List ℕ) → LeastCost N g → Agree k f g → get_or f k 0 ≤ get_or g k 0

-- f has the least number on every arc from k on
abbrev pub MinimalFrom : Net → ℕ → List ℕ → Type 0
MinimalFrom N k f = (a : ℕ) → k ≤ a → a < arcs N → NoLess N f a

-- f has the greatest number on every arc from k on
abbrev pub TopFrom : Net → ℕ → List ℕ → Type 0
TopFrom N k f = (a : ℕ) → k ≤ a → a < arcs N → NoMore N f a
