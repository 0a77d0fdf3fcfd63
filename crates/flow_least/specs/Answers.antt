-- What the search for the first flow and the test of a flow answer.
use Rattle.std.specs.Prelude.{◌≡◌, Bool, true, false, List, ℕ, ℤ, Option, Some, None}
use Rattle.std.proofs.Math.Option.{none, some}
use Rattle.net_model.specs.Network.{Net, LeastCost}
use Rattle.net_model.specs.FullList.{first_flow}
use Rattle.net_theory.specs.Bounds.{InBounds}
use Rattle.flow_negative_cycle.specs.Search.{PotentialLabels}
use Rattle.flow_least.specs.Marked.{Marked}

-- the first flow, marked; or there is none, the numbers are within the bounds, and the marks are as they were
abbrev pub FirstFlow : Net → List ℕ → List Bool → List Bool → Bool → Type 0
FirstFlow N f free free' true = (first_flow N ≡ some f) × Marked N free' f
FirstFlow N f free free' false = (first_flow N ≡ none) × InBounds N f × (free' ≡ free)

-- question 8: "a least-cost flow of the network"
abbrev pub LeastIf : Net → List ℕ → Bool → Type 0
LeastIf N f true = LeastCost N f
LeastIf N f false = ¬ LeastCost N f

-- where f is a least-cost flow, labels under which no negative cycle has capacity for 1; none where it is not
abbrev pub ShowsLeast : Net → List ℕ → Option (List ℤ) → Type 0
ShowsLeast N f (Some d) = LeastCost N f × PotentialLabels N f 1 d
ShowsLeast N f None = ¬ LeastCost N f

-- question 8: "a least-cost flow of the network", marked; or it is none, and the marks are as they were
abbrev pub MarkedIfLeast : Net → List ℕ → List Bool → List Bool → Bool → Type 0
MarkedIfLeast N f free free' true = Marked N free' f
MarkedIfLeast N f free free' false = (¬ LeastCost N f) × (free' ≡ free)
