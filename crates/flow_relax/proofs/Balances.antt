-- What a walk costs reads no balances.
use mathlib.Core.Path.{◌≡◌, refl, ap}
use mathlib.Core.List.{List, [], ◌∷◌}
use Prim.Native.Nat.{ℕ}
use lib.IntN.{◌+ℤ◌}
use Rattle.net_model.specs.Network.{Net}
use Rattle.net_model.specs.Residual.{step_cost, walk_cost}
use Rattle.net_theory.specs.Graph.{costed}

pub cost_whole : (N : Net) (cs : List ℕ) → walk_cost (costed N) cs ≡ walk_cost N cs
cost_whole N [] = refl
cost_whole N (e ∷ cs) = ap (λ z. step_cost N e +ℤ z) (cost_whole N cs)
