-- An arc raised or lowered, with a tight walk over later arcs that makes up for it.
use Rattle.std.specs.Prelude.{◌≡◌, List, ℕ, ◌/◌, ◌<◌, get_or, ℤ, pos}
use Rattle.laws.specs.Ascending.{Distinct}
use Rattle.laws.specs.Members.{Every}
use Rattle.net_model.specs.Network.{Net, LeastCost}
use Rattle.net_model.specs.Residual.{CodeWalk}
use Rattle.net_theory.specs.ResidualCapacity.{has_capacity}
use Rattle.net_theory.specs.ReducedCost.{reduced}
use Rattle.net_theory.specs.Order.{Agree}

-- code c is of an arc whose reduced cost is 0
abbrev pub TightStep : Net → (ℕ → ℤ) → ℕ → Type 0
TightStep N π c = reduced N π (c / 2) ≡ pos 0

-- cs is a walk from u to v of codes that δ can go along, over tight arcs above k
pub record TightWalk (N : Net) (π : ℕ → ℤ) (δ : ℕ) (f : List ℕ) (k u v : ℕ) (cs : List ℕ) : Type 0 where
  pub walk : CodeWalk N (has_capacity N f δ) u v cs
  pub distinct : Distinct cs
  pub tight : Every (TightStep N π) cs
  pub above : Every (λ c. k < c / 2) cs

-- f' is what f becomes: least-cost, the same before arc k, and y on k
pub record Moved (N : Net) (f f' : List ℕ) (k y : ℕ) : Type 0 where
  pub least_cost : LeastCost N f'
  pub same_before : Agree k f f'
  pub at_k : get_or f' k 0 ≡ y
