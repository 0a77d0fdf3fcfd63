-- What ties the marks that the code reads to the costs, which it does not.
use Rattle.std.specs.Prelude.{◌≡◌, List, Bool, true, false, ℕ, ◌<◌, get_or, ℤ, pos}
use Rattle.net_model.specs.Network.{Net, arcs, WellFormed, LeastCost}
use Rattle.net_model.specs.Potential.{FeasiblePotential}
use Rattle.net_theory.specs.ResidualCapacity.{has_capacity}
use Rattle.net_theory.specs.ReducedCost.{reduced}
use Rattle.net_theory.specs.Graph.{net_with}

-- f is a least-cost flow with the feasible potential π; the arcs that `free` marks have reduced cost 0, and the others the same number in every least-cost flow
pub record FreeMarks (N : Net) (π : ℕ → ℤ) (free : List Bool) (f : List ℕ) : Type 0 where
  pub well_formed : WellFormed N
  pub marked : (a : ℕ) → a < arcs N → get_or free a false ≡ true → reduced N π a ≡ pos 0
  pub unmarked : (a : ℕ) → a < arcs N → get_or free a false ≡ false → (g : List ℕ) → LeastCost N g → get_or g a 0 ≡ get_or f a 0
  pub least : LeastCost N f
  pub feasible : FeasiblePotential N (has_capacity N f 1) π

-- P holds of the arcs and bounds of N, whatever the balances, the costs and the potential
abbrev pub ForAll : Net → (Net → (ℕ → ℤ) → Type 0) → Type 0
ForAll N P = (b c : List ℤ) (π : ℕ → ℤ) → P (net_with b N.tails N.heads N.lows N.ups c) π
