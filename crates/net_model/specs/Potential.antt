-- Feasible potentials: a number for each node, which rises along a walk by no more than the walk costs.
use Rattle.std.specs.Prelude.{◌≡◌, Bool, true, ℕ, ◌<◌, ℤ, ◌+ℤ◌, ◌≤ℤ◌}
use Rattle.net_model.specs.Network.{Net}
use Rattle.net_model.specs.Residual.{codes, src, dst, step_cost}

-- π is a feasible potential of the codes that p holds of: none of them has a reduced cost below 0
abbrev pub FeasiblePotential : Net → (ℕ → Bool) → (ℕ → ℤ) → Type 0
FeasiblePotential N p π = (c : ℕ) → c < codes N → p c ≡ true → π (dst N c) ≤ℤ (π (src N c) +ℤ step_cost N c)
