-- Prices bound the residual walks of every least-cost flow: where two of these flows have prices, they are the same numbers.
use mathlib.Core.Path.{◌≡◌, refl}
use mathlib.Core.List.{List, [], ◌∷◌}
use Prim.Native.Nat.{ℕ, ◌<◌}
use native.Mathlib.Omega.{arith}
use lib.IntN.{ℤ}
use lib.Signed.{◌≤ℤ◌}
use Rattle.laws.specs.Linear.{lin, given2, given3, given4}
use Rattle.net_model.specs.Network.{Net, WellFormed, nodes, LeastCost}
use Rattle.net_model.specs.Potential.{FeasiblePotential}
use Rattle.net_model.specs.Residual.{src, dst, Price}
use Rattle.net_model.proofs.Rises.{rise}
use Rattle.net_theory.specs.ResidualCapacity.{has_capacity}
use Rattle.net_theory.proofs.Codes.{src_below, dst_below}
use Rattle.net_theory.proofs.ResidualCapacity.{has_capacity_usable, walk_has_capacity}
use Rattle.net_theory.proofs.Optimality.{feasible_any}

-- π has the price of each node
abbrev pub Priced : Net → List ℕ → (ℕ → ℤ) → Type 0
Priced N f π = (v : ℕ) → v < nodes N → Price N f v (π v)

-- a node has one price
pub price_once : (N : Net) (f : List ℕ) (v : ℕ) (p q : ℤ) → Price N f v p → Price N f v q → p ≡ q
price_once N f v p q a b =
    given4 (a.least b.from b.walk b.starts b.leads) b.costs (b.least a.from a.walk a.starts a.leads) a.costs (simp lin (omega arith))

module _ (N : Net) (ok : WellFormed N) where
  -- a walk to where a residual arc starts, and that arc, lead to where it ends: prices are a feasible potential
  prices_feasible : (f : List ℕ) (π : ℕ → ℤ) → Priced N f π → FeasiblePotential N (has_capacity N f 1) π
  prices_feasible f π P c h e =
      let s = P (src N c) (src_below (nodes N) N ok.tail_in ok.head_in c h) in
      let d = P (dst N c) (dst_below (nodes N) N ok.tail_in ok.head_in c h) in
      given2 (d.least s.from (c ∷ s.walk) s.starts (h, has_capacity_usable N f 1 c (omega arith) e, refl, s.leads)) s.costs (simp lin (omega arith))

  -- and one of every other least-cost flow, whose walks so cost no less
  at_most : (f g : List ℕ) (π : ℕ → ℤ) → LeastCost N f → LeastCost N g → Priced N f π → (v : ℕ) (q : ℤ) → Price N g v q → π v ≤ℤ q
  at_most f g π lf lg P v q r =
      given3 (rise N (has_capacity N g 1) π (feasible_any N ok f g π lf.flow (prices_feasible f π P) lg) r.from v r.walk (walk_has_capacity N g r.from v r.walk r.leads))
      ((P r.from r.starts).least r.from [] r.starts refl) r.costs (simp lin (omega arith))

  pub same_prices : (f g : List ℕ) (π ρ : ℕ → ℤ) → LeastCost N f → LeastCost N g → Priced N f π → Priced N g ρ → (v : ℕ) → v < nodes N → π v ≡ ρ v
  same_prices f g π ρ lf lg P Q v h = given2 (at_most f g π lf lg P v (ρ v) (Q v h)) (at_most g f ρ lg lf Q v (π v) (P v h)) (simp lin (omega arith))
