-- Under a feasible potential a walk costs at least what the potential rises along it, so a closed walk costs at least 0.
use mathlib.Core.Path.{◌≡◌, sym, ap, subst}
use mathlib.Core.Bool.{Bool}
use mathlib.Core.List.{List, [], ◌∷◌}
use Prim.Native.Nat.{ℕ}
use native.Mathlib.Omega.{arith}
use lib.IntN.{ℤ, pos, ◌+ℤ◌, ◌-ℤ◌}
use lib.Signed.{◌≤ℤ◌}
use Rattle.laws.specs.Linear.{lin, given, given3}
use Rattle.net_model.specs.Network.{Net}
use Rattle.net_model.specs.Residual.{src, dst, step_cost, walk_cost, CodeWalk}
use Rattle.net_model.specs.Potential.{FeasiblePotential}

module _ (N : Net) (p : ℕ → Bool) (π : ℕ → ℤ) (q : FeasiblePotential N p π) where
  pub rise : (u v : ℕ) (cs : List ℕ) → CodeWalk N p u v cs → (π v -ℤ π u) ≤ℤ walk_cost N cs
  rise u v [] e = subst (λ x. (π x -ℤ π u) ≤ℤ pos 0) e (simp lin (omega arith))
  rise u v (c ∷ cs) (a, b, e, t) =
      sum (π v) (π (dst N c)) (π (src N c)) (π u) (step_cost N c) (walk_cost N cs) (ap π (sym e)) (q c a b) (rise u (src N c) cs t)
    where
      sum : (y d s u c w : ℤ) → y ≡ d → d ≤ℤ (s +ℤ c) → (s -ℤ u) ≤ℤ w → (y -ℤ u) ≤ℤ (c +ℤ w)
      sum y d s u c w e h k = given3 e h k (simp lin (omega arith))

  pub closed_nonneg : (v : ℕ) (cs : List ℕ) → CodeWalk N p v v cs → pos 0 ≤ℤ walk_cost N cs
  closed_nonneg v cs w = given (rise v v cs w) (simp lin (omega arith))
