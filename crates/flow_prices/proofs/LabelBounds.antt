-- Where no cycle is negative, labels that are costs of residual walks are within 63,000,000, inside a round too.
use mathlib.Core.Path.{◌≡◌}
use mathlib.Core.List.{List, [], ◌∷◌}
use Prim.Native.Nat.{ℕ, ◌*◌, ◌<◌}
use native.Mathlib.Omega.{arith}
use lib.ListN.{length, get_or}
use lib.IntN.{ℤ, pos}
use lib.Signed.{◌≤ℤ◌}
use Rattle.laws.specs.Linear.{given2}
use Rattle.laws.specs.Range.{Bounded, bounded_add, bounded_more, bounded_zero, fits}
use Rattle.net_model.specs.Network.{Net}
use Rattle.net_model.specs.Residual.{src, step_cost, Walk, walk_cost}
use Rattle.net_theory.proofs.ResidualCapacity.{has_capacity_walk, walk_has_capacity}
use Rattle.flow_relax.specs.Labels.{Relaxable}
use Rattle.flow_relax.specs.Potentials.{HasPotential}
use Rattle.flow_relax.proofs.StepCosts.{step_small}
use Rattle.flow_prices.specs.Prices.{WalkLabels}
use Rattle.flow_prices.proofs.Shorten.{shorten}

module _ (N : Net) (f : List ℕ) (ok : Relaxable N f) where
  walk_small : (u v : ℕ) (cs : List ℕ) → Walk N f u v cs → Bounded (1000000 * length cs) (walk_cost N cs)
  walk_small u v [] w = bounded_more (omega arith) bounded_zero
  walk_small u v (c ∷ cs) w = bounded_more (omega arith) (bounded_add {A = 1000000} {B = 1000000 * length cs} {x = step_cost N c} {y = walk_cost N cs} (step_small N ok.costs c w.0) (walk_small u (src N c) cs w.3))

  -- a walk of at most 63 arcs costs no more than the label, which is at most 0
  pub labels_small : HasPotential N f 1 → (d : List ℤ) → WalkLabels N f d → (v : ℕ) → v < 64 → Bounded 63000000 (get_or d v (pos 0))
  labels_small q d W v h =
      let (u, cs, w, e) = W.walked v h in
      let s = shorten N f 1 ok.ends q.potential q.feasible u v cs h (walk_has_capacity N f u v cs w) in
      let x = has_capacity_walk N f 1 (omega arith) u v s.walk s.leads in
      between (get_or d v (pos 0)) (walk_cost N s.walk) (walk_cost N cs) e s.costs (W.at_most_0 v) (bounded_more (omega (arith, s.few)) (walk_small u v s.walk x))
    where
      between : (a b c : ℤ) → c ≡ a → b ≤ℤ c → a ≤ℤ pos 0 → Bounded 63000000 b → Bounded 63000000 a
      between a b c e l k h = given2 e l (given2 k h (simp fits (omega arith)))
