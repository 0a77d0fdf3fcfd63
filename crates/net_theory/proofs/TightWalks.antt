-- Pushing along a closed walk of tight arcs keeps a flow, and its least cost.
use mathlib.Core.Path.{◌≡◌, refl, ap}
use mathlib.Core.List.{List, [], ◌∷◌}
use mathlib.Core.Bool.{Bool, true, false}
use Prim.Native.Nat.{ℕ, ◌/◌, ◌%◌}
use native.Mathlib.Omega.{arith}
use lib.Dec.{eqb}
use lib.IntN.{ℤ, pos, neg_ℤ, ◌+ℤ◌, ◌-ℤ◌, ◌*ℤ◌}
use lib.Signed.{◌≤ℤ◌}
use Rattle.laws.specs.Ascending.{Distinct}
use Rattle.laws.specs.Divergence.{at}
use Rattle.laws.specs.Linear.{lin, ring, given, given2, given3}
use Rattle.laws.specs.Members.{Every}
use Rattle.net_model.specs.Network.{Net, tail, head, cost, balance, net_out, IsFlow, cost_of, LeastCost}
use Rattle.net_model.specs.Residual.{src, dst, step_cost, CodeWalk, walk_cost}
use Rattle.net_theory.specs.ResidualCapacity.{has_capacity}
use Rattle.net_theory.specs.Push.{push_all}
use Rattle.net_theory.specs.ArcChange.{TightStep}
use Rattle.net_theory.proofs.Bounds.{flow_bounds}
use Rattle.net_theory.proofs.PushAll.{all_bounds, all_net_out, all_cost}

module _ (N : Net) (π : ℕ → ℤ) where
  -- the reduced cost of a residual arc
  abbrev step_reduced : ℕ → ℤ
  step_reduced c = (step_cost N c +ℤ π (src N c)) -ℤ π (dst N c)

  tight_step : (c : ℕ) → TightStep N π c → step_reduced c ≡ pos 0
  tight_step c h = go (eqb (c % 2) 0) refl
    where
      go : (t : Bool) → eqb (c % 2) 0 ≡ t → step_reduced c ≡ pos 0
      go true e = rw e h
      go false e = rw e (turn (cost N (c / 2)) (π (tail N (c / 2))) (π (head N (c / 2))) h)
        where
          turn : (c p q : ℤ) → (c +ℤ p) -ℤ q ≡ pos 0 → (neg_ℤ c +ℤ q) -ℤ p ≡ pos 0
          turn c p q h = given h (simp lin (omega arith))

  tight_cost : (p : ℕ → Bool) (cs : List ℕ) (u v : ℕ) → CodeWalk N p u v cs → Every (TightStep N π) cs → walk_cost N cs ≡ π v -ℤ π u
  tight_cost p [] u v t h = given (ap π t) (simp lin (omega arith))
  tight_cost p (c ∷ cs) u v t h =
      chain (step_cost N c) (walk_cost N cs) (π (src N c)) (π (dst N c)) (π u) (π v) (tight_step c h.0) (tight_cost p cs u (src N c) t.3 h.1) (ap π t.2)
    where
      chain : (c r s d u v : ℤ) → (c +ℤ s) -ℤ d ≡ pos 0 → r ≡ s -ℤ u → d ≡ v → c +ℤ r ≡ v -ℤ u
      chain c r s d u v p q e = given3 p q e (simp lin (omega arith))

  -- a closed walk keeps the balances
  closed_flow : (δ : ℕ) (cs : List ℕ) (f : List ℕ) (v : ℕ) → IsFlow N f → CodeWalk N (has_capacity N f δ) v v cs → Distinct cs → IsFlow N (push_all δ cs f)
  closed_flow δ cs f v ff t d =
      let b = all_bounds N δ cs f v v (flow_bounds N f ff) t d in
      record {
        all_arcs = b.all_arcs;
        above = b.above;
        below = b.below;
        balanced = λ w k. still (net_out N (push_all δ cs f) w) (net_out N f w) (at v w (pos δ)) (balance N w) (all_net_out N δ cs f v v w (flow_bounds N f ff) t d) (ff.balanced w k);
      }
    where
      still : (x y z b : ℤ) → x ≡ y +ℤ (z -ℤ z) → y ≡ b → x ≡ b
      still x y z b p q = given2 p q (simp lin (omega arith))

  -- a closed walk of tight steps keeps the least cost
  pub closed_least : (δ : ℕ) (cs : List ℕ) (f : List ℕ) (v : ℕ) → LeastCost N f → CodeWalk N (has_capacity N f δ) v v cs → Distinct cs → Every (TightStep N π) cs → LeastCost N (push_all δ cs f)
  closed_least δ cs f v lf t d ti = record {
    flow = closed_flow δ cs f v lf.flow t d;
    least = λ g fg. still (cost_of N (push_all δ cs f)) (cost_of N f) (cost_of N g) (walk_cost N cs) (pos δ) (π v) (all_cost N δ cs f v v (flow_bounds N f lf.flow) t d) (tight_cost (has_capacity N f δ) cs v v t ti) (lf.least g fg);
  }
    where
      nought : (s p : ℤ) → s ≡ p -ℤ p → s ≡ pos 0
      nought s p e = given e (simp lin (omega arith))

      drop : (s d : ℤ) → s ≡ pos 0 → s *ℤ d ≡ pos 0
      drop s d e = rw e (simp ring (omega arith))

      still : (x y z s d p : ℤ) → x ≡ y +ℤ s *ℤ d → s ≡ p -ℤ p → y ≤ℤ z → x ≤ℤ z
      still x y z s d p e q h = given3 e (drop s d (nought s p q)) h (simp lin (omega arith))
