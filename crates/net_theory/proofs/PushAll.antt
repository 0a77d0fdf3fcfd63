-- Pushing δ along a walk: bounds, balances and cost.
use mathlib.Core.Path.{◌≡◌, refl, ap, ◌∙◌}
use mathlib.Core.Logic.{◌≢◌}
use mathlib.Core.List.{List, [], ◌∷◌}
use mathlib.Core.Bool.{true}
use Prim.Native.Nat.{ℕ, ◌+◌, ◌-◌, ◌/◌, ◌<◌}
use native.Mathlib.Omega.{arith}
use lib.ListN.{get_or}
use lib.Seq.{get_or-set_other}
use lib.IntN.{ℤ, pos, ◌+ℤ◌, ◌-ℤ◌, ◌*ℤ◌}
use Rattle.laws.specs.Ascending.{Distinct}
use Rattle.laws.specs.Divergence.{at}
use Rattle.laws.specs.Linear.{lin, ring, given, given2, given3}
use Rattle.laws.specs.Members.{Every}
use Rattle.net_model.specs.Network.{Net, net_out, cost_of}
use Rattle.net_model.specs.Residual.{codes, either, src, dst, step_cost, CodeWalk, walk_cost}
use Rattle.net_model.proofs.Walks.{walk_holds, walk_with}
use Rattle.net_theory.specs.ResidualCapacity.{has_capacity}
use Rattle.net_theory.specs.Bounds.{InBounds}
use Rattle.net_theory.specs.Push.{push_one, push_all}
use Rattle.net_theory.proofs.PushOne.{one_net_out, one_cost, one_bounds, others_capacity}

module _ (N : Net) (δ : ℕ) where
  -- the rest of a walk, after its first code
  rest : (c : ℕ) (cs f : List ℕ) (u : ℕ) → InBounds N f → c < codes N → has_capacity N f δ c ≡ true → Every (λ x. x ≢ c) cs → CodeWalk N (has_capacity N f δ) u (src N c) cs → CodeWalk N (has_capacity N (push_one δ c f) δ) u (src N c) cs
  rest c cs f u b l r ne w =
      walk_with (codes N) (src N) (dst N) (has_capacity N f δ) (has_capacity N (push_one δ c f) δ) u (src N c) cs
      (others_capacity N δ f c b l r cs ne (walk_holds (codes N) (src N) (dst N) (has_capacity N f δ) u (src N c) cs w)) w

  pub all_bounds : (cs : List ℕ) (f : List ℕ) (u v : ℕ) → InBounds N f → CodeWalk N (has_capacity N f δ) u v cs → Distinct cs → InBounds N (push_all δ cs f)
  all_bounds [] f u v b t d = b
  all_bounds (c ∷ cs) f u v b t d =
      all_bounds cs (push_one δ c f) u (src N c) (one_bounds N δ f c b t.0 t.1) (rest c cs f u b t.0 t.1 d.0 t.3) d.1

  pub all_net_out : (cs : List ℕ) (f : List ℕ) (u v w : ℕ) → InBounds N f → CodeWalk N (has_capacity N f δ) u v cs → Distinct cs
      → net_out N (push_all δ cs f) w ≡ net_out N f w +ℤ (at u w (pos δ) -ℤ at v w (pos δ))
  all_net_out [] f u v w b t d = nought (net_out N f w) (at u w (pos δ)) (at v w (pos δ)) (ap (λ i. at i w (pos δ)) t)
    where
      nought : (x p q : ℤ) → p ≡ q → x ≡ x +ℤ (p -ℤ q)
      nought x p q e = given e (simp lin (omega arith))
  all_net_out (c ∷ cs) f u v w b t d =
      chain (net_out N (push_all δ cs (push_one δ c f)) w) (net_out N (push_one δ c f) w) (net_out N f w) (at u w (pos δ)) (at (src N c) w (pos δ)) (at (dst N c) w (pos δ)) (at v w (pos δ))
      (all_net_out cs (push_one δ c f) u (src N c) w (one_bounds N δ f c b t.0 t.1) (rest c cs f u b t.0 t.1 d.0 t.3) d.1)
      (one_net_out N δ f c b t.0 t.1 w)
      (ap (λ i. at i w (pos δ)) t.2)
    where
      chain : (x y z u s d v : ℤ) → x ≡ y +ℤ (u -ℤ s) → y ≡ z +ℤ (s -ℤ d) → d ≡ v → x ≡ z +ℤ (u -ℤ v)
      chain x y z u s d v p q r = given3 p q r (simp lin (omega arith))

  pub all_cost : (cs : List ℕ) (f : List ℕ) (u v : ℕ) → InBounds N f → CodeWalk N (has_capacity N f δ) u v cs → Distinct cs
      → cost_of N (push_all δ cs f) ≡ cost_of N f +ℤ walk_cost N cs *ℤ pos δ
  all_cost [] f u v b t d = nought (cost_of N f) (pos δ)
    where
      nought : (x y : ℤ) → x ≡ x +ℤ pos 0 *ℤ y
      nought x y = simp ring (omega arith)
  all_cost (c ∷ cs) f u v b t d =
      chain (cost_of N (push_all δ cs (push_one δ c f))) (cost_of N (push_one δ c f)) (cost_of N f) (walk_cost N cs) (step_cost N c) (pos δ)
      (all_cost cs (push_one δ c f) u (src N c) (one_bounds N δ f c b t.0 t.1) (rest c cs f u b t.0 t.1 d.0 t.3) d.1)
      (one_cost N δ f c b t.0 t.1)
    where
      chain : (x y z t s d : ℤ) → x ≡ y +ℤ t *ℤ d → y ≡ z +ℤ s *ℤ d → x ≡ z +ℤ (s +ℤ t) *ℤ d
      chain x y z t s d p q = given2 p q (simp ring (omega arith))

  -- arcs that the walk does not use
  pub all_other : (cs : List ℕ) (f : List ℕ) (a : ℕ) → Every (λ c. a ≢ c / 2) cs → get_or (push_all δ cs f) a 0 ≡ get_or f a 0
  all_other [] f a h = refl
  all_other (c ∷ cs) f a h =
      all_other cs (push_one δ c f) a h.1 ∙ get_or-set_other f (c / 2) a (either c (get_or f (c / 2) 0 + δ) (get_or f (c / 2) 0 - δ)) 0 h.0
