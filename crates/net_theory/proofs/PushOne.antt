-- Pushing δ along one code: bounds, balances, cost, and the residual capacity of the other codes.
use mathlib.Core.Path.{◌≡◌, refl, sym, ap, subst, ◌∙◌}
use mathlib.Core.Logic.{◌≢◌}
use mathlib.Core.List.{List}
use mathlib.Core.Bool.{Bool, true, false, cond}
use Prim.Native.Nat.{ℕ, ◌+◌, ◌-◌, ◌/◌, ◌%◌, ◌≤◌, ◌<◌}
use native.Mathlib.Omega.{arith}
use native.Mathlib.Decide.{ℕ_discrete}
use lib.Dec.{eqb}
use lib.ListN.{get_or, length-set}
use lib.Seq.{get_or-set_same, get_or-set_other}
use lib.IntN.{ℤ, pos, neg_ℤ, ◌+ℤ◌, ◌-ℤ◌, ◌*ℤ◌}
use Rattle.laws.specs.Divergence.{at, at_neg}
use Rattle.laws.specs.Equality.{test_same, test_differ}
use Rattle.laws.specs.Linear.{lin, ring, given, given2}
use Rattle.laws.specs.Members.{Every, every_map2}
use Rattle.net_model.specs.Network.{Net, tail, head, low, up, cost, net_out, cost_of}
use Rattle.net_model.specs.Residual.{codes, either, src, dst, step_cost}
use Rattle.net_theory.specs.ResidualCapacity.{has_capacity}
use Rattle.net_theory.specs.Bounds.{InBounds}
use Rattle.net_theory.specs.Push.{push_one}
use Rattle.net_theory.proofs.Codes.{arc_in}
use Rattle.net_theory.proofs.ResidualCapacity.{has_capacity_forth, has_capacity_back, has_capacity_both}
use Rattle.net_theory.proofs.Change.{set_net_out, set_cost}

pos_add : (x δ : ℕ) → pos (x + δ) ≡ pos x +ℤ pos δ
pos_add x δ = refl

pos_sub : (x δ : ℕ) → δ ≤ x → pos (x - δ) ≡ pos x +ℤ neg_ℤ (pos δ)
pos_sub x δ h = move (pos (x - δ)) (pos δ) (pos x) (ap pos (omega arith))
  where
    move : (p d q : ℤ) → p +ℤ d ≡ q → p ≡ q +ℤ neg_ℤ d
    move p d q e = given e (simp lin (omega arith))

-- two codes of one arc that differ run opposite ways
same_way : (c d : ℕ) → c / 2 ≡ d / 2 → d ≢ c → (b : Bool) → eqb (c % 2) 0 ≡ b → eqb (d % 2) 0 ≡ b → ⊥
same_way c d e ne true p q = ne (omega (arith, test_same (c % 2) 0 p, test_same (d % 2) 0 q))
same_way c d e ne false p q = ne (omega (arith, test_differ (c % 2) 0 p, test_differ (d % 2) 0 q))

module _ (N : Net) (δ : ℕ) where
  module _ (f : List ℕ) (c : ℕ) (b : InBounds N f) (l : c < codes N) (capacity : has_capacity N f δ c ≡ true) where
    pub one_net_out : (v : ℕ) → net_out N (push_one δ c f) v ≡ net_out N f v +ℤ (at (src N c) v (pos δ) -ℤ at (dst N c) v (pos δ))
    one_net_out v = go (eqb (c % 2) 0) refl
      where
        go : (t : Bool) → eqb (c % 2) 0 ≡ t → net_out N (push_one δ c f) v ≡ net_out N f v +ℤ (at (src N c) v (pos δ) -ℤ at (dst N c) v (pos δ))
        go true e = rw e (set_net_out N f (c / 2) (get_or f (c / 2) 0 + δ) (pos δ) b.all_arcs (arc_in N c l) (pos_add (get_or f (c / 2) 0) δ) v)
        go false e =
            rw e (set_net_out N f (c / 2) (get_or f (c / 2) 0 - δ) (neg_ℤ (pos δ)) b.all_arcs (arc_in N c l) (pos_sub (get_or f (c / 2) 0) δ (omega (arith, has_capacity_back N f δ c capacity e))) v
            ∙ ap (λ z. net_out N f v +ℤ z) (turn (at (tail N (c / 2)) v (neg_ℤ (pos δ))) (at (head N (c / 2)) v (neg_ℤ (pos δ))) (at (tail N (c / 2)) v (pos δ)) (at (head N (c / 2)) v (pos δ)) (at_neg (tail N (c / 2)) v (pos δ)) (at_neg (head N (c / 2)) v (pos δ))))
          where
            turn : (x y p q : ℤ) → x ≡ neg_ℤ p → y ≡ neg_ℤ q → x -ℤ y ≡ q -ℤ p
            turn x y p q d e = given2 d e (simp lin (omega arith))

    pub one_cost : cost_of N (push_one δ c f) ≡ cost_of N f +ℤ step_cost N c *ℤ pos δ
    one_cost = go (eqb (c % 2) 0) refl
      where
        go : (t : Bool) → eqb (c % 2) 0 ≡ t → cost_of N (push_one δ c f) ≡ cost_of N f +ℤ step_cost N c *ℤ pos δ
        go true e = rw e (set_cost N f (c / 2) (get_or f (c / 2) 0 + δ) (pos δ) b.all_arcs (arc_in N c l) (pos_add (get_or f (c / 2) 0) δ))
        go false e =
            rw e (set_cost N f (c / 2) (get_or f (c / 2) 0 - δ) (neg_ℤ (pos δ)) b.all_arcs (arc_in N c l) (pos_sub (get_or f (c / 2) 0) δ (omega (arith, has_capacity_back N f δ c capacity e)))
            ∙ ap (λ z. cost_of N f +ℤ z) (turn (cost N (c / 2)) (pos δ)))
          where
            turn : (x d : ℤ) → x *ℤ neg_ℤ d ≡ neg_ℤ x *ℤ d
            turn x d = simp ring (omega arith)

    -- the number on the arc itself, and on the others
    one_here : (t : Bool) → eqb (c % 2) 0 ≡ t → get_or (push_one δ c f) (c / 2) 0 ≡ cond t (get_or f (c / 2) 0 + δ) (get_or f (c / 2) 0 - δ)
    one_here t e = get_or-set_same f (c / 2) (either c (get_or f (c / 2) 0 + δ) (get_or f (c / 2) 0 - δ)) 0 (omega (arith, b.all_arcs, (arc_in N c l))) ∙ rw e

    one_other : (a : ℕ) → a ≢ c / 2 → get_or (push_one δ c f) a 0 ≡ get_or f a 0
    one_other a ne = get_or-set_other f (c / 2) a (either c (get_or f (c / 2) 0 + δ) (get_or f (c / 2) 0 - δ)) 0 ne

    -- what holds of the number on every arc
    each_arc : (a : ℕ) (P : ℕ → Type 0) → P (get_or f a 0) → (a ≡ c / 2 → (t : Bool) → eqb (c % 2) 0 ≡ t → P (cond t (get_or f (c / 2) 0 + δ) (get_or f (c / 2) 0 - δ))) → P (get_or (push_one δ c f) a 0)
    each_arc a P old new = go (ℕ_discrete a (c / 2))
      where
        go : Dec (a ≡ c / 2) → P (get_or (push_one δ c f) a 0)
        go (yes q) = subst (λ (i : ℕ). P (get_or (push_one δ c f) i 0)) (sym q) (subst P (sym (one_here (eqb (c % 2) 0) refl)) (new q (eqb (c % 2) 0) refl))
        go (no q) = subst P (sym (one_other a q)) old

    pub one_bounds : InBounds N (push_one δ c f)
    one_bounds = record {
      all_arcs = length-set f (c / 2) (either c (get_or f (c / 2) 0 + δ) (get_or f (c / 2) 0 - δ)) ∙ b.all_arcs;
      above = λ a h. each_arc a (λ x. low N a ≤ x) (b.above a h) (λ q. subst (λ (i : ℕ). (t : Bool) → eqb (c % 2) 0 ≡ t → low N i ≤ cond t (get_or f (c / 2) 0 + δ) (get_or f (c / 2) 0 - δ)) (sym q) low_at);
      below = λ a h. each_arc a (λ x. x ≤ up N a) (b.below a h) (λ q. subst (λ (i : ℕ). (t : Bool) → eqb (c % 2) 0 ≡ t → cond t (get_or f (c / 2) 0 + δ) (get_or f (c / 2) 0 - δ) ≤ up N i) (sym q) up_at);
    }
      where
        low_at : (t : Bool) → eqb (c % 2) 0 ≡ t → low N (c / 2) ≤ cond t (get_or f (c / 2) 0 + δ) (get_or f (c / 2) 0 - δ)
        low_at true e = omega (arith, b.above (c / 2) (arc_in N c l))
        low_at false e = omega (arith, has_capacity_back N f δ c capacity e)

        up_at : (t : Bool) → eqb (c % 2) 0 ≡ t → cond t (get_or f (c / 2) 0 + δ) (get_or f (c / 2) 0 - δ) ≤ up N (c / 2)
        up_at true e = omega (arith, has_capacity_forth N f δ c capacity e)
        up_at false e = omega (arith, b.below (c / 2) (arc_in N c l))

    -- what can go along another code still can
    pub one_capacity : (d : ℕ) → d ≢ c → has_capacity N f δ d ≡ true → has_capacity N (push_one δ c f) δ d ≡ true
    one_capacity d ne h = has_capacity_both N (push_one δ c f) δ d
        (λ p. each_arc (d / 2) (λ x. x + δ ≤ up N (d / 2)) (has_capacity_forth N f δ d h p) (λ q t e. forth_at p q t e))
        (λ p. each_arc (d / 2) (λ x. low N (d / 2) + δ ≤ x) (has_capacity_back N f δ d h p) (λ q t e. back_at p q t e))
      where
        forth_at : eqb (d % 2) 0 ≡ true → d / 2 ≡ c / 2 → (t : Bool) → eqb (c % 2) 0 ≡ t → cond t (get_or f (c / 2) 0 + δ) (get_or f (c / 2) 0 - δ) + δ ≤ up N (d / 2)
        forth_at p q true e = absurd (same_way c d (sym q) ne true e p)
        forth_at p q false e = rw q (omega (arith, has_capacity_back N f δ c capacity e, b.below (c / 2) (arc_in N c l)))

        back_at : eqb (d % 2) 0 ≡ false → d / 2 ≡ c / 2 → (t : Bool) → eqb (c % 2) 0 ≡ t → low N (d / 2) + δ ≤ cond t (get_or f (c / 2) 0 + δ) (get_or f (c / 2) 0 - δ)
        back_at p q true e = rw q (omega (arith, b.above (c / 2) (arc_in N c l)))
        back_at p q false e = absurd (same_way c d (sym q) ne false e p)

    pub others_capacity : (cs : List ℕ) → Every (λ x. x ≢ c) cs → Every (λ x. has_capacity N f δ x ≡ true) cs → Every (λ x. has_capacity N (push_one δ c f) δ x ≡ true) cs
    others_capacity cs = every_map2 (λ x. x ≢ c) (λ x. has_capacity N f δ x ≡ true) (λ x. has_capacity N (push_one δ c f) δ x ≡ true) cs one_capacity
