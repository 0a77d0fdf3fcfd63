-- Feasible potentials certify least cost: reduced costs, tight arcs, and that a feasible potential of one least-cost flow is one of every other.
use mathlib.Core.Path.{◌≡◌, refl, ap, ◌∙◌}
use mathlib.Core.Logic.{◌⊎◌, inl, inr, ◌≢◌}
use mathlib.Core.List.{List}
use mathlib.Core.Bool.{Bool, true, false}
use Prim.Native.Nat.{ℕ, suc, ◌+◌, ◌/◌, ◌%◌, ◌≤◌, ◌<◌}
use native.Mathlib.Omega.{arith}
use native.Mathlib.Decide.{dec_lt}
use lib.Dec.{eqb}
use lib.ListN.{get_or}
use lib.IntN.{ℤ, pos, ◌+ℤ◌, ◌-ℤ◌, ◌*ℤ◌}
use lib.Signed.{◌≤ℤ◌, ◌<ℤ◌}
use borrow.Author.Tests.{le-leb}
use Rattle.laws.specs.Integers.{le_z_or_lt, *_nonneg, *_nonpos, zero_product, times_same}
use Rattle.laws.specs.Linear.{lin, ring, given, given2, given3}
use Rattle.laws.specs.Sum.{sum, sum_cong, sum_add, sum_sub, sum_nonneg, sum_zero_each}
use Rattle.net_model.specs.Network.{Net, arcs, tail, head, low, up, cost, on, IsFlow, cost_of, LeastCost, WellFormed}
use Rattle.net_model.specs.Potential.{FeasiblePotential}
use Rattle.net_model.specs.Residual.{src, dst, step_cost}
use Rattle.net_theory.specs.ResidualCapacity.{has_capacity}
use Rattle.net_theory.specs.ReducedCost.{reduced}
use Rattle.net_theory.proofs.Codes.{even_code, odd_code, even_arc, odd_arc}
use Rattle.net_theory.proofs.ResidualCapacity.{has_capacity_forth, has_capacity_back}
use Rattle.net_theory.proofs.Circulation.{circulation}

-- a feasible potential of the residual arcs, arc by arc
record Optimal (N : Net) (f : List ℕ) (π : ℕ → ℤ) : Type 0 where
  capacity_up : (a : ℕ) → a < arcs N → get_or f a 0 < up N a → pos 0 ≤ℤ reduced N π a
  capacity_down : (a : ℕ) → a < arcs N → low N a < get_or f a 0 → reduced N π a ≤ℤ pos 0

feasible_optimal : (N : Net) (f : List ℕ) (π : ℕ → ℤ) → FeasiblePotential N (has_capacity N f 1) π → Optimal N f π
feasible_optimal N f π p = record { capacity_up = forth; capacity_down = back }
  where
    forth : (a : ℕ) → a < arcs N → get_or f a 0 < up N a → pos 0 ≤ℤ reduced N π a
    forth a h l = given (rw (even_code a, even_arc a) at (p (a + a) (omega arith) (rw (even_code a, even_arc a) (le-leb (get_or f a 0 + 1) (up N a) (omega arith))))) (simp lin (omega arith))

    back : (a : ℕ) → a < arcs N → low N a < get_or f a 0 → reduced N π a ≤ℤ pos 0
    back a h l = given (rw (odd_code a, odd_arc a) at (p (suc (a + a)) (omega arith) (rw (odd_code a, odd_arc a) (le-leb (low N a + 1) (get_or f a 0) (omega arith))))) (simp lin (omega arith))

optimal_feasible : (N : Net) (f : List ℕ) (π : ℕ → ℤ) → Optimal N f π → FeasiblePotential N (has_capacity N f 1) π
optimal_feasible N f π o c k r = go (eqb (c % 2) 0) refl
  where
    go : (t : Bool) → eqb (c % 2) 0 ≡ t → π (dst N c) ≤ℤ (π (src N c) +ℤ step_cost N c)
    go true e = rw e (given (o.capacity_up (c / 2) (omega arith) (omega (arith, has_capacity_forth N f 1 c r e))) (simp lin (omega arith)))
    go false e = rw e (given (o.capacity_down (c / 2) (omega arith) (omega (arith, has_capacity_back N f 1 c r e))) (simp lin (omega arith)))

arc_nonneg : (r : ℤ) (x y l u : ℕ) → l ≤ y → y ≤ u → (x < u → pos 0 ≤ℤ r) → (l < x → r ≤ℤ pos 0) → pos 0 ≤ℤ (r *ℤ (pos y -ℤ pos x))
arc_nonneg r x y l u p q f g = go (dec_lt x y) (dec_lt y x)
  where
    go : Dec (x < y) → Dec (y < x) → pos 0 ≤ℤ (r *ℤ (pos y -ℤ pos x))
    go (yes h) d = *_nonneg (f (omega arith)) (simp lin (omega arith))
    go (no h) (yes k) = *_nonpos (g (omega arith)) (simp lin (omega arith))
    go (no h) (no k) = given (times_same r (pos y) (pos x) (ap pos (omega arith))) (simp lin (omega arith))

module _ (N : Net) (ok : WellFormed N) where
  -- what g costs above f, in reduced costs
  gap : (f g : List ℕ) (π : ℕ → ℤ) → IsFlow N f → IsFlow N g
      → cost_of N g -ℤ cost_of N f ≡ sum (arcs N) (λ a. reduced N π a *ℤ (on g a -ℤ on f a))
  gap f g π ff fg =
      given3 split costs (circulation N ok f g π ff fg) (simp lin (omega arith))
    where
      expand : (c p q x y : ℤ) → ((c +ℤ p) -ℤ q) *ℤ (x -ℤ y) ≡ (c *ℤ x -ℤ c *ℤ y) +ℤ (p -ℤ q) *ℤ (x -ℤ y)
      expand c p q x y = simp ring (omega arith)

      split : sum (arcs N) (λ a. reduced N π a *ℤ (on g a -ℤ on f a))
          ≡ sum (arcs N) (λ a. cost N a *ℤ on g a -ℤ cost N a *ℤ on f a) +ℤ sum (arcs N) (λ a. (π (tail N a) -ℤ π (head N a)) *ℤ (on g a -ℤ on f a))
      split =
          sum_cong (arcs N) (λ a. reduced N π a *ℤ (on g a -ℤ on f a)) (λ a. (cost N a *ℤ on g a -ℤ cost N a *ℤ on f a) +ℤ (π (tail N a) -ℤ π (head N a)) *ℤ (on g a -ℤ on f a))
          (λ a l. expand (cost N a) (π (tail N a)) (π (head N a)) (on g a) (on f a))
          ∙ sum_add (arcs N) (λ a. cost N a *ℤ on g a -ℤ cost N a *ℤ on f a) (λ a. (π (tail N a) -ℤ π (head N a)) *ℤ (on g a -ℤ on f a))

      costs : sum (arcs N) (λ a. cost N a *ℤ on g a -ℤ cost N a *ℤ on f a) ≡ cost_of N g -ℤ cost_of N f
      costs = sum_sub (arcs N) (λ a. cost N a *ℤ on g a) (λ a. cost N a *ℤ on f a)

  terms : (f g : List ℕ) (π : ℕ → ℤ) → Optimal N f π → IsFlow N g → (a : ℕ) → a < arcs N → pos 0 ≤ℤ (reduced N π a *ℤ (on g a -ℤ on f a))
  terms f g π o fg a l = arc_nonneg (reduced N π a) (get_or f a 0) (get_or g a 0) (low N a) (up N a) (fg.above a l) (fg.below a l) (o.capacity_up a l) (o.capacity_down a l)

  -- a feasible potential shows least cost
  optimal_least : (f : List ℕ) (π : ℕ → ℤ) → IsFlow N f → Optimal N f π → LeastCost N f
  optimal_least f π ff o = record { flow = ff; least = least }
    where
      least : (g : List ℕ) → IsFlow N g → cost_of N f ≤ℤ cost_of N g
      least g fg = given2 (gap f g π ff fg) (sum_nonneg (arcs N) (λ a. reduced N π a *ℤ (on g a -ℤ on f a)) (terms f g π o fg)) (simp lin (omega arith))

  pub feasible_least : (f : List ℕ) (π : ℕ → ℤ) → IsFlow N f → FeasiblePotential N (has_capacity N f 1) π → LeastCost N f
  feasible_least f π ff p = optimal_least f π ff (feasible_optimal N f π p)

  -- an arc that is not tight has one number in all least-cost flows
  pub off_tight : (f g : List ℕ) (π : ℕ → ℤ) → IsFlow N f → FeasiblePotential N (has_capacity N f 1) π → LeastCost N g → (a : ℕ) → a < arcs N → reduced N π a ≢ pos 0 → get_or g a 0 ≡ get_or f a 0
  off_tight f g π ff p lg a l ne =
      given (zero_product (reduced N π a) (on g a -ℤ on f a) (sum_zero_each (arcs N) (λ a. reduced N π a *ℤ (on g a -ℤ on f a)) (terms f g π o lg.flow) none a l) ne)
      (simp lin (omega arith))
    where
      o : Optimal N f π
      o = feasible_optimal N f π p

      none : sum (arcs N) (λ a. reduced N π a *ℤ (on g a -ℤ on f a)) ≡ pos 0
      none = close (cost_of N g) (cost_of N f) (sum (arcs N) (λ a. reduced N π a *ℤ (on g a -ℤ on f a))) (gap f g π ff lg.flow) (lg.least f ff) ((optimal_least f π ff o).least g lg.flow)
        where
          close : (x y s : ℤ) → x -ℤ y ≡ s → x ≤ℤ y → y ≤ℤ x → s ≡ pos 0
          close x y s e p q = given3 e p q (simp lin (omega arith))

  -- a feasible potential of one least-cost flow is one of every other
  pub feasible_any : (f g : List ℕ) (π : ℕ → ℤ) → IsFlow N f → FeasiblePotential N (has_capacity N f 1) π → LeastCost N g → FeasiblePotential N (has_capacity N g 1) π
  feasible_any f g π ff p lg =
      optimal_feasible N g π (record { capacity_up = λ a l h. up_go a l h (le_z_or_lt (pos 0) (reduced N π a)); capacity_down = λ a l h. down_go a l h (le_z_or_lt (reduced N π a) (pos 0)) })
    where
      o : Optimal N f π
      o = feasible_optimal N f π p

      up_go : (a : ℕ) → a < arcs N → get_or g a 0 < up N a → (pos 0 ≤ℤ reduced N π a) ⊎ (reduced N π a <ℤ pos 0) → pos 0 ≤ℤ reduced N π a
      up_go a l h (inl q) = q
      up_go a l h (inr q) = o.capacity_up a l (omega (arith, off_tight f g π ff p lg a l (λ e. given2 e q (simp lin (omega arith)))))

      down_go : (a : ℕ) → a < arcs N → low N a < get_or g a 0 → (reduced N π a ≤ℤ pos 0) ⊎ (pos 0 <ℤ reduced N π a) → reduced N π a ≤ℤ pos 0
      down_go a l h (inl q) = q
      down_go a l h (inr q) = o.capacity_down a l (omega (arith, off_tight f g π ff p lg a l (λ e. given2 e q (simp lin (omega arith)))))
