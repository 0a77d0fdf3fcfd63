-- One arc changed: what leaves the nodes, and the cost.
use mathlib.Core.Path.{◌≡◌, sym, ap, ◌∙◌}
use mathlib.Core.Logic.{◌≢◌}
use mathlib.Core.List.{List}
use Prim.Native.Nat.{ℕ, ◌<◌}
use native.Mathlib.Omega.{arith}
use lib.ListN.{length, set}
use lib.Seq.{get_or-set_same, get_or-set_other}
use lib.IntN.{ℤ, pos, ◌+ℤ◌, ◌-ℤ◌, ◌*ℤ◌}
use Rattle.laws.specs.Divergence.{at, ends, at_sub}
use Rattle.laws.specs.Linear.{lin, ring, given2}
use Rattle.laws.specs.Sum.{sum_change}
use Rattle.net_model.specs.Network.{Net, arcs, tail, head, cost, on, net_out, cost_of}

ends_change : (m : ℕ) (e : ℕ → ℕ) (f g : ℕ → ℤ) (j v : ℕ) (z : ℤ) → j < m → ((i : ℕ) → i < m → i ≢ j → g i ≡ f i) → g j -ℤ f j ≡ z
    → ends m e g v ≡ ends m e f v +ℤ at (e j) v z
ends_change m e f g j v z l h q =
    sum_change m (λ a. at (e a) v (f a)) (λ a. at (e a) v (g a)) j l (λ i k ne. ap (λ z. at (e i) v z) (h i k ne))
    ∙ ap (λ z. ends m e f v +ℤ z) (sym (at_sub (e j) v (g j) (f j)))
    ∙ ap (λ z. ends m e f v +ℤ at (e j) v z) q

module _ (N : Net) (f : List ℕ) (a y : ℕ) (z : ℤ) (len : length f ≡ arcs N) (k : a < arcs N) (e : pos y ≡ on f a +ℤ z) where
  other : (i : ℕ) → i ≢ a → on (set f a y) i ≡ on f i
  other i ne = ap pos (get_or-set_other f a i y 0 ne)

  here : on (set f a y) a -ℤ on f a ≡ z
  here = shift (on (set f a y) a) (pos y) (on f a) z (ap pos (get_or-set_same f a y 0 (omega arith))) e
    where
      shift : (p q r z : ℤ) → p ≡ q → q ≡ r +ℤ z → p -ℤ r ≡ z
      shift p q r z d e = given2 d e (simp lin (omega arith))

  pub set_net_out : (v : ℕ) → net_out N (set f a y) v ≡ net_out N f v +ℤ (at (tail N a) v z -ℤ at (head N a) v z)
  set_net_out v =
      given2 (ends_change (arcs N) (tail N) (on f) (on (set f a y)) a v z k (λ i _ ne. other i ne) here)
      (ends_change (arcs N) (head N) (on f) (on (set f a y)) a v z k (λ i _ ne. other i ne) here)
      (simp lin (omega arith))

  pub set_cost : cost_of N (set f a y) ≡ cost_of N f +ℤ cost N a *ℤ z
  set_cost =
      sum_change (arcs N) (λ b. cost N b *ℤ on f b) (λ b. cost N b *ℤ on (set f a y) b) a k (λ i _ ne. ap (λ z. cost N i *ℤ z) (other i ne))
      ∙ ap (λ z. cost_of N f +ℤ z) (factor (cost N a) (on (set f a y) a) (on f a) ∙ ap (λ z. cost N a *ℤ z) here)
    where
      factor : (c x y : ℤ) → c *ℤ x -ℤ c *ℤ y ≡ c *ℤ (x -ℤ y)
      factor c x y = simp ring (omega arith)
