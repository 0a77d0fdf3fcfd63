-- Numbers at the nodes, weighted by what leaves them: two flows differ by a circulation, and the balances sum to 0.
use mathlib.Core.Path.{◌≡◌, sym, ap, ◌∙◌}
use mathlib.Core.List.{List}
use Prim.Native.Nat.{ℕ}
use native.Mathlib.Omega.{arith}
use lib.IntN.{ℤ, pos, ◌-ℤ◌, ◌*ℤ◌}
use Rattle.laws.specs.Divergence.{div, div_sub, telescope}
use Rattle.laws.specs.Linear.{lin, ring, given2}
use Rattle.laws.specs.Sum.{sum, sum_cong, sum_none}
use Rattle.net_model.specs.Network.{Net, nodes, arcs, tail, head, balance, on, net_out, IsFlow, WellFormed}

module _ (N : Net) (ok : WellFormed N) where
  -- summed over the ends of the arcs, and over the nodes
  pub weighted : (f g : List ℕ) (π : ℕ → ℤ)
      → sum (arcs N) (λ a. (π (tail N a) -ℤ π (head N a)) *ℤ (on g a -ℤ on f a)) ≡ sum (nodes N) (λ v. π v *ℤ (net_out N g v -ℤ net_out N f v))
  weighted f g π =
      telescope (nodes N) (arcs N) (tail N) (head N) (λ a. on g a -ℤ on f a) π ok.tail_in ok.head_in
      ∙ sum_cong (nodes N) (λ v. π v *ℤ div (arcs N) (tail N) (head N) (λ a. on g a -ℤ on f a) v) (λ v. π v *ℤ (net_out N g v -ℤ net_out N f v)) (λ v k. ap (λ z. π v *ℤ z) (div_sub (arcs N) (tail N) (head N) (on g) (on f) v))

  pub circulation : (f g : List ℕ) (π : ℕ → ℤ) → IsFlow N f → IsFlow N g
      → sum (arcs N) (λ a. (π (tail N a) -ℤ π (head N a)) *ℤ (on g a -ℤ on f a)) ≡ pos 0
  circulation f g π ff fg =
      weighted f g π
      ∙ sum_none (nodes N) (λ v. π v *ℤ (net_out N g v -ℤ net_out N f v))
      (λ v k. ap (λ z. π v *ℤ z) (level (net_out N g v) (net_out N f v) (balance N v) (fg.balanced v k) (ff.balanced v k)) ∙ simp ring (omega arith))
    where
      level : (x y b : ℤ) → x ≡ b → y ≡ b → x -ℤ y ≡ pos 0
      level x y b p q = given2 p q (simp lin (omega arith))

  pub net_out_sum : (f : List ℕ) → sum (nodes N) (net_out N f) ≡ pos 0
  net_out_sum f =
      sum_cong (nodes N) (net_out N f) (λ v. pos 1 *ℤ net_out N f v) (λ v k. once (net_out N f v))
      ∙ sym (telescope (nodes N) (arcs N) (tail N) (head N) (on f) (λ v. pos 1) ok.tail_in ok.head_in)
      ∙ sum_none (arcs N) (λ a. (pos 1 -ℤ pos 1) *ℤ on f a) (λ a l. simp ring (omega arith))
    where
      once : (x : ℤ) → x ≡ pos 1 *ℤ x
      once x = simp lin (omega arith)

  -- the balances of a network with a flow sum to 0
  pub balances_sum : (g : List ℕ) → IsFlow N g → sum (nodes N) (balance N) ≡ pos 0
  balances_sum g fg = sum_cong (nodes N) (balance N) (net_out N g) (λ v k. sym (fg.balanced v k)) ∙ net_out_sum g
