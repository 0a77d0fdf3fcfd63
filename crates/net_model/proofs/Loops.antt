-- Document 01, "The network and its flows": "such a loop counts in cost and bounds, never in a balance".
use mathlib.Core.Path.{◌≡◌, sym, ap, ◌∙◌}
use mathlib.Core.List.{List}
use mathlib.Core.Logic.{◌≢◌}
use Prim.Native.Nat.{ℕ, ◌<◌}
use native.Mathlib.Omega.{arith}
use native.Mathlib.Decide.{ℕ_discrete}
use lib.IntN.{ℤ, ◌-ℤ◌}
use Rattle.laws.specs.Linear.{lin}
use Rattle.laws.specs.Sum.{sum, sum_cong, sum_sub}
use Rattle.laws.specs.Divergence.{at}
use Rattle.net_model.specs.Network.{Net, arcs, tail, head, on, net_out}

-- what arc a carries out of v less what it carries into v
abbrev through : Net → List ℕ → ℕ → ℕ → ℤ
through N f v a = at (tail N a) v (on f a) -ℤ at (head N a) v (on f a)

by_arc : (N : Net) (f : List ℕ) (v : ℕ) → net_out N f v ≡ sum (arcs N) (through N f v)
by_arc N f v = sym (sum_sub (arcs N) (λ a. at (tail N a) v (on f a)) (λ a. at (head N a) v (on f a)))

less_itself : (x y : ℤ) → x -ℤ x ≡ y -ℤ y
less_itself x y = simp lin (omega arith)

-- two lists of numbers that differ on loops alone leave every node the same
pub loops_in_no_balance : (N : Net) (f g : List ℕ) → ((a : ℕ) → a < arcs N → tail N a ≢ head N a → on f a ≡ on g a) → (v : ℕ) → net_out N f v ≡ net_out N g v
loops_in_no_balance N f g same v = by_arc N f v ∙ sum_cong (arcs N) (through N f v) (through N g v) (λ a l. one a l (ℕ_discrete (tail N a) (head N a))) ∙ sym (by_arc N g v)
  where
    one : (a : ℕ) → a < arcs N → Dec (tail N a ≡ head N a) → through N f v a ≡ through N g v a
    one a l (yes e) = rw e (less_itself (at (head N a) v (on f a)) (at (head N a) v (on g a)))
    one a l (no d) = ap (λ x. at (tail N a) v x -ℤ at (head N a) v x) (same a l d)
