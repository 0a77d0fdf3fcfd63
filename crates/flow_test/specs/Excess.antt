-- The excess of each node.
use Rattle.std.specs.Prelude.{◌≡◌, List, ℕ, ◌≤◌, ◌<◌, length, get_or, ℤ, pos}
use Rattle.laws.specs.Range.{Bounded}
use Rattle.net_model.specs.Network.{Net, nodes, arcs}
use Rattle.net_theory.specs.Excess.{excess}
use Rattle.net_theory.specs.Limits.{SmallEnds, SmallBalances}

-- what the sums of 64 bits ask
pub record SmallNumbers (N : Net) (f : List ℕ) : Type 0 where
  pub ends : SmallEnds N
  pub balances : SmallBalances N
  pub flow_len : length f ≡ arcs N
  pub flow_small : (a : ℕ) → a < arcs N → get_or f a 0 ≤ 1000000

-- l has the excess of each node
pub record Excesses (N : Net) (f : List ℕ) (l : List ℤ) : Type 0 where
  pub len : length l ≡ nodes N
  pub is : (v : ℕ) → v < nodes N → get_or l v (pos 0) ≡ excess N f v
  pub small : (v : ℕ) → Bounded 3000000000 (get_or l v (pos 0))
