-- What a flow costs, and the arcs of reduced cost 0 under labels of the nodes.
use Rattle.std.specs.Prelude.{◌≡◌, ◌≢◌, Bool, true, false, List, ℕ, ◌≤◌, ◌<◌, length, get_or, ℤ, pos}
use Rattle.laws.specs.Range.{Bounded}
use Rattle.net_model.specs.Network.{Net, arcs}
use Rattle.net_theory.specs.ReducedCost.{reduced}
use Rattle.net_theory.specs.Limits.{SmallCosts}

-- cost and number of each arc, small enough for their sum
pub record Summable (N : Net) (f : List ℕ) : Type 0 where
  pub few : arcs N ≤ 512
  pub costs : SmallCosts N
  pub flow_len : length f ≡ arcs N
  pub flow_small : (a : ℕ) → a < arcs N → get_or f a 0 ≤ 1000000

-- a small label for each node
pub record SmallLabels (d : List ℤ) : Type 0 where
  pub labels_len : length d ≡ 64
  pub label_small : (v : ℕ) → v < 64 → Bounded 1000000000000 (get_or d v (pos 0))

-- of the arcs below k, exactly those of reduced cost 0 are marked
pub record MarksTight (N : Net) (π : ℕ → ℤ) (marks : List Bool) (k : ℕ) : Type 0 where
  pub marked : (a : ℕ) → a < k → get_or marks a false ≡ true → reduced N π a ≡ pos 0
  pub unmarked : (a : ℕ) → a < k → get_or marks a false ≡ false → reduced N π a ≢ pos 0
