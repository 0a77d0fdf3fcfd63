-- Labels corrected over the residual arcs that have capacity for a given amount (Bellman and Ford).
use Rattle.std.specs.Prelude.{◌≡◌, Bool, cond, ◌&&◌, List, ℕ, zero, suc, ◌<◌, length, get_or, set, ℤ, pos, ◌+ℤ◌}
use Rattle.std.specs.Int.Signed.{lt_z}
use Rattle.laws.specs.Range.{Bounded}
use Rattle.net_model.specs.Network.{Net}
use Rattle.net_model.specs.Residual.{src, dst, step_cost}
use Rattle.net_theory.specs.Limits.{SmallEnds, SmallBounds, SmallCosts}
use Rattle.net_theory.specs.Bounds.{InBounds}
use Rattle.net_theory.specs.ResidualCapacity.{has_capacity}

-- what correcting labels asks: ends below 64, small bounds and costs, and a flow within the bounds
pub record Relaxable (N : Net) (f : List ℕ) : Type 0 where
  pub ends : SmallEnds N
  pub bounds : SmallBounds N
  pub costs : SmallCosts N
  pub within : InBounds N f

-- the labels of the nodes, the code that gave each its label (65535: none; [] for a search that keeps no such codes), and the node whose label fell
-- last (64: none)
pub record State : Type 0 where
  pub labels : List ℤ
  pub preds : List ℕ
  pub last : ℕ

abbrev pub state : List ℤ → List ℕ → ℕ → State
state d p l = record { labels = d; preds = p; last = l }

abbrev pub label : State → ℕ → ℤ
label s v = get_or s.labels v (pos 0)

-- the label that code c offers to the node where it ends, and whether it is better
abbrev pub offer : Net → ℕ → State → ℤ
offer N c s = label s (src N c) +ℤ step_cost N c

abbrev pub better : Net → List ℕ → ℕ → ℕ → State → Bool
better N f δ c s = has_capacity N f δ c && lt_z (offer N c s) (label s (dst N c))

-- label x and predecessor c for node v, if so
abbrev pub set_if : Bool → ℕ → ℤ → ℕ → State → State
set_if b v x c s = record {
  labels = cond b (set s.labels v x) s.labels;
  preds = cond b (set s.preds v c) s.preds;
  last = cond b v s.last;
}

-- one residual arc tried, and the first r of them in order
abbrev pub relaxed : Net → List ℕ → ℕ → ℕ → State → State
relaxed N f δ c s = set_if (better N f δ c s) (dst N c) (offer N c s) c s

unfoldable pub relaxed_all : Net → List ℕ → ℕ → ℕ → State → State
relaxed_all N f δ zero s = s
relaxed_all N f δ (suc r) s = relaxed N f δ r (relaxed_all N f δ r s)

-- the labels of 64 nodes are at most B either way
pub record Sized (B : ℕ) (d : List ℤ) (p : List ℕ) : Type 0 where
  pub labels_len : length d ≡ 64
  pub preds_len : length p ≡ 64
  pub small : (v : ℕ) → v < 64 → Bounded B (get_or d v (pos 0))
