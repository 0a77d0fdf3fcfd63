-- What is said of some lists of a network holds whatever the others are.
use mathlib.Core.List.{List}
use Prim.Native.Nat.{ℕ}
use lib.IntN.{ℤ}
use Rattle.net_model.specs.Network.{Net}
use Rattle.net_theory.specs.Graph.{net_with}
use Rattle.net_theory.specs.Bounds.{InBounds}
use Rattle.net_theory.specs.Limits.{SmallEnds, SmallBounds, SmallCosts, SmallBalances}

module _ (N : Net) where
  pub ends_with : (b : List ℤ) (l u : List ℕ) (c : List ℤ) → SmallEnds N → SmallEnds (net_with b N.tails N.heads l u c)
  ends_with b l u c k = record { few = k.few; heads_len = k.heads_len; tail_in = k.tail_in; head_in = k.head_in }

  pub bounds_with : (b : List ℤ) (h : List ℕ) (c : List ℤ) → SmallBounds N → SmallBounds (net_with b N.tails h N.lows N.ups c)
  bounds_with b h c k = record { lows_len = k.lows_len; ups_len = k.ups_len; ups_small = k.ups_small }

  pub costs_with : (b : List ℤ) (h l u : List ℕ) → SmallCosts N → SmallCosts (net_with b N.tails h l u N.costs)
  costs_with b h l u k = record { costs_len = k.costs_len; cost_small = k.cost_small }

  pub balances_with : (l u : List ℕ) (c : List ℤ) → SmallBalances N → SmallBalances (net_with N.balances N.tails N.heads l u c)
  balances_with l u c k = record { few_nodes = k.few_nodes; tail_node = k.tail_node; head_node = k.head_node; balance_small = k.balance_small }

  pub within_with : (b : List ℤ) (h : List ℕ) (c : List ℤ) (f : List ℕ) → InBounds N f → InBounds (net_with b N.tails h N.lows N.ups c) f
  within_with b h c f k = record { all_arcs = k.all_arcs; above = k.above; below = k.below }
