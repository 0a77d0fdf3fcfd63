-- An accepted network keeps the limits that the functions ask for, each in the network of the lists that it is about.
use Prim.Native.Nat.{ℕ, ◌<◌}
use native.Mathlib.Omega.{arith}
use native.Mathlib.Decide.{dec_lt}
use lib.ListN.{get_or-eq_default}
use lib.IntN.{pos}
use Rattle.laws.specs.Range.{Bounded, bounded_iff, bounded_more, bounded_zero}
use Rattle.net_model.specs.Network.{Net, nodes, balance, cost}
use Rattle.net_model.specs.Accepted.{AcceptedNet}
use Rattle.net_theory.specs.Limits.{SmallEnds, SmallBounds, SmallCosts, SmallBalances}

module _ (N : Net) (ok : AcceptedNet N) where
  pub small_ends : SmallEnds N
  small_ends = record {
    few = ok.few_arcs;
    heads_len = ok.well_formed.heads_len;
    tail_in = λ a k. omega (arith, ok.well_formed.tail_in a k, ok.few_nodes);
    head_in = λ a k. omega (arith, ok.well_formed.head_in a k, ok.few_nodes);
  }

  pub small_bounds : SmallBounds N
  small_bounds = record { lows_len = ok.well_formed.lows_len; ups_len = ok.well_formed.ups_len; ups_small = ok.up_small }

  pub small_costs : SmallCosts N
  small_costs = record {
    costs_len = ok.well_formed.costs_len;
    cost_small = λ a k. let (p, q) = ok.cost_small a k in (bounded_iff 1000000 (cost N a)).1 (q, p);
  }

  balance_small : (v : ℕ) → Bounded 1000000000 (balance N v)
  balance_small v = go (dec_lt v (nodes N))
    where
      go : Dec (v < nodes N) → Bounded 1000000000 (balance N v)
      go (yes k) = let (p, q) = ok.balance_small v k in (bounded_iff 1000000000 (balance N v)).1 (q, p)
      go (no k) = rw (get_or-eq_default N.balances (pos 0) {n = v} (omega arith)) (bounded_more (omega arith) bounded_zero)

  pub small_balances : SmallBalances N
  small_balances = record { few_nodes = ok.few_nodes; tail_node = ok.well_formed.tail_in; head_node = ok.well_formed.head_in; balance_small = balance_small }
