-- Document 01, "The full list": what it says of a network that it is accepted.
use Rattle.std.specs.Prelude.{ℕ, ◌≤◌, ◌<◌, pos, neg_ℤ, ◌≤ℤ◌}
use Rattle.net_model.specs.Network.{Net, WellFormed, nodes, arcs, low, up, cost, balance}

-- "a network [is accepted] if it passes 1 to 6": what that says of the network
pub record AcceptedNet (N : Net) : Type 0 where
  pub well_formed : WellFormed N
  pub some_node : 1 ≤ nodes N
  pub few_nodes : nodes N ≤ 64
  pub few_arcs : arcs N ≤ 512
  pub low_up : (a : ℕ) → a < arcs N → low N a ≤ up N a
  pub up_small : (a : ℕ) → a < arcs N → up N a ≤ 1000000
  pub cost_small : (a : ℕ) → a < arcs N → (neg_ℤ (pos 1000000) ≤ℤ cost N a) × (cost N a ≤ℤ pos 1000000)
  pub balance_small : (v : ℕ) → v < nodes N → (neg_ℤ (pos 1000000000) ≤ℤ balance N v) × (balance N v ≤ℤ pos 1000000000)
