-- What the functions over the lists of a network ask of those that they are lent. Each part is about other lists, and an accepted network keeps all
-- of them (`AcceptedNet`; the lemmas are in proofs/Limits.antt). A function speaks of the network of the arcs that it is lent (`net_from`).
use Rattle.std.specs.Prelude.{◌≡◌, ℕ, ◌≤◌, ◌<◌, length}
use Rattle.laws.specs.Range.{Bounded}
use Rattle.net_model.specs.Network.{Net, nodes, arcs, tail, head, up, cost, balance}

-- tails and heads: at most 512 arcs, with ends below 64
pub record SmallEnds (N : Net) : Type 0 where
  pub few : arcs N ≤ 512
  pub heads_len : length N.heads ≡ arcs N
  pub tail_in : (a : ℕ) → a < arcs N → tail N a < 64
  pub head_in : (a : ℕ) → a < arcs N → head N a < 64

-- bounds: two for each arc, none above 1,000,000
pub record SmallBounds (N : Net) : Type 0 where
  pub lows_len : length N.lows ≡ arcs N
  pub ups_len : length N.ups ≡ arcs N
  pub ups_small : (a : ℕ) → a < arcs N → up N a ≤ 1000000

-- costs: one for each arc, from −1,000,000 to 1,000,000
pub record SmallCosts (N : Net) : Type 0 where
  pub costs_len : length N.costs ≡ arcs N
  pub cost_small : (a : ℕ) → a < arcs N → Bounded 1000000 (cost N a)

-- balances: at most 64 nodes, the ends of the arcs among them, and no balance beyond 1,000,000,000 either way
pub record SmallBalances (N : Net) : Type 0 where
  pub few_nodes : nodes N ≤ 64
  pub tail_node : (a : ℕ) → a < arcs N → tail N a < nodes N
  pub head_node : (a : ℕ) → a < arcs N → head N a < nodes N
  pub balance_small : (v : ℕ) → Bounded 1000000000 (balance N v)
