-- The test whether a list is a flow: what it asks, and what it answers.
use Rattle.std.specs.Prelude.{◌≡◌, List, Bool, true, false, ℕ, ◌≤◌, ◌<◌, length}
use Rattle.net_model.specs.Network.{Net, nodes, arcs, low, up, net_out, balance}
use Rattle.net_theory.specs.Limits.{SmallEnds, SmallBounds, SmallBalances}

-- one number for each arc of a network whose numbers are small, and no lower bound above the upper one; costs have no part in the test
pub record Testable (N : Net) (f : List ℕ) : Type 0 where
  pub ends : SmallEnds N
  pub bounds : SmallBounds N
  pub balances : SmallBalances N
  pub ordered : (a : ℕ) → a < arcs N → low N a ≤ up N a
  pub flow_len : length f ≡ arcs N

-- the answer to whether P
abbrev pub Decides : Type 0 → Bool → Type 0
Decides P true = P
Decides P false = ¬ P

-- the flow out less the flow in is the balance at every node
abbrev pub IsBalanced : Net → List ℕ → Type 0
IsBalanced N f = (v : ℕ) → v < nodes N → net_out N f v ≡ balance N v
