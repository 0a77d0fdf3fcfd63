-- Demand 2 of a network: what a call of `first` shows that passes the questions.
use Rattle.std.specs.Prelude.{List, ℕ}
use Rattle.laws.specs.Lexicographic.{◌<lex◌}
use Rattle.laws.specs.Rules.{first}
use Rattle.laws.specs.Seen.{nothing, item, Seen, Shows}
use Rattle.net_model.specs.Network.{IsFlow, LeastCost}
use Rattle.call_flow_bytes.specs.NetworkBytes.{net}
use Rattle.call_network.specs.NetworkCalls.{Lent}
use Rattle.call_network.specs.NetworkRules.{network_rules}

-- "The first flow is the first least-cost flow in that order."
pub record FindsFlow (bs xs : List ℕ) (l : Lent) (s : Seen Lent) : Type 0 where
  pub flow : List ℕ
  pub least_cost : LeastCost (net bs xs) flow
  pub first_of_all : (g : List ℕ) → LeastCost (net bs xs) g → ¬ (g <lex flow)
  pub shows : Shows (network_rules bs xs) (first l) (item flow) s

-- "none": there is no flow
pub record FindsNoFlow (bs xs : List ℕ) (l : Lent) (s : Seen Lent) : Type 0 where
  pub no_flow : (g : List ℕ) → ¬ IsFlow (net bs xs) g
  pub shows : Shows (network_rules bs xs) (first l) nothing s
