-- Document 01, "The network and its flows": networks, flows, their cost, least-cost flows.
use Rattle.std.specs.Prelude.{◌≡◌, List, ℕ, ◌≤◌, ◌<◌, length, get_or, ℤ, pos, ◌*ℤ◌, ◌≤ℤ◌}
use Rattle.laws.specs.Sum.{sum}
use Rattle.laws.specs.Divergence.{div}

-- "Nodes are 0 to n−1, arcs 0 to m−1. An arc has tail, head, lower bound l, upper bound u and cost c; a node has a balance b."
pub record Net : Type 0 where
  pub balances : List ℤ
  pub tails : List ℕ
  pub heads : List ℕ
  pub lows : List ℕ
  pub ups : List ℕ
  pub costs : List ℤ

abbrev pub nodes : Net → ℕ
nodes N = length N.balances

abbrev pub arcs : Net → ℕ
arcs N = length N.tails

abbrev pub tail : Net → ℕ → ℕ
tail N a = get_or N.tails a 0

abbrev pub head : Net → ℕ → ℕ
head N a = get_or N.heads a 0

abbrev pub low : Net → ℕ → ℕ
low N a = get_or N.lows a 0

abbrev pub up : Net → ℕ → ℕ
up N a = get_or N.ups a 0

abbrev pub cost : Net → ℕ → ℤ
cost N a = get_or N.costs a (pos 0)

abbrev pub balance : Net → ℕ → ℤ
balance N v = get_or N.balances v (pos 0)

-- there is one of each for every arc, and its ends are nodes
pub record WellFormed (N : Net) : Type 0 where
  pub heads_len : length N.heads ≡ arcs N
  pub lows_len : length N.lows ≡ arcs N
  pub ups_len : length N.ups ≡ arcs N
  pub costs_len : length N.costs ≡ arcs N
  pub tail_in : (a : ℕ) → a < arcs N → tail N a < nodes N
  pub head_in : (a : ℕ) → a < arcs N → head N a < nodes N

-- the number of f on arc a
abbrev pub on : List ℕ → ℕ → ℤ
on f a = pos (get_or f a 0)

-- "the flow out less the flow in"; a loop stands on both sides, so it counts "never in a balance"
abbrev pub net_out : Net → List ℕ → ℕ → ℤ
net_out N f v = div (arcs N) (tail N) (head N) (on f) v

-- "A flow gives each arc a whole number f with l ≤ f ≤ u, such that at each node the flow out less the flow in equals b."
pub record IsFlow (N : Net) (f : List ℕ) : Type 0 where
  pub all_arcs : length f ≡ arcs N
  pub above : (a : ℕ) → a < arcs N → low N a ≤ get_or f a 0
  pub below : (a : ℕ) → a < arcs N → get_or f a 0 ≤ up N a
  pub balanced : (v : ℕ) → v < nodes N → net_out N f v ≡ balance N v

-- "Its cost is the sum of c × f."
abbrev pub cost_of : Net → List ℕ → ℤ
cost_of N f = sum (arcs N) (λ a. cost N a *ℤ on f a)

-- "It is least-cost if no flow costs less."
pub record LeastCost (N : Net) (f : List ℕ) : Type 0 where
  pub flow : IsFlow N f
  pub least : (g : List ℕ) → IsFlow N g → cost_of N f ≤ℤ cost_of N g
