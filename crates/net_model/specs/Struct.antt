-- The struct that stands for a network.
use Rattle.std.specs.Prelude.{◌≡◌, List, map, ℕ, take, ℤ, pos}
use Rattle.laws.specs.Padded.{padded}
use Rattle.laws.specs.Within.{from}
use Rattle.net_model.specs.Network.{Net, nodes, arcs, tail, head, low, up, cost}
use Rattle.net_model.specs.Accepted.{AcceptedNet}
use Rattle.net_model.specs.declared.Arc.{Arc}
use Rattle.net_model.specs.declared.Network.{Network}

-- the network of the balances and arcs that a function is lent, with [] for balances that it is not
abbrev pub net_from : List ℤ → List Arc → Net
net_from balances arcs = record {
  balances = balances;
  tails = map (λ (a : Arc). a.tail) arcs;
  heads = map (λ (a : Arc). a.head) arcs;
  lows = map (λ (a : Arc). a.low) arcs;
  ups = map (λ (a : Arc). a.up) arcs;
  costs = map (λ (a : Arc). a.cost) arcs;
}

-- the arc in the places beyond those of a network
abbrev pub blank_arc : Arc
blank_arc = record { tail = 0; head = 0; low = 0; up = 0; cost = pos 0 }

-- arc a of a network, and all its arcs
abbrev pub arc_in : Net → ℕ → Arc
arc_in N a = record { tail = tail N a; head = head N a; low = low N a; up = up N a; cost = cost N a }

abbrev pub arcs_in : Net → List Arc
arcs_in N = map (arc_in N) (from (arcs N) 0)

-- the struct of a network: 0 in the places beyond its nodes and arcs
abbrev pub struct_of : Net → Network
struct_of N = record {
  nodes = nodes N;
  arcs = arcs N;
  balances = padded 64 (pos 0) N.balances;
  table = padded 512 blank_arc (arcs_in N);
}

-- the network that a struct stands for
abbrev pub net_in : Network → Net
net_in s = net_from (take s.nodes s.balances) (take s.arcs s.table)

-- a struct that stands for an accepted network: what the functions of the engine take
pub record Sound (s : Network) : Type 0 where
  pub accepted : AcceptedNet (net_in s)
  pub nodes_held : s.nodes ≡ nodes (net_in s)
  pub arcs_held : s.arcs ≡ arcs (net_in s)
