-- Sets of nodes that no usable step of a free arc leaves.
use Rattle.std.specs.Prelude.{◌≡◌, List, Bool, true, ℕ, ◌<◌, get_or}
use Rattle.net_model.specs.Network.{Net, arcs, tail, head, low, up}

-- a set of nodes closed under the usable steps of the free arcs
pub record Closed (N : Net) (f : List ℕ) (free : ℕ → Type 0) (S : ℕ → Bool) : Type 0 where
  pub out : (a : ℕ) → a < arcs N → free a → S (tail N a) ≡ true → get_or f a 0 < up N a → S (head N a) ≡ true
  pub back : (a : ℕ) → a < arcs N → free a → S (head N a) ≡ true → low N a < get_or f a 0 → S (tail N a) ≡ true
