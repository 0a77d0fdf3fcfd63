-- Arcs as low as they can be, in order.
use Rattle.std.specs.Prelude.{List, ℕ}
use Rattle.net_model.specs.Network.{Net, LeastCost}
use Rattle.net_theory.specs.Order.{Agree, MinimalFrom}

-- every arc from k on as low as the arcs before it let it be
pub record Minimised (N : Net) (f f' : List ℕ) (k : ℕ) : Type 0 where
  pub least : LeastCost N f'
  pub same : Agree k f f'
  pub minimal : MinimalFrom N k f'
