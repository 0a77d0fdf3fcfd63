-- Networks from the lists that the code holds.
use Rattle.std.specs.Prelude.{List, [], ℕ, ℤ}
use Rattle.net_model.specs.Network.{Net}

-- the network of these lists
abbrev pub net_with : List ℤ → List ℕ → List ℕ → List ℕ → List ℕ → List ℤ → Net
net_with b t h l u c = record { balances = b; tails = t; heads = h; lows = l; ups = u; costs = c }

-- N without balances and costs
abbrev pub bare : Net → Net
bare N = net_with [] N.tails N.heads N.lows N.ups []

-- N without balances
abbrev pub costed : Net → Net
costed N = net_with [] N.tails N.heads N.lows N.ups N.costs
