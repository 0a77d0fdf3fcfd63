-- Document 01, "The network and its flows": how a network comes.
use Rattle.std.specs.Prelude.{List, [], ◌∷◌, map, ℤ, nat_abs}
use Rattle.net_model.specs.Network.{Net}
use Rattle.net_model.specs.declared.Row.{Row}

-- "The network comes as n balances and five numbers an arc (tail, head, l, u, c)"; up to four numbers at the end are no arc
abbrev pub rows : List ℤ → List Row
rows [] = []
rows (t ∷ []) = []
rows (t ∷ h ∷ []) = []
rows (t ∷ h ∷ l ∷ []) = []
rows (t ∷ h ∷ l ∷ u ∷ []) = []
rows (t ∷ h ∷ l ∷ u ∷ c ∷ xs) = record { tail = t; head = h; low = l; up = u; cost = c } ∷ rows xs

abbrev pub net_of : List ℤ → List ℤ → Net
net_of bs xs = record {
  balances = bs;
  tails = map (λ (r : Row). nat_abs r.tail) (rows xs);
  heads = map (λ (r : Row). nat_abs r.head) (rows xs);
  lows = map (λ (r : Row). nat_abs r.low) (rows xs);
  ups = map (λ (r : Row). nat_abs r.up) (rows xs);
  costs = map (λ (r : Row). r.cost) (rows xs);
}
