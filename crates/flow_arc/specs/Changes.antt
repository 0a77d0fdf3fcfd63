-- Arc k as low as it can be, or raised by 1, while the arcs before it stay.
use Rattle.std.specs.Prelude.{List, ℕ, suc, get_or}
use Rattle.net_model.specs.Network.{Net, LeastCost}
use Rattle.net_theory.specs.Order.{Agree, NoLess}
use Rattle.net_theory.specs.ArcChange.{Moved}

-- arc k as low as the arcs before it let it be
pub record Lowered (N : Net) (f f' : List ℕ) (k : ℕ) : Type 0 where
  pub least : LeastCost N f'
  pub same : Agree k f f'
  pub no_less : NoLess N f' k

-- arc k raised by 1
abbrev pub RaisedByOne : Net → List ℕ → List ℕ → ℕ → Type 0
RaisedByOne N f f' k = Moved N f f' k (suc (get_or f k 0))
