-- The prices of a flow, and the list lent for them.
use Rattle.std.specs.Prelude.{◌≡◌, List, ℕ, ◌<◌, length, get_or, ℤ, pos}
use Rattle.std.proofs.Math.Option.{Option, none, some}
use Rattle.std.specs.Int.{w32}
use Rattle.std.proofs.Common.{SFits}
use Rattle.laws.specs.Members.{Every}
use Rattle.bytes_read.specs.Words.{encode_ints, over}
use Rattle.net_model.specs.Network.{Net, nodes}
use Rattle.net_model.specs.Residual.{Price}

-- "Beside the first flow stand its prices", "signed 32-bit too"
pub record Prices (N : Net) (f : List ℕ) (ps : List ℤ) : Type 0 where
  pub all_nodes : length ps ≡ nodes N
  pub each : (v : ℕ) → v < nodes N → Price N f v (get_or ps v (pos 0))
  pub fit : Every (SFits w32) ps

-- where a list is lent for them, they fill its first n places
abbrev pub PricesAfter : Net → List ℕ → Option (List ℕ) → Option (List ℕ) → Type 0
PricesAfter N f none after = after ≡ none
PricesAfter N f (some out) after = (ps : List ℤ) × Prices N f ps × (after ≡ some (over (encode_ints ps) out))
