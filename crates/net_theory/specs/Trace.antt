-- Tracing a reached node back to the root: the steps by which it was reached, the last one first.
use Rattle.std.specs.Prelude.{◌≡◌, List, Bool, ℕ, ◌≤◌, ◌<◌, length, get_or}
use Rattle.laws.specs.Ascending.{Distinct}
use Rattle.laws.specs.Members.{Every}
use Rattle.net_model.specs.Residual.{WalkOver}
use Rattle.net_theory.specs.Reach.{Tree}

-- cs leads from v to t
pub record Traced (lo hi : ℕ) (sr ds : ℕ → ℕ) (go : ℕ → Bool) (rank : List ℕ) (t v : ℕ) (cs : List ℕ) : Type 0 where
  pub walk : WalkOver hi sr ds go v t cs
  pub distinct : Distinct cs
  pub low : Every (λ c. lo ≤ c) cs
  pub later : Every (λ c. get_or rank v 0 < get_or rank (ds c) 0) cs

-- what tracing back needs to be safe and to end
pub record Falls (n hi : ℕ) (sr : ℕ → ℕ) (rank via : List ℕ) : Type 0 where
  pub rank_len : length rank ≡ n
  pub via_len : length via ≡ n
  pub small : (v : ℕ) → v < n → get_or rank v 0 ≤ n
  pub code_in : (v : ℕ) → v < n → 1 < get_or rank v 0 → get_or via v 0 < hi
  pub next_in : (v : ℕ) → v < n → 1 < get_or rank v 0 → sr (get_or via v 0) < n
  pub next_reached : (v : ℕ) → v < n → 1 < get_or rank v 0 → 0 < get_or rank (sr (get_or via v 0)) 0
  pub next_less : (v : ℕ) → v < n → 1 < get_or rank v 0 → get_or rank (sr (get_or via v 0)) 0 < get_or rank v 0

-- cs leads to t from the root of any tree that rank and via make
abbrev pub TracedAny : ℕ → ℕ → (ℕ → ℕ) → (ℕ → ℕ) → List ℕ → List ℕ → ℕ → (ℕ → ℕ) → List ℕ → Type 0
TracedAny n hi sr ds rank via t at cs =
    (lo : ℕ) (go : ℕ → Bool) (s count : ℕ) → Tree n lo hi sr ds go s rank via count → Traced lo hi sr ds go rank t (at s) cs
