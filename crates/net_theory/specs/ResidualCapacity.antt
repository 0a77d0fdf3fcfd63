-- The residual capacity of a residual arc: whether a given amount can go along it, and how much can.
use Rattle.std.specs.Prelude.{List, Bool, ℕ, ◌+◌, ◌-◌, ◌/◌, leb, get_or}
use Rattle.net_model.specs.Network.{Net, low, up}
use Rattle.net_model.specs.Residual.{either}

-- δ more can go along code c
abbrev pub has_capacity : Net → List ℕ → ℕ → ℕ → Bool
has_capacity N f δ c = either c (leb (get_or f (c / 2) 0 + δ) (up N (c / 2))) (leb (low N (c / 2) + δ) (get_or f (c / 2) 0))

-- what can go along code c
abbrev pub residual_capacity : Net → List ℕ → ℕ → ℕ
residual_capacity N f c = either c (up N (c / 2) - get_or f (c / 2) 0) (get_or f (c / 2) 0 - low N (c / 2))
