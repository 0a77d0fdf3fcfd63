-- What can go along a walk, and what pushing along it asks.
use Rattle.std.specs.Prelude.{◌≡◌, true, List, [], ◌∷◌, ℕ, ◌+◌, ◌/◌, ◌%◌, ◌^◌, ◌≤◌, ◌<◌, min, length, get_or}
use Rattle.laws.specs.Members.{Every}
use Rattle.laws.specs.Ascending.{Distinct}
use Rattle.net_model.specs.Network.{Net}
use Rattle.net_model.specs.Residual.{codes}
use Rattle.net_theory.specs.ResidualCapacity.{has_capacity, residual_capacity}
use Rattle.net_theory.specs.Bounds.{InBounds}
use Rattle.net_theory.specs.Push.{push_one}

-- the least capacity along the codes, at most cap
abbrev pub bottleneck : Net → List ℕ → ℕ → List ℕ → ℕ
bottleneck N f cap [] = cap
bottleneck N f cap (c ∷ cs) = bottleneck N f (min cap (residual_capacity N f c)) cs

-- δ can go along the codes
pub record Pushable (N : Net) (δ : ℕ) (f : List ℕ) (cs : List ℕ) : Type 0 where
  pub within : InBounds N f
  pub codes_in : Every (λ c. c < codes N) cs
  pub distinct : Distinct cs
  pub capacity : Every (λ c. has_capacity N f δ c ≡ true) cs

-- δ more along code c: its arc has that many, or can hold that many more
pub record Room (δ c : ℕ) (f : List ℕ) : Type 0 where
  pub inside : c / 2 < length f
  pub forth : c % 2 ≡ 0 → get_or f (c / 2) 0 + δ < 2 ^ 32
  pub back : c % 2 ≡ 1 → δ ≤ get_or f (c / 2) 0

-- and so along the codes, one after another, which holds where δ can go along them (`pushable_room`)
abbrev pub RoomAlong : ℕ → List ℕ → List ℕ → Type 0
RoomAlong δ [] f = Unit {0}
RoomAlong δ (c ∷ cs) f = Room δ c f × RoomAlong δ cs (push_one δ c f)
