-- Arc k lowered, with what it loses sent along a walk over arcs above k.
use Rattle.std.specs.Prelude.{◌≡◌, List, ℕ, ◌-◌, ◌/◌, ◌<◌, get_or, set}
use Rattle.laws.specs.Members.{Every}
use Rattle.laws.specs.Ascending.{Distinct}
use Rattle.net_model.specs.Network.{Net, low}
use Rattle.net_model.specs.Residual.{codes}
use Rattle.net_theory.specs.ResidualCapacity.{residual_capacity}
use Rattle.net_theory.specs.Bounds.{InBounds}
use Rattle.net_theory.specs.Push.{push_all}
use Rattle.flow_push.specs.Pushing.{bottleneck}

-- the codes have capacity, and their arcs come after arc k
pub record CapacityAbove (N : Net) (f : List ℕ) (k : ℕ) (cs : List ℕ) : Type 0 where
  pub codes_in : Every (λ c. c < codes N) cs
  pub distinct : Distinct cs
  pub above : Every (λ c. k < c / 2) cs
  pub capacity : Every (λ c. 0 < residual_capacity N f c) cs

-- what can be taken off arc k and sent along the codes
abbrev pub takes : Net → List ℕ → ℕ → List ℕ → ℕ
takes N f k cs = bottleneck N f (get_or f k 0 - low N k) cs

pub record TakenOff (N : Net) (f f' : List ℕ) (k : ℕ) (cs : List ℕ) : Type 0 where
  pub exact : f' ≡ push_all (takes N f k cs) cs (set f k (get_or f k 0 - takes N f k cs))
  pub within : InBounds N f'
  pub less : get_or f' k 0 < get_or f k 0
