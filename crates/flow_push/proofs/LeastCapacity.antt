-- The capacity along a walk: at most that of each code, and not 0 where each code goes.
use mathlib.Core.Path.{◌≡◌, refl}
use mathlib.Core.List.{List, [], ◌∷◌}
use mathlib.Core.Bool.{Bool, true, false}
use Prim.Native.Nat.{ℕ, ◌/◌, ◌%◌, ◌≤◌, ◌<◌, min}
use native.Mathlib.Omega.{arith}
use lib.Dec.{eqb}
use lib.ListN.{get_or}
use borrow.Author.Tests.{ltb-true}
use Rattle.laws.specs.Members.{Every}
use Rattle.laws.specs.Tests.{and_true}
use Rattle.net_model.specs.Network.{Net, low, up}
use Rattle.net_model.specs.Residual.{codes, usable}
use Rattle.net_theory.specs.ResidualCapacity.{residual_capacity}
use Rattle.net_theory.specs.FreeArcs.{goes}
use Rattle.flow_push.specs.Pushing.{bottleneck}

pub capacity_cap : (N : Net) (f : List ℕ) (cap : ℕ) (cs : List ℕ) → bottleneck N f cap cs ≤ cap
capacity_cap N f cap [] = omega arith
capacity_cap N f cap (c ∷ cs) = omega (arith, capacity_cap N f (min cap (residual_capacity N f c)) cs)

pub capacity_each : (N : Net) (f : List ℕ) (cap : ℕ) (cs : List ℕ) → Every (λ c. bottleneck N f cap cs ≤ residual_capacity N f c) cs
capacity_each N f cap [] = tt
capacity_each N f cap (c ∷ cs) = (omega (arith, capacity_cap N f (min cap (residual_capacity N f c)) cs), capacity_each N f (min cap (residual_capacity N f c)) cs)

pub capacity_pos : (N : Net) (f : List ℕ) (cap : ℕ) (cs : List ℕ) → 0 < cap → Every (λ c. 0 < residual_capacity N f c) cs → 0 < bottleneck N f cap cs
capacity_pos N f cap [] h e = h
capacity_pos N f cap (c ∷ cs) h e = capacity_pos N f (min cap (residual_capacity N f c)) cs (omega (arith, e.0)) e.1

pub usable_capacity : (N : Net) (f : List ℕ) (c : ℕ) → usable N f c ≡ true → 0 < residual_capacity N f c
usable_capacity N f c u = go (eqb (c % 2) 0) refl
  where
    go : (b : Bool) → eqb (c % 2) 0 ≡ b → 0 < residual_capacity N f c
    go true e = rw e (let h = ltb-true (get_or f (c / 2) 0) (up N (c / 2)) (rw e at u) in omega arith)
    go false e = rw e (let h = ltb-true (low N (c / 2)) (get_or f (c / 2) 0) (rw e at u) in omega arith)

pub goes_capacity : (N : Net) (f : List ℕ) (free : List Bool) (c : ℕ) → goes N f free c ≡ true → 0 < residual_capacity N f c
goes_capacity N f free c g = usable_capacity N f c (and_true (get_or free (c / 2) false) (usable N f c) g).1

-- ---- the loop of `bottleneck`: the codes that are left
pub record CapacityTurn (N : Net) (f : List ℕ) (goal least : ℕ) (rest : List ℕ) : Type 0 where
  pub same : bottleneck N f least rest ≡ goal
  pub codes_in : Every (λ c. c < codes N) rest
