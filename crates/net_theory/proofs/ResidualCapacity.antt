-- What it says of the numbers that an amount can go along a code, and of walks.
use mathlib.Core.Path.{◌≡◌, refl}
use mathlib.Core.List.{List}
use mathlib.Core.Bool.{Bool, true, false}
use Prim.Native.Nat.{ℕ, ◌+◌, ◌-◌, ◌/◌, ◌%◌, ◌≤◌, ◌<◌}
use native.Mathlib.Omega.{arith}
use lib.Dec.{eqb}
use lib.ListN.{get_or}
use borrow.Author.Tests.{leb-true, le-leb, ltb-true, lt-ltb}
use Rattle.laws.specs.Members.{Every, every_map, every_map2}
use Rattle.net_model.specs.Network.{Net, low, up}
use Rattle.net_model.specs.Residual.{codes, usable, src, dst, CodeWalk, Walk}
use Rattle.net_model.proofs.Walks.{walk_holds, walk_with}
use Rattle.net_theory.specs.ResidualCapacity.{has_capacity, residual_capacity}
use Rattle.net_theory.specs.Bounds.{InBounds}

-- what it asks forward, and backward
pub has_capacity_forth : (N : Net) (f : List ℕ) (δ c : ℕ) → has_capacity N f δ c ≡ true → eqb (c % 2) 0 ≡ true → get_or f (c / 2) 0 + δ ≤ up N (c / 2)
has_capacity_forth N f δ c r e = leb-true (get_or f (c / 2) 0 + δ) (up N (c / 2)) (rw e at r)

pub has_capacity_back : (N : Net) (f : List ℕ) (δ c : ℕ) → has_capacity N f δ c ≡ true → eqb (c % 2) 0 ≡ false → low N (c / 2) + δ ≤ get_or f (c / 2) 0
has_capacity_back N f δ c r e = leb-true (low N (c / 2) + δ) (get_or f (c / 2) 0) (rw e at r)

pub has_capacity_both : (N : Net) (f : List ℕ) (δ c : ℕ) → (eqb (c % 2) 0 ≡ true → get_or f (c / 2) 0 + δ ≤ up N (c / 2)) → (eqb (c % 2) 0 ≡ false → low N (c / 2) + δ ≤ get_or f (c / 2) 0)
    → has_capacity N f δ c ≡ true
has_capacity_both N f δ c forth back = go (eqb (c % 2) 0) refl
  where
    go : (t : Bool) → eqb (c % 2) 0 ≡ t → has_capacity N f δ c ≡ true
    go true e = rw e (le-leb (get_or f (c / 2) 0 + δ) (up N (c / 2)) (forth e))
    go false e = rw e (le-leb (low N (c / 2) + δ) (get_or f (c / 2) 0) (back e))

capacity_has_capacity : (N : Net) (f : List ℕ) (δ c : ℕ) → InBounds N f → c < codes N → δ ≤ residual_capacity N f c → has_capacity N f δ c ≡ true
capacity_has_capacity N f δ c b l h = has_capacity_both N f δ c
    (λ e. (let r : δ ≤ up N (c / 2) - get_or f (c / 2) 0 = rw e at h in omega (arith, b.below (c / 2) (omega arith))))
    (λ e. (let r : δ ≤ get_or f (c / 2) 0 - low N (c / 2) = rw e at h in omega (arith, b.above (c / 2) (omega arith))))

pub all_has_capacity : (N : Net) (f : List ℕ) (δ : ℕ) (cs : List ℕ) → InBounds N f → Every (λ c. c < codes N) cs → Every (λ c. δ ≤ residual_capacity N f c) cs → Every (λ c. has_capacity N f δ c ≡ true) cs
all_has_capacity N f δ cs b = every_map2 (λ c. c < codes N) (λ c. δ ≤ residual_capacity N f c) (λ c. has_capacity N f δ c ≡ true) cs (λ c l r. capacity_has_capacity N f δ c b l r)

-- where δ more can go, one more can
pub has_capacity_usable : (N : Net) (f : List ℕ) (δ c : ℕ) → 0 < δ → has_capacity N f δ c ≡ true → usable N f c ≡ true
has_capacity_usable N f δ c h e = go (eqb (c % 2) 0) refl
  where
    go : (t : Bool) → eqb (c % 2) 0 ≡ t → usable N f c ≡ true
    go true q = rw q (lt-ltb (get_or f (c / 2) 0) (up N (c / 2)) (omega (arith, has_capacity_forth N f δ c e q)))
    go false q = rw q (lt-ltb (low N (c / 2)) (get_or f (c / 2) 0) (omega (arith, has_capacity_back N f δ c e q)))

pub usable_has_capacity : (N : Net) (f : List ℕ) (c : ℕ) → usable N f c ≡ true → has_capacity N f 1 c ≡ true
usable_has_capacity N f c e = has_capacity_both N f 1 c
    (λ q. omega (arith, ltb-true (get_or f (c / 2) 0) (up N (c / 2)) (rw q at e)))
    (λ q. omega (arith, ltb-true (low N (c / 2)) (get_or f (c / 2) 0) (rw q at e)))

-- the walks that 1 can go along are the residual walks
pub has_capacity_walk : (N : Net) (f : List ℕ) (δ : ℕ) → 0 < δ → (u v : ℕ) (cs : List ℕ) → CodeWalk N (has_capacity N f δ) u v cs → Walk N f u v cs
has_capacity_walk N f δ h u v cs w =
    walk_with (codes N) (src N) (dst N) (has_capacity N f δ) (usable N f) u v cs
    (every_map (λ c. has_capacity N f δ c ≡ true) (λ c. usable N f c ≡ true) cs (λ c. has_capacity_usable N f δ c h) (walk_holds (codes N) (src N) (dst N) (has_capacity N f δ) u v cs w)) w

pub walk_has_capacity : (N : Net) (f : List ℕ) (u v : ℕ) (cs : List ℕ) → Walk N f u v cs → CodeWalk N (has_capacity N f 1) u v cs
walk_has_capacity N f u v cs w =
    walk_with (codes N) (src N) (dst N) (usable N f) (has_capacity N f 1) u v cs
    (every_map (λ c. usable N f c ≡ true) (λ c. has_capacity N f 1 c ≡ true) cs (usable_has_capacity N f) (walk_holds (codes N) (src N) (dst N) (usable N f) u v cs w)) w
