-- The codes of residual arcs: 2a is arc a forward, 2a + 1 is arc a backward.
use mathlib.Core.Path.{◌≡◌}
use mathlib.Core.Bool.{Bool, true, false, cond}
use Prim.Native.Nat.{ℕ, suc, ◌+◌, ◌/◌, ◌%◌, ◌<◌}
use native.Mathlib.Omega.{arith}
use lib.Dec.{eqb}
use Rattle.net_model.specs.Network.{Net, arcs, tail, head}
use Rattle.net_model.specs.Residual.{codes, either, src, dst}
use Rattle.net_theory.specs.Limits.{SmallEnds}

pub even_code : (a : ℕ) → eqb ((a + a) % 2) 0 ≡ true
even_code a = let e : (a + a) % 2 ≡ 0 = omega arith in rw e

pub odd_code : (a : ℕ) → eqb (suc (a + a) % 2) 0 ≡ false
odd_code a = let e : suc (a + a) % 2 ≡ 1 = omega arith in rw e

pub even_arc : (a : ℕ) → (a + a) / 2 ≡ a
even_arc a = omega arith

pub odd_arc : (a : ℕ) → suc (a + a) / 2 ≡ a
odd_arc a = omega arith

-- what holds of both holds of the one that a code takes
pub either_is : {A : Type 0} (P : A → Type 0) (c : ℕ) (x y : A) → P x → P y → P (either c x y)
either_is P c x y hx hy = go (eqb (c % 2) 0)
  where
    go : (t : Bool) → P (cond t x y)
    go true = hx
    go false = hy

pub arc_in : (N : Net) (c : ℕ) → c < codes N → c / 2 < arcs N
arc_in N c h = omega arith

module _ (n : ℕ) (N : Net) (tails-in : (a : ℕ) → a < arcs N → tail N a < n) (heads-in : (a : ℕ) → a < arcs N → head N a < n) (c : ℕ) (h : c < codes N) where
  pub src_below : src N c < n
  src_below = either_is (λ v. v < n) c (tail N (c / 2)) (head N (c / 2)) (tails-in (c / 2) (arc_in N c h)) (heads-in (c / 2) (arc_in N c h))

  pub dst_below : dst N c < n
  dst_below = either_is (λ v. v < n) c (head N (c / 2)) (tail N (c / 2)) (heads-in (c / 2) (arc_in N c h)) (tails-in (c / 2) (arc_in N c h))

-- the ends of a residual arc, where the ends of the arcs are small
module _ (N : Net) (ok : SmallEnds N) (c : ℕ) (h : c < codes N) where
  pub src_in : src N c < 64
  src_in = src_below 64 N ok.tail_in ok.head_in c h

  pub dst_in : dst N c < 64
  dst_in = dst_below 64 N ok.tail_in ok.head_in c h
