-- Members of a union, of the set of one node, and of no set.
use mathlib.Core.Path.{◌≡◌, refl, ◌∙◌}
use mathlib.Core.Bool.{Bool, true, false, ◌&&◌, ◌||◌}
use Prim.Native.Nat.{ℕ, zero, suc, ◌+◌, ◌-◌, ◌*◌, ◌/◌, ◌%◌, ◌^◌, ◌<◌, max}
use native.Mathlib.Nat.{one-mul, div-eq_of_lt, div_self, pow-suc, mul-mod_left}
use native.Mathlib.Omega.{arith}
use lib.Bits.{bit_or, or_shr, or_step}
use lib.Dec.{eqb, ltb}
use lib.Pow.{pow_pos, pow-lt, pow-add, shl-shr, shl_exact}
use borrow.Author.Tests.{ltb-true, ltb-false, eq-eqb, ne_eqb}
use Rattle.flow_preorder.specs.NodeSet.{has}

or_digit : (p q : ℕ) → p < 2 → q < 2 → eqb (max p q) 1 ≡ (eqb p 1 || eqb q 1)
or_digit zero zero hp hq = refl
or_digit zero (suc zero) hp hq = refl
or_digit (suc zero) zero hp hq = refl
or_digit (suc zero) (suc zero) hp hq = refl
or_digit zero (suc (suc q)) hp hq = absurd (omega arith)
or_digit (suc zero) (suc (suc q)) hp hq = absurd (omega arith)
or_digit (suc (suc p)) q hp hq = absurd (omega arith)

or_low : (x y : ℕ) → bit_or x y % 2 ≡ max (x % 2) (y % 2)
or_low x y = omega (arith, or_step x y)

pub union_has : (s t w : ℕ) → has (bit_or s t) w ≡ (has s w || has t w)
union_has s t w = rw (or_shr s t w, or_low (s / 2 ^ w) (t / 2 ^ w)) (or_digit (s / 2 ^ w % 2) (t / 2 ^ w % 2) (omega arith) (omega arith))

-- t joins s if p is in s
pub joined_yes : (s t p w : ℕ) → has s p ≡ true → has (bit_or s t) w ≡ (has s w || (has s p && has t w))
joined_yes s t p w e = rw e (union_has s t w)

pub joined_no : (s t p w : ℕ) → has s p ≡ false → has s w ≡ (has s w || (has s p && has t w))
joined_no s t p w e = rw e (or_none_lem (has s w))
  where
    or_none_lem : (b : Bool) → b ≡ (b || false)
    or_none_lem true = refl
    or_none_lem false = refl

-- the digits of a power
below : (v w : ℕ) → w < v → 2 ^ v / 2 ^ w % 2 ≡ 0
below v w h =
    let d = v - suc w in
    let e : v ≡ suc d + w = omega arith in
    rw (e, pow-add 2 (suc d) w, shl-shr (2 ^ suc d) w, pow-suc 2 d) (mul-mod_left (2 ^ d) 2)

above : (v w : ℕ) → v < w → 2 ^ v / 2 ^ w % 2 ≡ 0
above v w h = rw (div-eq_of_lt (pow-lt h)) refl

here : (v : ℕ) → 2 ^ v / 2 ^ v % 2 ≡ 1
here v = rw (div_self (pow_pos v)) refl

power_has : (v w : ℕ) → has (2 ^ v) w ≡ eqb w v
power_has v w = by_order _ _ refl refl
  where
    by_order : (s t : Bool) → ltb w v ≡ s → ltb v w ≡ t → has (2 ^ v) w ≡ eqb w v
    by_order true t p q = let h : w < v = ltb-true _ _ p in rw (below v w h, ne_eqb w v (omega arith)) refl
    by_order false true p q = let h : v < w = ltb-true _ _ q in rw (above v w h, ne_eqb w v (omega arith)) refl
    by_order false false p q =
        let e : w ≡ v = omega (arith, ltb-false w v p, ltb-false v w q) in
        rw (e, here v, eq-eqb v v refl) refl

pub only_has : (v w : ℕ) → v < 64 → has (1 * 2 ^ v % 2 ^ 64) w ≡ eqb w v
only_has v w h =
    let e : 1 * 2 ^ v % 2 ^ 64 ≡ 2 ^ v = shl_exact {a = 1} 1 v 64 (omega arith) (omega arith) ∙ one-mul (2 ^ v) in
    rw e (power_has v w)

pub none_has : (w : ℕ) → has 0 w ≡ false
none_has w = rw (div-eq_of_lt (pow_pos w)) refl
