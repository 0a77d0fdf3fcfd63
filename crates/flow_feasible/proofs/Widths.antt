-- Numbers of 32 and 64 bits.
use mathlib.Core.Path.{◌≡◌}
use mathlib.Core.Bool.{true, false}
use native.Mathlib.Omega.{arith}
use lib.Dec.{T}
use lib.IntN.{ℤ, pos, neg_ℤ, negsuc, nat_abs, ◌-ℤ◌}
use lib.Signed.{◌<ℤ◌, le_z, lt_z, non_neg}
use mir.Syntax.{w32, w64}
use mir.Val.{SFits, Fits}
use Rattle.laws.specs.Integers.{le_z_false, lt_z_true, lt_z_false}
use Rattle.laws.specs.Linear.{lin, given, given2}
use Rattle.laws.specs.Range.{Bounded, fits}
use Rattle.flow_feasible.specs.Sending.{Capped}

-- ---- a positive number, capped
pub cap_yes : (x z : ℤ) → z ≡ x → lt_z (pos 1000000) z ≡ true → Capped x 1000000
cap_yes x z e h = record { at_most = given2 e (lt_z_true (pos 1000000) z h) (simp lin (omega arith)); some = omega arith }

pub cap_cast : (x z : ℤ) → z ≡ x → pos 0 <ℤ x → lt_z (pos 1000000) z ≡ false → T (non_neg z) × Fits w32 (nat_abs z)
cap_cast x (pos n) e p h = given (lt_z_false (pos 1000000) (pos n) h) (λ k. (tt, record { fits = given k (simp lin (omega arith)) }))
cap_cast x (negsuc n) e p h = absurd (given2 e p (simp lin (omega arith)))

pub cap_no : (x z : ℤ) → z ≡ x → pos 0 <ℤ x → Capped x (nat_abs z)
cap_no x (pos n) e p = record { at_most = given e (simp lin (omega arith)); some = given2 e p (simp lin (omega arith)) }
cap_no x (negsuc n) e p = absurd (given2 e p (simp lin (omega arith)))

-- ---- a number below 0, turned
pub below : (z x : ℤ) → z ≡ x → le_z (pos 0) z ≡ false → pos 0 <ℤ (pos 0 -ℤ z)
below z x e h = given (le_z_false (pos 0) z h) (simp lin (omega arith))

pub turned_fits : (z x : ℤ) → z ≡ x → Bounded 3000000000 x → SFits w64 (pos 0 -ℤ z)
turned_fits z x e w = given2 e w (simp fits (omega arith))

pub zero_sub : (x : ℤ) → pos 0 -ℤ x ≡ neg_ℤ x
zero_sub x = simp lin (omega arith)
