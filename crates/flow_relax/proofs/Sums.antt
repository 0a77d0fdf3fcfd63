-- A sum, the test of it and a negative, as code makes them of signed numbers of any width.
use mathlib.Core.Path.{◌≡◌, ap, ap₂, sym, subst, ◌∙◌}
use Prim.Native.Nat.{ℕ, ◌+◌, ◌^◌, ◌<◌}
use lib.IntN.{ℤ, pos, neg_ℤ, ◌+ℤ◌, ◌-ℤ◌}
use lib.Signed.{lt_z}
use mir.Syntax.{Width}
use mir.Val.{SFits, hbits, to_z, of_z}
use mir.Facts.{to_z-of_z}
use native.Mathlib.Omega.{arith}
use Rattle.laws.specs.Linear.{lin}
use Rattle.laws.specs.Range.{Bounded, bounded_add, bounded_neg, bounded_fits}

module _ (w : Width) where
  -- the sum of a and c, where it fits
  module _ (a c : ℤ) (fa : SFits w a) (fc : SFits w c) (f : SFits w (a +ℤ c)) where
    parts : to_z w (of_z w a) +ℤ to_z w (of_z w c) ≡ a +ℤ c
    parts = ap₂ ◌+ℤ◌ (to_z-of_z fa) (to_z-of_z fc)

    pub sum_fits : SFits w (to_z w (of_z w a) +ℤ to_z w (of_z w c))
    sum_fits = subst (SFits w) (sym parts) f

    pub sum_is : to_z w (of_z w (to_z w (of_z w a) +ℤ to_z w (of_z w c))) ≡ a +ℤ c
    sum_is = to_z-of_z sum_fits ∙ parts

    -- whether it is below b
    pub test_is : (b : ℤ) → SFits w b → lt_z (to_z w (of_z w (to_z w (of_z w a) +ℤ to_z w (of_z w c)))) (to_z w (of_z w b)) ≡ lt_z (a +ℤ c) b
    test_is b fb = ap₂ lt_z sum_is (to_z-of_z fb)

  -- a sum fits where both are small for the width
  pub small_sum : {A B : ℕ} {x y : ℤ} → Bounded A x → Bounded B y → A + B < 2 ^ hbits w → SFits w (x +ℤ y)
  small_sum {A} {B} h k l = bounded_fits w (A + B) _ (bounded_add h k) l

  -- the negative of z, where x is read for z
  module _ (B : ℕ) (l : B < 2 ^ hbits w) (x z : ℤ) (e : to_z w (of_z w x) ≡ z) (h : Bounded B z) where
    less : pos 0 -ℤ to_z w (of_z w x) ≡ neg_ℤ z
    less = ap (λ y. pos 0 -ℤ y) e ∙ simp lin (omega arith)

    pub negative_fits : SFits w (pos 0 -ℤ to_z w (of_z w x))
    negative_fits = subst (SFits w) (sym less) (bounded_fits w B (neg_ℤ z) (bounded_neg h) l)

    pub negative_is : to_z w (of_z w (pos 0 -ℤ to_z w (of_z w x))) ≡ neg_ℤ z
    negative_is = to_z-of_z negative_fits ∙ less
