-- One residual arc tried, as code of any width does it. By a branch: the arc is not on, its offer is better, or it is not. By a choice: an arc that
-- is not on offers 0, and that is no better than a label of at most 0.
use mathlib.Core.Path.{◌≡◌, refl, sym, ap, ◌∙◌}
use mathlib.Core.Bool.{Bool, true, false, cond, ◌&&◌}
use mathlib.Core.List.{List}
use Prim.Native.Nat.{ℕ}
use native.Mathlib.Omega.{arith}
use lib.ListN.{get_or, set}
use lib.IntN.{ℤ, pos, ◌+ℤ◌}
use lib.Signed.{lt_z, ◌≤ℤ◌}
use mir.Syntax.{Width}
use mir.Val.{SFits, to_z, of_z}
use mir.Facts.{to_z-of_z}
use Rattle.laws.specs.Linear.{lin, given2}
use Rattle.laws.specs.Integers.{lt_z_true}
use Rattle.flow_relax.specs.Labels.{State, state, set_if}
use Rattle.flow_relax.proofs.Sums.{sum_is, test_is}

module _ (d : List ℤ) (p : List ℕ) (last u v code : ℕ) (c : ℤ) where
  abbrev a : ℤ
  a = get_or d u (pos 0)

  abbrev b : ℤ
  b = get_or d v (pos 0)

  abbrev tried : Bool → State
  tried on = set_if (on && lt_z (a +ℤ c) b) v (a +ℤ c) code (state d p last)

  pub not_on : (on : Bool) → on ≡ false → state d p last ≡ tried on
  not_on on e = rw e

  module _ (w : Width) (fa : SFits w a) (fb : SFits w b) (fc : SFits w c) (f : SFits w (a +ℤ c)) where
    abbrev sum : ℤ
    sum = to_z w (of_z w (to_z w (of_z w a) +ℤ to_z w (of_z w c)))

    abbrev below : ℤ → Bool
    below x = lt_z x (to_z w (of_z w b))

    pub better_offer : (on : Bool) → on ≡ true → below sum ≡ true → state (set d v sum) (set p v code) v ≡ tried on
    better_offer on e t = rw (e, sum_is w a c fa fc f, sym (test_is w a c fa fc f b fb) ∙ t)

    pub no_better_offer : (on : Bool) → on ≡ true → below sum ≡ false → state d p last ≡ tried on
    no_better_offer on e t = rw (e, sym (test_is w a c fa fc f b fb) ∙ t)

    -- x is what was chosen
    module _ (low : b ≤ℤ pos 0) where
      pub better_choice : (on : Bool) (x : ℤ) → x ≡ cond on sum (pos 0) → below x ≡ true → state (set d v x) (set p v code) v ≡ tried on
      better_choice true x e t = ap (λ z. state (set d v z) (set p v code) v) e ∙ better_offer true refl (sym (ap below e) ∙ t)
      better_choice false x e t = absurd (given2 (lt_z_true (pos 0) b (sym (ap (lt_z (pos 0)) (to_z-of_z fb)) ∙ sym (ap below e) ∙ t)) low (simp lin (omega arith)))

      pub no_better_choice : (on : Bool) (x : ℤ) → x ≡ cond on sum (pos 0) → below x ≡ false → state d p last ≡ tried on
      no_better_choice true x e t = no_better_offer true refl (sym (ap below e) ∙ t)
      no_better_choice false x e t = not_on false refl
