-- Arcs that cannot be raised or lowered: no least-cost flow with the same arcs before them has more, or less, on them.
use mathlib.Core.Path.{◌≡◌}
use mathlib.Core.Logic.{inl, inr, ◌≢◌}
use mathlib.Core.List.{List}
use mathlib.Core.Bool.{Bool}
use Prim.Native.Nat.{ℕ, suc, ◌≤◌, ◌<◌}
use native.Mathlib.Omega.{arith}
use lib.ListN.{get_or}
use lib.IntN.{ℤ}
use Rattle.net_model.specs.Network.{Net, arcs, LeastCost}
use Rattle.net_theory.specs.Order.{NoMore, NoLess}
use Rattle.net_theory.specs.FreeArcs.{NotRaisable, NotLowerable}
use Rattle.flow_arc.specs.FreeMarks.{FreeMarks}
use Rattle.flow_arc.proofs.Certified.{blocked_less, blocked_more}

module _ (N : Net) (π : ℕ → ℤ) (free : List Bool) (f : List ℕ) (ti : FreeMarks N π free f) where
  -- g has the numbers of f before arc `from`, but for arc a
  module _ (from a : ℕ) (lt : a < arcs N) (g : List ℕ) (lg : LeastCost N g) (before : (i : ℕ) → i < from → i ≢ a → get_or f i 0 ≡ get_or g i 0) where
    pub at_most : NotRaisable N f free from a → get_or g a 0 ≤ get_or f a 0
    at_most (inl e) = omega (arith, ti.unmarked a lt e g lg)
    at_most (inr (inl e)) = omega (arith, lg.flow.below a lt)
    at_most (inr (inr e)) = blocked_more N f free a π ti lt from g lg before e

    pub at_least : NotLowerable N f free from a → get_or f a 0 ≤ get_or g a 0
    at_least (inl e) = omega (arith, ti.unmarked a lt e g lg)
    at_least (inr (inl e)) = omega (arith, lg.flow.above a lt)
    at_least (inr (inr e)) = blocked_less N f free a π ti lt from g lg before e

  pub not_raisable_most : (a : ℕ) → a < arcs N → NotRaisable N f free (suc a) a → NoMore N f a
  not_raisable_most a lt n g lg ag = at_most (suc a) a lt g lg (λ i p ne. ag i (omega arith)) n

  pub not_lowerable_least : (a : ℕ) → a < arcs N → NotLowerable N f free (suc a) a → NoLess N f a
  not_lowerable_least a lt n g lg ag = at_least (suc a) a lt g lg (λ i p ne. ag i (omega arith)) n
