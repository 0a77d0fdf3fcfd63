-- Arcs that are no candidates are passed over.
use mathlib.Core.List.{List}
use mathlib.Core.Bool.{Bool}
use Prim.Native.Nat.{ℕ, suc, ◌≤◌, ◌<◌}
use native.Mathlib.Omega.{arith}
use native.Mathlib.Decide.{dec_lt}
use lib.IntN.{ℤ}
use Rattle.net_model.specs.Network.{Net}
use Rattle.net_theory.specs.Order.{NoLess, TopFrom}
use Rattle.flow_closure.specs.Candidates.{NoneRaisable, NoneLowerable}
use Rattle.flow_arc.specs.FreeMarks.{FreeMarks}
use Rattle.flow_arc.proofs.Lists.{whole, not_raisable_whole, not_lowerable_whole}
use Rattle.flow_arc.proofs.Candidates.{not_raisable_most, not_lowerable_least}
use Rattle.flow_order.proofs.Minimising.{MinTurn}

-- arcs that are no candidates are none whatever the balances and the costs
module _ (N : Net) (b c : List ℤ) (f : List ℕ) (free : List Bool) where
  pub none_raisable_whole : (from : ℕ) → NoneRaisable N f free from → NoneRaisable (whole N b c) f free from
  none_raisable_whole from w = record { in_range = w.in_range; none = λ a h l. not_raisable_whole N b c f free (suc a) a (w.none a h l) }

  pub none_lowerable_whole : (from to : ℕ) → NoneLowerable N f free from to → NoneLowerable (whole N b c) f free from to
  none_lowerable_whole from to w = record { after = w.after; in_range = w.in_range; none = λ a h l. not_lowerable_whole N b c f free (suc a) a (w.none a h l) }

module _ (N : Net) (π : ℕ → ℤ) (free : List Bool) (f : List ℕ) (ti : FreeMarks N π free f) where
  pub next_start : (k : ℕ) → NoneRaisable N f free k → TopFrom N k f
  next_start k w a p lt = not_raisable_most N π free f ti a lt (w.none a p lt)

  -- arcs from a up to a' passed over
  pub min_pass : (f₀ : List ℕ) (k a a' : ℕ) → NoneLowerable N f free a a' → MinTurn N f₀ f k a → MinTurn N f₀ f k a'
  min_pass f₀ k a a' w m = record { least = m.least; same = m.same; minimal = λ i p q. go i p q (dec_lt i a) }
    where
      go : (i : ℕ) → k ≤ i → i < a' → Dec (i < a) → NoLess N f i
      go i p q (yes r) = m.minimal i p r
      go i p q (no r) = not_lowerable_least N π free f ti i (omega (arith, w.in_range)) (w.none i (omega arith) q)
