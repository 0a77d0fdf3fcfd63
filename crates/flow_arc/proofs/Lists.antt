-- What the arcs and their bounds decide is the same whatever the balances and the costs.
use mathlib.Core.Path.{◌≡◌, refl, ap, ◌∙◌}
use mathlib.Core.Logic.{inl, inr}
use mathlib.Core.List.{List, [], ◌∷◌}
use mathlib.Core.Bool.{Bool}
use Prim.Native.Nat.{ℕ, ◌-◌, min}
use lib.ListN.{get_or, set}
use lib.IntN.{ℤ}
use Rattle.net_model.specs.Network.{Net, low}
use Rattle.net_theory.specs.FreeArcs.{FreeWalk, Blocked, NotRaisable, NotLowerable}
use Rattle.net_theory.specs.Graph.{net_with}
use Rattle.net_theory.specs.Push.{push_all}
use Rattle.net_theory.specs.ResidualCapacity.{residual_capacity}
use Rattle.flow_push.specs.Pushing.{bottleneck}
use Rattle.flow_arc.specs.WalksAbove.{takes}

-- N with other balances and costs
abbrev pub whole : Net → List ℤ → List ℤ → Net
whole N b c = net_with b N.tails N.heads N.lows N.ups c

module _ (N : Net) (b c : List ℤ) (f : List ℕ) where
  capacity_whole : (cap : ℕ) (cs : List ℕ) → bottleneck N f cap cs ≡ bottleneck (whole N b c) f cap cs
  capacity_whole cap [] = refl
  capacity_whole cap (x ∷ cs) = capacity_whole (min cap (residual_capacity N f x)) cs

  pub exact_whole : (f' : List ℕ) (k : ℕ) (cs : List ℕ) → f' ≡ push_all (takes N f k cs) cs (set f k (get_or f k 0 - takes N f k cs))
      → f' ≡ push_all (takes (whole N b c) f k cs) cs (set f k (get_or f k 0 - takes (whole N b c) f k cs))
  exact_whole f' k cs e = e ∙ ap (λ d. push_all d cs (set f k (get_or f k 0 - d))) (capacity_whole (get_or f k 0 - low N k) cs)

  module _ (free : List Bool) where
    pub free_walk_whole : (x y from : ℕ) (cs : List ℕ) → FreeWalk N f free x y from cs → FreeWalk (whole N b c) f free x y from cs
    free_walk_whole x y from cs p = record { walk = p.walk; distinct = p.distinct; low = p.low }

    blocked_whole : (x y from : ℕ) → Blocked N f free x y from → Blocked (whole N b c) f free x y from
    blocked_whole x y from p = record { inside = p.inside; has = p.has; lacks = p.lacks; shut = p.shut }

    pub not_raisable_whole : (from a : ℕ) → NotRaisable N f free from a → NotRaisable (whole N b c) f free from a
    not_raisable_whole from a (inl e) = inl e
    not_raisable_whole from a (inr (inl e)) = inr (inl e)
    not_raisable_whole from a (inr (inr p)) = inr (inr (blocked_whole _ _ from p))

    pub not_lowerable_whole : (from a : ℕ) → NotLowerable N f free from a → NotLowerable (whole N b c) f free from a
    not_lowerable_whole from a (inl e) = inl e
    not_lowerable_whole from a (inr (inl e)) = inr (inl e)
    not_lowerable_whole from a (inr (inr p)) = inr (inr (blocked_whole _ _ from p))
