-- Nodes that a network does not have: no arc ends there, so their labels are 0.
use mathlib.Core.Path.{◌≡◌, sym}
use mathlib.Core.List.{List, [], ◌∷◌}
use Prim.Native.Nat.{ℕ, ◌≤◌, ◌<◌}
use native.Mathlib.Omega.{arith}
use native.Mathlib.Decide.{dec_lt}
use lib.ListN.{get_or, get_or-eq_default}
use lib.IntN.{ℤ, pos}
use Rattle.net_model.specs.Network.{Net, nodes, WellFormed}
use Rattle.net_model.specs.Residual.{Walk, walk_cost}
use Rattle.net_theory.specs.Graph.{costed}
use Rattle.net_theory.proofs.Codes.{dst_below}
use Rattle.flow_prices.specs.Prices.{PriceLabels}

module _ (N : Net) (f : List ℕ) (ok : WellFormed N) (d : List ℤ) (P : PriceLabels (costed N) f d) where
  pub labels_beyond : (v : ℕ) → nodes N ≤ v → get_or d v (pos 0) ≡ pos 0
  labels_beyond v k = go (dec_lt v 64)
    where
      empty : (x : ℕ) (cs : List ℕ) → Walk (costed N) f x v cs → walk_cost (costed N) cs ≡ get_or d v (pos 0) → get_or d v (pos 0) ≡ pos 0
      empty x [] w e = sym e
      empty x (a ∷ cs) w e = absurd (omega (arith, dst_below (nodes N) (costed N) ok.tail_in ok.head_in a w.0, w.2))

      go : Dec (v < 64) → get_or d v (pos 0) ≡ pos 0
      go (yes n) = let (x, cs, w, e) = P.labels.walked v n in empty x cs w e
      go (no n) = get_or-eq_default d (pos 0) {n = v} (omega (arith, P.labels.len))
