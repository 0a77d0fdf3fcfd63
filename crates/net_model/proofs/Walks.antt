-- Walks: the steps of one, over other steps, one after the other, and what two of them cost together.
use mathlib.Core.Path.{◌≡◌, subst}
use mathlib.Core.Bool.{Bool, true}
use mathlib.Core.List.{List, [], ◌∷◌, ◌++◌}
use Prim.Native.Nat.{ℕ, ◌<◌}
use native.Mathlib.Omega.{arith}
use lib.IntN.{◌+ℤ◌}
use Rattle.laws.specs.Linear.{lin, given}
use Rattle.laws.specs.Members.{Every}
use Rattle.net_model.specs.Network.{Net}
use Rattle.net_model.specs.Residual.{WalkOver, walk_cost}

module _ (hi : ℕ) (sr ds : ℕ → ℕ) (p : ℕ → Bool) where
  pub walk_below : (u v : ℕ) (cs : List ℕ) → WalkOver hi sr ds p u v cs → Every (λ c. c < hi) cs
  walk_below u v [] w = tt
  walk_below u v (c ∷ cs) w = (w.0, walk_below u (sr c) cs w.3)

  pub walk_holds : (u v : ℕ) (cs : List ℕ) → WalkOver hi sr ds p u v cs → Every (λ c. p c ≡ true) cs
  walk_holds u v [] w = tt
  walk_holds u v (c ∷ cs) w = (w.1, walk_holds u (sr c) cs w.3)

  -- q holds of its steps too
  pub walk_with : (q : ℕ → Bool) (u v : ℕ) (cs : List ℕ) → Every (λ c. q c ≡ true) cs → WalkOver hi sr ds p u v cs → WalkOver hi sr ds q u v cs
  walk_with q u v [] h w = w
  walk_with q u v (c ∷ cs) h w = (w.0, h.0, w.2, walk_with q u (sr c) cs h.1 w.3)

  pub walk_append : (u v w : ℕ) (l k : List ℕ) → WalkOver hi sr ds p v w l → WalkOver hi sr ds p u v k → WalkOver hi sr ds p u w (l ++ k)
  walk_append u v w [] k a b = subst (λ (i : ℕ). WalkOver hi sr ds p u i k) a b
  walk_append u v w (c ∷ l) k a b = (a.0, a.1, a.2, walk_append u v (sr c) l k a.3 b)

pub cost_append : (N : Net) (l k : List ℕ) → walk_cost N (l ++ k) ≡ walk_cost N l +ℤ walk_cost N k
cost_append N [] k = simp lin (omega arith)
cost_append N (c ∷ l) k = given (cost_append N l k) (simp lin (omega arith))
