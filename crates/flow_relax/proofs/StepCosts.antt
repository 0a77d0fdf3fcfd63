-- The cost of a residual arc, where the costs of the arcs are small.
use Prim.Native.Nat.{ℕ, ◌/◌, ◌<◌}
use lib.IntN.{neg_ℤ}
use Rattle.laws.specs.Range.{Bounded, bounded_neg}
use Rattle.net_model.specs.Network.{Net, cost}
use Rattle.net_model.specs.Residual.{codes, step_cost}
use Rattle.net_theory.specs.Limits.{SmallCosts}
use Rattle.net_theory.proofs.Codes.{either_is, arc_in}

pub step_small : (N : Net) → SmallCosts N → (c : ℕ) → c < codes N → Bounded 1000000 (step_cost N c)
step_small N ok c h =
    let small = ok.cost_small (c / 2) (arc_in N c h) in
    either_is (λ z. Bounded 1000000 z) c (cost N (c / 2)) (neg_ℤ (cost N (c / 2))) small (bounded_neg small)
