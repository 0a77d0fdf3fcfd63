use Rattle.std.proofs.Common.{◌≡◌, ℕ, ◌<◌, eqb, get_or}
use Rattle.flow_preorder.specs.NodeSet.{has}
use Rattle.flow_preorder.proofs.alone.Given as goal

abbrev pub invariant-loop-v : goal.invariant-loop-v
invariant-loop-v l = ((u : ℕ) → u < l.v → u < 64 → (w : ℕ) → has (get_or l.rows u 0) w ≡ eqb w u) × (64 < l.v → get_or l.rows 64 0 ≡ 0)
