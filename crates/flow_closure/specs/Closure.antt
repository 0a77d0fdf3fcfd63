-- The transitive closure of residual steps.
use Rattle.std.specs.Prelude.{◌≡◌, List, Bool, true, ℕ, ◌+◌, ◌≤◌, ◌<◌, ltb}
use Rattle.net_model.specs.Network.{Net}
use Rattle.net_model.specs.declared.Arc.{Arc}
use Rattle.net_model.specs.Residual.{codes, src, dst}
use Rattle.net_theory.specs.FreeArcs.{goes, Reaches}
use Rattle.flow_preorder.specs.Preorder.{leads, Preorder, Extended}

-- the steps of the codes that go, from arc `from` on, and what follows from them
pub record Closure (N : Net) (f : List ℕ) (free : List Bool) (from : ℕ) (rows : List ℕ) : Type 0 where
  pub preorder : Preorder rows
  pub steps : (c : ℕ) → from + from ≤ c → c < codes N → goes N f free c ≡ true → leads rows (src N c) (dst N c) ≡ true
  pub sound : (u v : ℕ) → u < 64 → leads rows u v ≡ true → Reaches N f free u v from

-- the steps of an arc that carries so many units added, forward and then backward
pub record StepsAdded (rows rows' : List ℕ) (arc : Arc) (units : ℕ) : Type 0 where
  pub mid : List ℕ
  pub forth : Extended rows mid (ltb units arc.up) arc.tail arc.head
  pub back : Extended mid rows' (ltb arc.low units) arc.head arc.tail
