-- Document 01, "The network and its flows": the residual network of a flow, its walks and cycles, the prices.
use Rattle.std.specs.Prelude.{◌≡◌, Bool, true, cond, List, [], ◌∷◌, map, ℕ, ◌+◌, ◌/◌, ◌%◌, ◌<◌, eqb, ltb, length, get_or, ℤ, pos, neg_ℤ, ◌+ℤ◌, ◌≤ℤ◌}
use Rattle.laws.specs.Ascending.{Distinct}
use Rattle.net_model.specs.Network.{Net, nodes, arcs, tail, head, low, up, cost}

-- "The residual network of a flow has each arc forward (cost c) if f < u and backward (cost −c) if f > l."
-- A residual arc is named by a code: 2a is arc a forward, 2a + 1 is arc a backward.
abbrev pub either : {A : Type 0} → ℕ → A → A → A
either c x y = cond (eqb (c % 2) 0) x y

abbrev pub codes : Net → ℕ
codes N = arcs N + arcs N

abbrev pub usable : Net → List ℕ → ℕ → Bool
usable N f c = either c (ltb (get_or f (c / 2) 0) (up N (c / 2))) (ltb (low N (c / 2)) (get_or f (c / 2) 0))

-- where a residual arc starts and ends, and its cost; a loop is one from its node to itself
abbrev pub src : Net → ℕ → ℕ
src N c = either c (tail N (c / 2)) (head N (c / 2))

abbrev pub dst : Net → ℕ → ℕ
dst N c = either c (head N (c / 2)) (tail N (c / 2))

abbrev pub step_cost : Net → ℕ → ℤ
step_cost N c = either c (cost N (c / 2)) (neg_ℤ (cost N (c / 2)))

-- a walk over numbered steps below hi, step c from sr c to ds c, each of them one that p holds of: from u to v, as the list of its steps, the last one first
abbrev pub WalkOver : ℕ → (ℕ → ℕ) → (ℕ → ℕ) → (ℕ → Bool) → ℕ → ℕ → List ℕ → Type 0
WalkOver hi sr ds p u v [] = u ≡ v
WalkOver hi sr ds p u v (c ∷ cs) = (c < hi) × (p c ≡ true) × (ds c ≡ v) × WalkOver hi sr ds p u (sr c) cs

-- a walk of the codes that p holds of
abbrev pub CodeWalk : Net → (ℕ → Bool) → ℕ → ℕ → List ℕ → Type 0
CodeWalk N p u v cs = WalkOver (codes N) (src N) (dst N) p u v cs

-- a residual walk
abbrev pub Walk : Net → List ℕ → ℕ → ℕ → List ℕ → Type 0
Walk N f u v cs = CodeWalk N (usable N f) u v cs

abbrev pub walk_cost : Net → List ℕ → ℤ
walk_cost N [] = pos 0
walk_cost N (c ∷ cs) = step_cost N c +ℤ walk_cost N cs

-- a residual cycle: a walk of at least one arc back to where it started, that comes to no node twice
pub record Cycle (N : Net) (f cs : List ℕ) : Type 0 where
  pub node : ℕ
  pub closed : Walk N f node node cs
  pub some : 0 < length cs
  pub simple : Distinct (map (dst N) cs)

-- "A node's price is the least cost of a residual walk that ends there, from any node, the walk without arcs (cost 0) included."
pub record Price (N : Net) (f : List ℕ) (v : ℕ) (p : ℤ) : Type 0 where
  pub from : ℕ
  pub walk : List ℕ
  pub starts : from < nodes N
  pub leads : Walk N f from v walk
  pub costs : walk_cost N walk ≡ p
  pub least : (u : ℕ) (cs : List ℕ) → u < nodes N → Walk N f u v cs → p ≤ℤ walk_cost N cs
