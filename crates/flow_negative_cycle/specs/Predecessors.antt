-- Predecessors: the steps back from a node, the cycles that they come to, and what labels keep of them.
use Rattle.std.specs.Prelude.{◌≡◌, true, List, [], ◌∷◌, ℕ, zero, suc, ◌≤◌, ◌<◌, length, get_or, take, drop, ℤ, pos, ◌+ℤ◌, ◌≤ℤ◌, ◌<ℤ◌, Option, Some, None}
use Rattle.net_model.specs.Network.{Net}
use Rattle.net_model.specs.Residual.{codes, src, dst, step_cost}
use Rattle.net_theory.specs.ResidualCapacity.{has_capacity}

-- the code that gave node v its label
abbrev pub pred : List ℕ → ℕ → ℕ
pred p v = get_or p v 0

-- the node t steps back from x, and the cost of these steps
unfoldable pub back : Net → List ℕ → ℕ → ℕ → ℕ
back N p zero x = x
back N p (suc t) x = src N (pred p (back N p t x))

unfoldable pub back_cost : Net → List ℕ → ℕ → ℕ → ℤ
back_cost N p zero x = pos 0
back_cost N p (suc t) x = step_cost N (pred p (back N p t x)) +ℤ back_cost N p t x

-- t steps lead back from x
abbrev pub Backs : Net → List ℕ → ℕ → ℕ → Type 0
Backs N p t x = (i : ℕ) → i < t → pred p (back N p i x) < codes N

-- t steps lead back from x to x
pub record PredecessorCycle (N : Net) (p : List ℕ) (x t : ℕ) : Type 0 where
  pub node : x < 64
  pub some : 0 < t
  pub steps : Backs N p t x
  pub closes : back N p t x ≡ x

-- some number of steps, at most 64, leads back from x to x; and the least one
pub record Returns (N : Net) (p : List ℕ) (x : ℕ) : Type 0 where
  pub steps : ℕ
  pub few : steps ≤ 64
  pub round : PredecessorCycle N p x steps

pub record Period (N : Net) (p : List ℕ) (x t : ℕ) : Type 0 where
  pub round : PredecessorCycle N p x t
  pub first : (i : ℕ) → 0 < i → i < t → ¬ (back N p i x ≡ x)

-- the codes of t steps back from x: a walk that ends there, its last code first
abbrev pub back_codes : Net → List ℕ → ℕ → ℕ → List ℕ
back_codes N p zero x = []
back_codes N p (suc t) x = pred p x ∷ back_codes N p t (src N (pred p x))

-- the steps back from x end after t
pub record BackEnds (N : Net) (p : List ℕ) (x t : ℕ) : Type 0 where
  pub few : t < 64
  pub steps : Backs N p t x
  pub ends : codes N ≤ pred p (back N p t x)

-- labels that a search keeps
pub record Labelled (N : Net) (f : List ℕ) (δ : ℕ) (d : List ℤ) (p : List ℕ) : Type 0 where
  pub labels_len : length d ≡ 64
  pub preds_len : length p ≡ 64
  -- a node without a predecessor has label 0
  pub root : (v : ℕ) → v < 64 → codes N ≤ pred p v → get_or d v (pos 0) ≡ pos 0
  -- a predecessor has capacity, ends at its node, and offers no more than the node's label
  pub capacity : (v : ℕ) → v < 64 → pred p v < codes N → has_capacity N f δ (pred p v) ≡ true
  pub ends : (v : ℕ) → v < 64 → pred p v < codes N → dst N (pred p v) ≡ v
  pub offers : (v : ℕ) → v < 64 → pred p v < codes N → (get_or d (src N (pred p v)) (pos 0) +ℤ step_cost N (pred p v)) ≤ℤ get_or d v (pos 0)
  -- what leads back to itself costs less than 0
  pub negative : (x t : ℕ) → PredecessorCycle N p x t → back_cost N p t x <ℤ pos 0

-- 64 steps back from v, or fewer to a node without a predecessor (none)
pub data GoesBack (N : Net) (p : List ℕ) (v : ℕ) (r : Option ℕ) : Type 0 where
  ended : r ≡ None → (t : ℕ) → BackEnds N p v t → GoesBack N p v r
  went : r ≡ Some (back N p 64 v) → Backs N p 64 v → GoesBack N p v r

-- r codes lead back from x to x for the first time; the lent list keeps what it held beyond them
pub record Collects (N : Net) (p : List ℕ) (x : ℕ) (out out' : List ℕ) (r : ℕ) : Type 0 where
  pub few : r ≤ 64
  pub period : Period N p x r
  pub are : take r out' ≡ back_codes N p r x
  pub rest : drop r out' ≡ drop r out
