-- The residual arcs of the arcs marked free: a walk over them, a set of nodes that none of them leaves, and arcs that can and that cannot be raised or lowered by way of them.
use Rattle.std.specs.Prelude.{◌≡◌, ◌⊎◌, List, Bool, true, false, ◌&&◌, ℕ, ◌+◌, ◌/◌, ◌≤◌, ◌<◌, get_or}
use Rattle.laws.specs.Ascending.{Distinct}
use Rattle.laws.specs.Members.{Every}
use Rattle.net_model.specs.Network.{Net, tail, head, low, up}
use Rattle.net_model.specs.Residual.{codes, usable, src, dst, CodeWalk}

-- code c can be used and its arc is free
abbrev pub goes : Net → List ℕ → List Bool → ℕ → Bool
goes N f free c = get_or free (c / 2) false && usable N f c

-- cs is a walk from s to t over free arcs from `from` on, and no code stands in it twice
pub record FreeWalk (N : Net) (f : List ℕ) (free : List Bool) (s t from : ℕ) (cs : List ℕ) : Type 0 where
  pub walk : CodeWalk N (goes N f free) s t cs
  pub distinct : Distinct cs
  pub low : Every (λ c. from + from ≤ c) cs

-- a set of nodes that has s and not t, and that no such code leaves
pub record Blocked (N : Net) (f : List ℕ) (free : List Bool) (s t from : ℕ) : Type 0 where
  pub inside : ℕ → Bool
  pub has : inside s ≡ true
  pub lacks : inside t ≡ false
  pub shut : (c : ℕ) → from + from ≤ c → c < codes N → goes N f free c ≡ true → inside (src N c) ≡ true → inside (dst N c) ≡ true

-- a walk leads from s to t over free arcs from `from` on
pub record Reaches (N : Net) (f : List ℕ) (free : List Bool) (s t from : ℕ) : Type 0 where
  pub codes : List ℕ
  pub walk : CodeWalk N (goes N f free) s t codes
  pub low : Every (λ c. from + from ≤ c) codes

-- arc a is free, and not full, and its head leads to its tail over the free arcs from `from` on
abbrev pub Raisable : Net → List ℕ → List Bool → ℕ → ℕ → Type 0
Raisable N f free from a = (get_or free a false ≡ true) × (get_or f a 0 < up N a) × Reaches N f free (head N a) (tail N a) from

-- arc a is free, and above its lower bound, and its tail leads to its head over the free arcs from `from` on
abbrev pub Lowerable : Net → List ℕ → List Bool → ℕ → ℕ → Type 0
Lowerable N f free from a = (get_or free a false ≡ true) × (low N a < get_or f a 0) × Reaches N f free (tail N a) (head N a) from

-- arc a is not free, or full, or nothing leads from its head to its tail over the free arcs from `from` on
abbrev pub NotRaisable : Net → List ℕ → List Bool → ℕ → ℕ → Type 0
NotRaisable N f free from a = (get_or free a false ≡ false) ⊎ ((up N a ≤ get_or f a 0) ⊎ Blocked N f free (head N a) (tail N a) from)

-- arc a is not free, or at its lower bound, or nothing leads from its tail to its head over the free arcs from `from` on
abbrev pub NotLowerable : Net → List ℕ → List Bool → ℕ → ℕ → Type 0
NotLowerable N f free from a = (get_or free a false ≡ false) ⊎ ((get_or f a 0 ≤ low N a) ⊎ Blocked N f free (tail N a) (head N a) from)
