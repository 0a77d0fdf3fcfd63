-- Searches over the residual arcs of the arcs marked free, and the walks that they find.
use Rattle.std.specs.Prelude.{◌≡◌, Option, None, Some, List, Bool, ℕ, suc, ◌+◌, ◌≤◌, ◌<◌, length, get_or, take, drop}
use Rattle.net_model.specs.Network.{Net}
use Rattle.net_model.specs.Residual.{codes, src, dst}
use Rattle.net_theory.specs.FreeArcs.{goes, FreeWalk, Blocked}
use Rattle.net_theory.specs.Reach.{Tree, Spread, Reached, Rounded}
use Rattle.net_theory.specs.Trace.{Falls, TracedAny}

-- before a search: no node has a rank
pub record NoneReached (rank : List ℕ) : Type 0 where
  pub rank_len : length rank ≡ 64
  pub zeros : (v : ℕ) → v < length rank → get_or rank v 0 ≡ 0

-- what a search from s over the free arcs from `from` on has reached: count nodes
abbrev pub SearchTree : Net → List ℕ → List Bool → ℕ → ℕ → List ℕ → List ℕ → ℕ → Type 0
SearchTree N f free s from rank via count = Tree 64 (from + from) (codes N) (src N) (dst N) (goes N f free) s rank via count

-- the codes of arc a tried, forward and then backward
pub record SpreadArc (N : Net) (f : List ℕ) (free : List Bool) (a : ℕ) (rank via : List ℕ) (count : ℕ) (rank' via' : List ℕ) (r : ℕ) : Type 0 where
  pub mid_rank : List ℕ
  pub mid_via : List ℕ
  pub mid : ℕ
  pub forth : Spread (goes N f free (a + a)) rank via count (src N (a + a)) (dst N (a + a)) (a + a) mid_rank mid_via mid
  pub back : Spread (goes N f free (suc (a + a))) mid_rank mid_via mid (src N (suc (a + a))) (dst N (suc (a + a))) (suc (a + a)) rank' via' r

-- r nodes reached, of them count before the round; where t is not among them and none is new, no code leads to a further one
abbrev pub Round : Net → List ℕ → List Bool → ℕ → ℕ → ℕ → ℕ → List ℕ → List ℕ → ℕ → Type 0
Round N f free s t from count rank via r = Rounded 64 (from + from) (codes N) (src N) (dst N) (goes N f free) s t count rank via r

-- r nodes reached; t is among them, or no code leads to a further one
abbrev pub Reach : Net → List ℕ → List Bool → ℕ → ℕ → ℕ → List ℕ → List ℕ → ℕ → Type 0
Reach N f free s t from rank via r = Reached 64 (from + from) (codes N) (src N) (dst N) (goes N f free) s t rank via r

-- t is reached, and the codes in via lead back from it to the root
pub record Traceable (N : Net) (rank via : List ℕ) (t : ℕ) : Type 0 where
  pub falls : Falls 64 (codes N) (src N) rank via
  pub node : t < 64
  pub reached : 0 < get_or rank t 0

-- the first r codes lead to t from the root of any tree that rank and via make; the lent list keeps what it held beyond them
pub record Trace (N : Net) (rank via : List ℕ) (t : ℕ) (codes₀ codes₁ : List ℕ) (r : ℕ) : Type 0 where
  pub fits : r ≤ length codes₁
  pub traced : TracedAny 64 (codes N) (src N) (dst N) rank via t (λ s. s) (take r codes₁)
  pub rest : drop r codes₁ ≡ drop r codes₀

-- the first r codes are a walk from s to t, or there is none; the lent list keeps what it held beyond them
abbrev pub FindsWalk : Net → List ℕ → List Bool → ℕ → ℕ → ℕ → List ℕ → List ℕ → Option ℕ → Type 0
FindsWalk N f free s t from codes codes' (Some r) = (r ≤ length codes') × FreeWalk N f free s t from (take r codes') × (drop r codes' ≡ drop r codes)
FindsWalk N f free s t from codes codes' None = Blocked N f free s t from × (codes' ≡ codes)
