-- From a search to a walk, or to a set of nodes that no code leaves.
use mathlib.Core.Path.{◌≡◌}
use mathlib.Core.List.{List}
use mathlib.Core.Bool.{Bool}
use Prim.Native.Nat.{ℕ, ◌+◌, ◌≤◌, ◌<◌}
use native.Mathlib.Omega.{arith}
use native.Mathlib.Numerals.{add-one}
use lib.Dec.{ltb}
use lib.ListN.{length, get_or, set, take, drop}
use lib.Seq.{take-suc-set}
use borrow.Author.Tests.{ltb-true, lt-ltb, le-ltb}
use Rattle.net_model.specs.Network.{Net}
use Rattle.net_model.specs.Residual.{codes, src, dst}
use Rattle.net_theory.specs.Trace.{Falls, TracedAny}
use Rattle.net_theory.specs.FreeArcs.{goes, FreeWalk, Blocked}
use Rattle.net_theory.specs.Limits.{SmallEnds}
use Rattle.net_theory.proofs.Trace.{any_step, tree_falls}
use Rattle.net_theory.proofs.Codes.{src_in}
use Rattle.flow_path.specs.Reaching.{Reach}

-- tracing back has come to node v: the first len codes lead from it to t
pub record TraceTurn (N : Net) (rank via : List ℕ) (t : ℕ) (codes₀ codes₁ : List ℕ) (v len : ℕ) : Type 0 where
  pub node : v < 64
  pub reached : 0 < get_or rank v 0
  pub same_len : length codes₁ ≡ length codes₀
  pub far : len + get_or rank v 0 ≤ get_or rank t 0
  pub traced : TracedAny 64 (codes N) (src N) (dst N) rank via t (λ _. v) (take len codes₁)
  pub rest : drop len codes₁ ≡ drop len codes₀

pub trace_more : (n hi : ℕ) (sr ds : ℕ → ℕ) (rank via codes : List ℕ) (t v len w : ℕ) → len < length codes → v < n → 1 < get_or rank v 0 → w ≡ sr (get_or via v 0)
    → TracedAny n hi sr ds rank via t (λ _. v) (take len codes)
    → TracedAny n hi sr ds rank via t (λ _. w) (take (len + 1) (set codes len (get_or via v 0)))
trace_more n hi sr ds rank via codes t v len w l k h e tr =
    rw (e, add-one len, take-suc-set codes len (get_or via v 0) l) (any_step n hi sr ds rank via t v (take len codes) k h tr)

module _ (N : Net) (f : List ℕ) (free : List Bool) (s t from : ℕ) (rank via : List ℕ) (count : ℕ) (r : Reach N f free s t from rank via count) where
  pub reach_blocked : get_or rank t 0 ≡ 0 → Blocked N f free s t from
  reach_blocked e = record {
    inside = λ v. ltb 0 (get_or rank v 0);
    has = lt-ltb 0 (get_or rank s 0) (omega (arith, r.tree.root));
    lacks = le-ltb 0 (get_or rank t 0) (omega arith);
    shut = λ c l h g i. lt-ltb 0 (get_or rank (dst N c) 0) (r.shut e c l h g (ltb-true 0 (get_or rank (src N c) 0) i));
  }

  pub reach_falls : SmallEnds N → Falls 64 (codes N) (src N) rank via
  reach_falls ok = tree_falls 64 (from + from) (codes N) (src N) (dst N) (goes N f free) s rank via count r.tree (λ c h. src_in N ok c h)

  pub reach_walk : (cs : List ℕ) → TracedAny 64 (codes N) (src N) (dst N) rank via t (λ s. s) cs → FreeWalk N f free s t from cs
  reach_walk cs tr =
      let d = tr (from + from) (goes N f free) s count r.tree in
      record { walk = d.walk; distinct = d.distinct; low = d.low }
