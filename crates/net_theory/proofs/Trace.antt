-- Tracing back step by step.
use mathlib.Core.Path.{refl, sym, ap, subst}
use mathlib.Core.Logic.{◌≢◌}
use mathlib.Core.List.{List, [], ◌∷◌, ◌++◌}
use mathlib.Core.Bool.{Bool}
use Prim.Native.Nat.{ℕ, ◌≤◌, ◌<◌}
use native.Mathlib.Omega.{arith}
use lib.ListN.{get_or}
use Rattle.laws.specs.Ascending.{Distinct}
use Rattle.laws.specs.Members.{Every, every_map, every_append}
use Rattle.net_model.proofs.Walks.{walk_append}
use Rattle.net_theory.specs.Reach.{Led, Tree}
use Rattle.net_theory.specs.Trace.{Traced, Falls, TracedAny}
use Rattle.net_theory.proofs.Reach.{count_le}

distinct_snoc : (cs : List ℕ) (c : ℕ) → Distinct cs → Every (λ d. d ≢ c) cs → Distinct (cs ++ (c ∷ []))
distinct_snoc [] c d e = (tt, tt)
distinct_snoc (b ∷ cs) c d e = (every_append (λ x. x ≢ b) cs (c ∷ []) d.0 ((λ q. e.0 (sym q)), tt), distinct_snoc cs c d.1 e.1)

module _ (lo hi : ℕ) (sr ds : ℕ → ℕ) (go : ℕ → Bool) where
  trace_step : (rank : List ℕ) (t v : ℕ) (cs : List ℕ) (c : ℕ) → Traced lo hi sr ds go rank t v cs → Led lo hi sr ds go rank c v → Traced lo hi sr ds go rank t (sr c) (cs ++ (c ∷ []))
  trace_step rank t v cs c w l = record {
    walk = walk_append hi sr ds go (sr c) v t cs (c ∷ []) w.walk (l.high, l.goes, l.ends, refl);
    distinct = distinct_snoc cs c w.distinct (every_map (λ d. get_or rank v 0 < get_or rank (ds d) 0) (λ d. d ≢ c) cs (λ d h q. omega (arith, ap (λ i. get_or rank (ds i) 0) q, ap (λ i. get_or rank i 0) l.ends)) w.later);
    low = every_append (λ c. lo ≤ c) cs (c ∷ []) w.low (l.low, tt);
    later = every_append (λ d. get_or rank (sr c) 0 < get_or rank (ds d) 0) cs (c ∷ [])
        (every_map (λ d. get_or rank v 0 < get_or rank (ds d) 0) (λ d. get_or rank (sr c) 0 < get_or rank (ds d) 0) cs (λ d h. omega (arith, l.earlier)) w.later)
        (omega (arith, l.earlier, ap (λ i. get_or rank i 0) l.ends), tt);
  }

module _ (n lo hi : ℕ) (sr ds : ℕ → ℕ) (go : ℕ → Bool) (s : ℕ) (rank via : List ℕ) (count : ℕ) where
  pub tree_falls : Tree n lo hi sr ds go s rank via count → ((c : ℕ) → c < hi → sr c < n) → Falls n hi sr rank via
  tree_falls t inside = record {
    rank_len = t.rank_len;
    via_len = t.via_len;
    small = λ v l. omega (arith, t.small v l, count_le n lo hi sr ds go s rank via count t);
    code_in = λ v l h. (t.led v l h).high;
    next_in = λ v l h. inside (get_or via v 0) (t.led v l h).high;
    next_reached = λ v l h. (t.led v l h).reached;
    next_less = λ v l h. (t.led v l h).earlier;
  }

module _ (n hi : ℕ) (sr ds : ℕ → ℕ) (rank via : List ℕ) (t : ℕ) where
  pub any_step : (v : ℕ) (cs : List ℕ) → v < n → 1 < get_or rank v 0 → TracedAny n hi sr ds rank via t (λ _. v) cs
      → TracedAny n hi sr ds rank via t (λ _. sr (get_or via v 0)) (cs ++ (get_or via v 0 ∷ []))
  any_step v cs l h w lo go s count tr = trace_step lo hi sr ds go rank t v cs (get_or via v 0) (w lo go s count tr) (tr.led v l h)

  pub any_done : (v : ℕ) (cs : List ℕ) → v < n → 0 < get_or rank v 0 → get_or rank v 0 ≤ 1 → TracedAny n hi sr ds rank via t (λ _. v) cs
      → TracedAny n hi sr ds rank via t (λ s. s) cs
  any_done v cs l p q w lo go s count tr = subst (λ (x : ℕ). Traced lo hi sr ds go rank t x cs) (tr.only_root v l (omega arith)) (w lo go s count tr)
