-- What reaches what over free arcs: by one code, by two walks one after the other, and over arcs from an earlier one on.
use mathlib.Core.Path.{◌≡◌, refl}
use mathlib.Core.List.{List, [], ◌∷◌, ◌++◌}
use mathlib.Core.Bool.{Bool, true}
use Prim.Native.Nat.{ℕ, suc, ◌+◌, ◌≤◌, ◌<◌}
use native.Mathlib.Omega.{arith}
use Rattle.laws.specs.Members.{every_map, every_append}
use Rattle.net_model.specs.Network.{Net}
use Rattle.net_model.specs.Residual.{codes, src, dst}
use Rattle.net_model.proofs.Walks.{walk_append}
use Rattle.net_theory.specs.FreeArcs.{goes, Reaches}

module _ (N : Net) (f : List ℕ) (free : List Bool) where
  pub reaches_by : (from c : ℕ) → from + from ≤ c → c < codes N → goes N f free c ≡ true → Reaches N f free (src N c) (dst N c) from
  reaches_by from c h l g = record { codes = c ∷ []; walk = (l, g, refl, refl); low = (h, tt) }

  pub reaches_over : (from u v w : ℕ) → Reaches N f free u v from → Reaches N f free v w from → Reaches N f free u w from
  reaches_over from u v w p q = record {
    codes = q.codes ++ p.codes;
    walk = walk_append (codes N) (src N) (dst N) (goes N f free) u v w q.codes p.codes q.walk p.walk;
    low = every_append (λ c. from + from ≤ c) q.codes p.codes q.low p.low;
  }

  pub reaches_earlier : (from u v : ℕ) → Reaches N f free u v (suc from) → Reaches N f free u v from
  reaches_earlier from u v r = record {
    codes = r.codes;
    walk = r.walk;
    low = every_map (λ c. suc from + suc from ≤ c) (λ c. from + from ≤ c) r.codes (λ c h. omega arith) r.low;
  }
