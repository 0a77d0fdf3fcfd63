-- What a search over the arcs above arc a found, between the ends u and v of that arc.
use mathlib.Core.Path.{◌≡◌, subst}
use mathlib.Core.List.{List}
use mathlib.Core.Bool.{Bool}
use Prim.Native.Nat.{ℕ, suc, ◌+◌}
use native.Mathlib.Numerals.{add-one}
use lib.ListN.{take}
use Rattle.std.specs.Prelude.{Option, None, Some}
use Rattle.net_model.specs.Network.{Net}
use Rattle.net_theory.specs.FreeArcs.{FreeWalk, Blocked}
use Rattle.flow_path.specs.Reaching.{FindsWalk}

module _ (N : Net) (f : List ℕ) (free : List Bool) (s t u v a : ℕ) (p : s ≡ u) (q : t ≡ v) (codes codes' : List ℕ) where
  pub found : (r : Option ℕ) (len : ℕ) → r ≡ Some len → FindsWalk N f free s t (a + 1) codes codes' r → FreeWalk N f free u v (suc a) (take len codes')
  found r len e h = rw (p, q, add-one) at ((subst (FindsWalk N f free s t (a + 1) codes codes') e h).1)

  pub not_found : (r : Option ℕ) → r ≡ None → FindsWalk N f free s t (a + 1) codes codes' r → Blocked N f free u v (suc a)
  not_found r e h = rw (p, q, add-one) at ((subst (FindsWalk N f free s t (a + 1) codes codes') e h).0)
