-- Potentials bound the cost of residual walks from below; with walks that reach the bound they are the prices.
use mathlib.Core.Path.{◌≡◌, refl}
use mathlib.Core.Bool.{Bool, true, false, not, ◌&&◌, ◌||◌}
use mathlib.Core.List.{List, [], ◌∷◌}
use Prim.Native.Nat.{ℕ, ◌<◌}
use native.Mathlib.Omega.{arith}
use lib.Dec.{eqb, ltb}
use lib.ListN.{get_or}
use lib.IntN.{ℤ, pos, ◌+ℤ◌}
use lib.Signed.{le_z, ◌≤ℤ◌}
use borrow.Author.Tests.{ltb-true, eqb-true}
use Rattle.laws.specs.Linear.{lin, given2}
use Rattle.laws.specs.Integers.{le_z_true, eq_z, eq_z_true}
use Rattle.laws.specs.Tests.{and_true, all_below, all_below_lem}
use Rattle.net_model.specs.Network.{Net, nodes}
use Rattle.net_model.specs.Potential.{FeasiblePotential}
use Rattle.net_model.specs.Residual.{codes, usable, src, dst, step_cost, Walk, walk_cost, Price}
use Rattle.net_model.proofs.Rises.{rise}

-- as tests that compute: potentials ps, and for each node a walk that costs as much as its potential
abbrev pub is_walk : Net → List ℕ → ℕ → List ℕ → Bool
is_walk N f v [] = true
is_walk N f v (c ∷ cs) = ltb c (codes N) && (usable N f c && (eqb (dst N c) v && is_walk N f (src N c) cs))

abbrev pub start_of : Net → ℕ → List ℕ → ℕ
start_of N v [] = v
start_of N v (c ∷ cs) = start_of N (src N c) cs

walk_is : (N : Net) (f : List ℕ) (v : ℕ) (cs : List ℕ) → is_walk N f v cs ≡ true → Walk N f (start_of N v cs) v cs
walk_is N f v [] e = refl
walk_is N f v (c ∷ cs) e =
    let (a, e1) = and_true (ltb c (codes N)) _ e in
    let (b, e2) = and_true (usable N f c) _ e1 in
    let (d, e3) = and_true (eqb (dst N c) v) _ e2 in
    (ltb-true c (codes N) a, b, eqb-true (dst N c) v d, walk_is N f (src N c) cs e3)

module _ (N : Net) (f : List ℕ) (ps : List ℤ) (walks : List (List ℕ)) where
  abbrev pub reaches : ℕ → Bool
  reaches v =
      is_walk N f v (get_or walks v []) && (ltb (start_of N v (get_or walks v [])) (nodes N)
      && (eq_z (walk_cost N (get_or walks v [])) (get_or ps v (pos 0)) && le_z (get_or ps v (pos 0)) (pos 0)))

  abbrev pub reduces : ℕ → Bool
  reduces c = not (usable N f c) || le_z (get_or ps (dst N c) (pos 0)) (get_or ps (src N c) (pos 0) +ℤ step_cost N c)

  abbrev pub certifies : Bool
  certifies = all_below (nodes N) reaches && all_below (codes N) reduces

  or_true : (p q : Bool) → p ≡ true → not p || q ≡ true → q ≡ true
  or_true true q e h = h
  or_true false q e h = absurd (let z : ◌≡◌ {A = ℕ} 0 1 = cc in omega arith)

  record Reached (v : ℕ) : Type 0 where
    leads : Walk N f (start_of N v (get_or walks v [])) v (get_or walks v [])
    starts : start_of N v (get_or walks v []) < nodes N
    costs : walk_cost N (get_or walks v []) ≡ get_or ps v (pos 0)
    low : get_or ps v (pos 0) ≤ℤ pos 0

  reached : (v : ℕ) → reaches v ≡ true → Reached v
  reached v e =
      let w = get_or walks v [] in
      let (a, e1) = and_true (is_walk N f v w) _ e in
      let (b, e2) = and_true (ltb (start_of N v w) (nodes N)) _ e1 in
      let (d, g) = and_true (eq_z (walk_cost N w) (get_or ps v (pos 0))) _ e2 in
      record { leads = walk_is N f v w a; starts = ltb-true _ _ b; costs = eq_z_true _ _ d; low = le_z_true _ _ g }

  pub prices : certifies ≡ true → (v : ℕ) → v < nodes N → Price N f v (get_or ps v (pos 0))
  prices e v h = record {
    from = start_of N v (get_or walks v []);
    walk = get_or walks v [];
    starts = (at v h).starts;
    leads = (at v h).leads;
    costs = (at v h).costs;
    least = λ u cs k w. given2 (rise N (usable N f) (λ u. get_or ps u (pos 0)) feasible u v cs w) (at u k).low (simp lin (omega arith));
  }
    where
      at : (u : ℕ) → u < nodes N → Reached u
      at u k = reached u (all_below_lem (nodes N) reaches (and_true (all_below (nodes N) reaches) (all_below (codes N) reduces) e).0 u k)

      feasible : FeasiblePotential N (usable N f) (λ u. get_or ps u (pos 0))
      feasible c k t = le_z_true _ _ (or_true (usable N f c) _ t (all_below_lem (codes N) reduces (and_true (all_below (nodes N) reaches) (all_below (codes N) reduces) e).1 c k))
