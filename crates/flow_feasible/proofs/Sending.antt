-- Sending to one node, and to the first that can take some.
use mathlib.Core.Path.{◌≡◌, refl, ap, subst, ◌∙◌}
use mathlib.Core.Logic.{◌⊎◌, inl, inr}
use mathlib.Core.List.{List}
use mathlib.Core.Bool.{Bool, true, false, ◌&&◌}
use Prim.Native.Nat.{ℕ, ◌+◌, ◌≤◌, ◌<◌, min}
use native.Mathlib.Omega.{arith}
use native.Mathlib.Decide.{ℕ_discrete}
use lib.ListN.{length, get_or}
use lib.IntN.{ℤ, pos, neg_ℤ}
use lib.Signed.{◌≤ℤ◌, ◌<ℤ◌}
use Rattle.laws.specs.Integers.{le_z_or_lt}
use Rattle.laws.specs.Linear.{lin, given3}
use Rattle.laws.specs.Members.{Every, every_map}
use Rattle.laws.specs.Tests.{and_true, and_stops_second}
use Rattle.net_model.specs.Network.{Net}
use Rattle.net_model.specs.Residual.{codes, src, dst}
use Rattle.net_model.proofs.Walks.{walk_below, walk_holds, walk_with}
use Rattle.net_theory.specs.ResidualCapacity.{residual_capacity, has_capacity}
use Rattle.net_theory.specs.Bounds.{InBounds}
use Rattle.net_theory.specs.Push.{push_all}
use Rattle.net_theory.specs.FreeArcs.{goes, FreeWalk, Blocked}
use Rattle.net_theory.proofs.ResidualCapacity.{all_has_capacity}
use Rattle.flow_push.specs.Pushing.{bottleneck, Pushable}
use Rattle.flow_push.proofs.LeastCapacity.{capacity_cap, capacity_each, capacity_pos, goes_capacity}
use Rattle.flow_push.proofs.Pushing.{pushable_bounds}
use Rattle.flow_feasible.specs.Sending.{Capped, SentTo, SendsTo, CutOff, Sends}

-- ---- to one node
walk_able : (N : Net) (f : List ℕ) (free : List Bool) (s t from δ : ℕ) (cs : List ℕ) → InBounds N f → FreeWalk N f free s t from cs → Every (λ c. δ ≤ residual_capacity N f c) cs → Pushable N δ f cs
walk_able N f free s t from δ cs b p h = record {
  within = b;
  codes_in = walk_below (codes N) (src N) (dst N) (goes N f free) s t cs p.walk;
  distinct = p.distinct;
  capacity = all_has_capacity N f δ cs b (walk_below (codes N) (src N) (dst N) (goes N f free) s t cs p.walk) h;
}

module _ (N : Net) (f : List ℕ) (free : List Bool) (x y most : ℕ) (b : InBounds N f) (cs : List ℕ) (p : FreeWalk N f free x y 0 cs)
    (cap d : ℕ) (d-is : d ≡ bottleneck N f cap cs) where
  pub able : Pushable N d f cs
  able = walk_able N f free x y 0 d cs b p (rw d-is (capacity_each N f cap cs))

  pub sends_to_yes : (f' : List ℕ) (k : ℕ) (z : ℤ) (v : ℤ) → f' ≡ push_all d cs f → cap ≡ min most k → Capped z k → z ≡ neg_ℤ v → 0 < most → SendsTo N f f' free x y most v true
  sends_to_yes f' k z v e c q r m = record {
    within = rw e (pushable_bounds N d cs f able);
    done = λ _. record {
      amount = d;
      codes = cs;
      walk = walk_with (codes N) (src N) (dst N) (goes N f free) (has_capacity N f d) x y cs able.capacity p.walk;
      able = able;
      exact = e;
      some = rw d-is (capacity_pos N f cap cs (rw c (omega (arith, q.some))) (every_map (λ c. goes N f free c ≡ true) (λ c. 0 < residual_capacity N f c) cs (goes_capacity N f free) (walk_holds (codes N) (src N) (dst N) (goes N f free) x y cs p.walk)));
      at_most = omega (arith, d-is, capacity_cap N f cap cs, c);
      at_t = last d k z v (omega (arith, d-is, capacity_cap N f cap cs, c)) q.at_most r;
    };
    same = λ q. absurd (let w : ◌≡◌ {A = ℕ} 0 1 = cc in omega arith);
    stuck = λ q _. absurd (let w : ◌≡◌ {A = ℕ} 0 1 = cc in omega arith);
  }
    where
      last : (d k : ℕ) (z v : ℤ) → d ≤ k → pos k ≤ℤ z → z ≡ neg_ℤ v → v ≤ℤ neg_ℤ (pos d)
      last d k z v h g r = turn (pos d) (pos k) z v (simp lin (omega arith)) g r
        where
          turn : (a b z v : ℤ) → a ≤ℤ b → b ≤ℤ z → z ≡ neg_ℤ v → v ≤ℤ neg_ℤ a
          turn a b z v h g r = given3 h g r (simp lin (omega arith))

-- ---- to any node
pub cut_start : (N : Net) (f : List ℕ) (free : List Bool) (excess : List ℤ) (s : ℕ) → CutOff N f free excess s 0
cut_start N f free excess s = record { inside = λ v. true; has = refl; none = λ v h k. absurd (omega arith); shut = λ c h g i. refl }

pub cut_step : (N : Net) (f f' : List ℕ) (free : List Bool) (excess : List ℤ) (s t most : ℕ) (x : ℤ) (r : Bool) → x ≡ get_or excess t (pos 0) → r ≡ false → SendsTo N f f' free s t most x r → CutOff N f free excess s t → CutOff N f free excess s (t + 1)
cut_step N f f' free excess s t most x r e q a k = go (le_z_or_lt (pos 0) x)
  where
    go : (pos 0 ≤ℤ x) ⊎ (x <ℤ pos 0) → CutOff N f free excess s (t + 1)
    go (inl h) = record { inside = k.inside; has = k.has; none = λ v l m. cases v l m (ℕ_discrete v t); shut = k.shut }
      where
        cases : (v : ℕ) → v < t + 1 → get_or excess v (pos 0) <ℤ pos 0 → Dec (v ≡ t) → k.inside v ≡ false
        cases v l m (yes p) = absurd (clash x (get_or excess t (pos 0)) e h (subst (λ (i : ℕ). get_or excess i (pos 0) <ℤ pos 0) p m))
          where
            clash : (x y : ℤ) → x ≡ y → pos 0 ≤ℤ x → y <ℤ pos 0 → ⊥
            clash x y e h k = given3 e h k (simp lin (omega arith))
        cases v l m (no p) = k.none v (omega arith) m
    go (inr h) = record {
      inside = λ v. k.inside v && b.inside v;
      has = rw (k.has, b.has);
      none = λ v l m. cases v l m (ℕ_discrete v t);
      shut = λ c l g i. (let p = and_true (k.inside (src N c)) (b.inside (src N c)) i in rw (k.shut c l g p.0, b.shut c (omega arith) l g p.1));
    }
      where
        b : Blocked N f free s t 0
        b = a.stuck q h

        cases : (v : ℕ) → v < t + 1 → get_or excess v (pos 0) <ℤ pos 0 → Dec (v ≡ t) → k.inside v && b.inside v ≡ false
        cases v l m (yes p) = and_stops_second (k.inside v) (b.inside v) (ap b.inside p ∙ b.lacks)
        cases v l m (no p) = ap (λ y. y && b.inside v) (k.none v (omega arith) m)

pub sends_yes : (N : Net) (f f' : List ℕ) (free : List Bool) (excess : List ℤ) (s t most : ℕ) (x y : ℤ) (r : Bool) → t < length excess → x ≡ get_or excess t (pos 0) → y ≡ get_or excess s (pos 0) → Capped y most → r ≡ true → SendsTo N f f' free s t most x r → Sends N f f' free excess s true
sends_yes N f f' free excess s t most x y r l e d c q a = record {
  within = a.within;
  done = λ _. record { to = t; to_in = l; most = most; most_ok = rw (← d) c.at_most; sent = subst (λ (z : ℤ). SentTo N f f' s t most z) e (a.done q) };
  stuck = λ z. absurd (let w : ◌≡◌ {A = ℕ} 0 1 = cc in omega arith);
}
