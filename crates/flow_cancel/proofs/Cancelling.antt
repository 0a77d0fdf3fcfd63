-- Cancelling a negative cycle: how much can go along it, that the flow costs less after, and why this ends.
use mathlib.Core.Path.{◌≡◌, refl, sym, subst, ◌∙◌}
use mathlib.Core.Bool.{Bool, true, false}
use mathlib.Core.List.{List, [], ◌∷◌}
use Prim.Native.Nat.{ℕ, ◌≤◌, ◌<◌}
use native.Mathlib.Omega.{arith}
use lib.ListN.{take}
use lib.IntN.{ℤ, pos, neg_ℤ, ◌+ℤ◌, ◌-ℤ◌, ◌*ℤ◌}
use lib.Signed.{◌<ℤ◌}
use Rattle.std.proofs.Common.{Some, None}
use Rattle.laws.specs.Ascending.{Distinct, distinct_of}
use Rattle.laws.specs.Divergence.{at}
use Rattle.laws.specs.Integers.{*_nonneg, plus_lt}
use Rattle.laws.specs.Linear.{lin, ring, given, given3}
use Rattle.laws.specs.Members.{Every}
use Rattle.laws.specs.Parts.{plus}
use Rattle.laws.specs.Range.{Bounded, bounded_mul, bounded_more, fits}
use Rattle.laws.specs.Sum.{sum_within}
use Rattle.net_model.specs.Network.{Net, arcs, cost, on, net_out, cost_of}
use Rattle.net_model.specs.Residual.{codes, src, dst, Walk, walk_cost, CodeWalk, usable}
use Rattle.net_model.proofs.Walks.{walk_below, walk_with}
use Rattle.net_theory.specs.ResidualCapacity.{has_capacity, residual_capacity}
use Rattle.net_theory.specs.Push.{push_all}
use Rattle.net_theory.specs.Bounds.{InBounds}
use Rattle.net_theory.proofs.ResidualCapacity.{all_has_capacity}
use Rattle.net_theory.proofs.PushAll.{all_bounds, all_net_out, all_cost}
use Rattle.flow_push.specs.Pushing.{bottleneck, Pushable}
use Rattle.flow_push.proofs.LeastCapacity.{capacity_each, capacity_pos, usable_capacity}
use Rattle.flow_relax.specs.Labels.{Relaxable}
use Rattle.flow_negative_cycle.specs.Search.{PotentialLabels, NegativeCycle, FindsCycle, found, none}
use Rattle.flow_cancel.specs.Cancelling.{Rerouted, Cancels}

-- ---- what can go along a residual walk
walk_capacity : (N : Net) (f : List ℕ) (u v : ℕ) (cs : List ℕ) → Walk N f u v cs → Every (λ c. 0 < residual_capacity N f c) cs
walk_capacity N f u v [] w = tt
walk_capacity N f u v (c ∷ cs) w = (usable_capacity N f c w.1, walk_capacity N f u (src N c) cs w.3)

pub cycle_codes : (N : Net) (f : List ℕ) (δ : ℕ) (cs : List ℕ) → NegativeCycle N f δ cs → Every (λ c. c < codes N) cs
cycle_codes N f δ cs C = walk_below (codes N) (src N) (dst N) (usable N f) C.cycle.node C.cycle.node cs C.cycle.closed

-- ---- d more along a negative cycle
less : (x y t d : ℤ) → x ≡ y +ℤ t *ℤ d → t <ℤ pos 0 → pos 0 <ℤ d → x <ℤ y
less x y t d e n p =
    given3 e p (*_nonneg {x = neg_ℤ t -ℤ pos 1} {y = d} (given n (simp lin (omega arith))) (given p (simp lin (omega arith)))) (simp ring (omega arith))

module _ (N : Net) (f : List ℕ) (b : InBounds N f) (δ : ℕ) (cs : List ℕ) (C : NegativeCycle N f δ cs) (d : ℕ) (capacity : Every (λ c. d ≤ residual_capacity N f c) cs) where
  differ : Distinct cs
  differ = distinct_of (dst N) cs C.cycle.simple

  all_capacity : Every (λ c. has_capacity N f d c ≡ true) cs
  all_capacity = all_has_capacity N f d cs b (cycle_codes N f δ cs C) capacity

  walk : CodeWalk N (has_capacity N f d) C.cycle.node C.cycle.node cs
  walk = walk_with (codes N) (src N) (dst N) (usable N f) (has_capacity N f d) C.cycle.node C.cycle.node cs all_capacity C.cycle.closed

  pushed : Rerouted N f (push_all d cs f)
  pushed = record {
    within = all_bounds N d cs f C.cycle.node C.cycle.node b walk differ;
    same = λ v. still (net_out N (push_all d cs f) v) (net_out N f v) (at C.cycle.node v (pos d)) (all_net_out N d cs f C.cycle.node C.cycle.node v b walk differ);
  }
    where
      still : (x y z : ℤ) → x ≡ y +ℤ (z -ℤ z) → x ≡ y
      still x y z e = given e (simp lin (omega arith))

  cheaper : 0 < d → cost_of N (push_all d cs f) <ℤ cost_of N f
  cheaper p =
      less (cost_of N (push_all d cs f)) (cost_of N f) (walk_cost N cs) (pos d) (all_cost N d cs f C.cycle.node C.cycle.node b walk differ) C.negative (simp lin (omega arith))

-- ---- what the search found
pub labels_of : (N : Net) (f : List ℕ) (δ : ℕ) (d : List ℤ) (out out' : List ℕ) → FindsCycle N f δ d out out' None → PotentialLabels N f δ d
labels_of N f δ d out out' (none _ _ q _) = q
labels_of N f δ d out out' (found n e _ _ _) = absurd (cc)

pub cycle_of : (N : Net) (f : List ℕ) (δ : ℕ) (d : List ℤ) (out out' : List ℕ) (r : ℕ) → FindsCycle N f δ d out out' (Some r) → (r ≤ 64) × NegativeCycle N f δ (take r out')
cycle_of N f δ d out out' r (none e _ _ _) = absurd (cc)
cycle_of N f δ d out out' r (found n e h C _) = let q : n ≡ r = cc in (rw q at h, subst (λ (k : ℕ). NegativeCycle N f δ (take k out')) q C)

-- ---- as much as the capacity allows along a negative cycle
module _ (N : Net) (f : List ℕ) (ok : Relaxable N f) (δ : ℕ) (cs : List ℕ) (C : NegativeCycle N f δ cs) (d : ℕ) (e : d ≡ bottleneck N f 1000000 cs) where
  pub able : Pushable N d f cs
  able = record {
    within = ok.within;
    codes_in = cycle_codes N f δ cs C;
    distinct = distinct_of (dst N) cs C.cycle.simple;
    capacity = all_has_capacity N f d cs ok.within (cycle_codes N f δ cs C) (rw e (capacity_each N f 1000000 cs));
  }

  pub cancelled : (g : List ℕ) → g ≡ push_all d cs f → Rerouted N f g × (cost_of N g <ℤ cost_of N f)
  cancelled g q =
      let r : Every (λ c. d ≤ residual_capacity N f c) cs = rw e (capacity_each N f 1000000 cs) in
      let p : 0 < d = rw e (capacity_pos N f 1000000 cs (omega arith) (walk_capacity N f C.cycle.node C.cycle.node cs C.cycle.closed)) in
      rw q (pushed N f ok.within δ cs C d r, cheaper N f ok.within δ cs C d r p)

-- ---- one after another
pub same_flow : (N : Net) (f : List ℕ) → Relaxable N f → Rerouted N f f
same_flow N f ok = record { within = ok.within; same = λ v. refl }

pub further : (N : Net) (f g h : List ℕ) → Rerouted N f g → Rerouted N g h → Rerouted N f h
further N f g h a b = record { within = b.within; same = λ v. b.same v ∙ a.same v }

pub relaxable_again : (N : Net) (f g : List ℕ) → Relaxable N f → InBounds N g → Relaxable N g
relaxable_again N f g ok b = record { ends = ok.ends; bounds = ok.bounds; costs = ok.costs; within = b }

-- ---- the cost is at most 512 · 10¹² either way, so it cannot fall for ever
cost_small : (N : Net) (f : List ℕ) → Relaxable N f → Bounded 512000000000000 (cost_of N f)
cost_small N f ok =
    bounded_more (omega (arith, ok.ends.few))
    (sum_within (arcs N) 1000000000000 (λ a. cost N a *ℤ on f a)
    (λ a k. bounded_more (omega arith) (bounded_mul {B = 1000000} (ok.costs.cost_small a k) (record { up = omega (arith, ok.within.below a k, ok.bounds.ups_small a k); down = omega arith }))))

abbrev pub left : Net → List ℕ → ℕ
left N f = plus (cost_of N f +ℤ pos 512000000000000)

pub falls : (N : Net) (f g : List ℕ) → Relaxable N g → cost_of N g <ℤ cost_of N f → left N g < left N f
falls N f g ok h = go (cost_of N g) (cost_of N f) (cost_small N g ok) h
  where
    go : (x y : ℤ) → Bounded 512000000000000 x → x <ℤ y → plus (x +ℤ pos 512000000000000) < plus (y +ℤ pos 512000000000000)
    go x y b h = plus_lt {x = x +ℤ pos 512000000000000} {y = y +ℤ pos 512000000000000} (given b (simp fits (omega arith))) (given h (simp lin (omega arith)))

-- ---- what `cancel` answers
pub one_less : (N : Net) (f g : List ℕ) (δ : ℕ) (d : List ℤ) (r : Bool) → Cancels N f g δ d r → r ≡ true → Rerouted N f g × (cost_of N g <ℤ cost_of N f)
one_less N f g δ d r h e = subst (λ (b : Bool). Cancels N f g δ d b) e h

pub none_left : (N : Net) (f₀ f g : List ℕ) (δ : ℕ) (d : List ℤ) (r : Bool) → Rerouted N f₀ f → Cancels N f g δ d r → r ≡ false → Rerouted N f₀ g × PotentialLabels N g δ d
none_left N f₀ f g δ d r a h e =
    let k : Cancels N f g δ d false = subst (λ (b : Bool). Cancels N f g δ d b) e h in
    subst (λ (x : List ℕ). Rerouted N f₀ x × PotentialLabels N x δ d) (sym k.0) (a, k.1)
