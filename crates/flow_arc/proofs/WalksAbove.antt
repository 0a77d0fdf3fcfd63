-- Arc k lowered or raised, with what it loses or gains sent along a walk over arcs above k: bounds.
use mathlib.Core.Path.{◌≡◌, ap, subst, ◌∙◌}
use mathlib.Core.Logic.{◌≢◌}
use mathlib.Core.List.{List}
use mathlib.Core.Bool.{Bool, true}
use Prim.Native.Nat.{ℕ, suc, ◌+◌, ◌-◌, ◌/◌, ◌≤◌, ◌<◌}
use native.Mathlib.Omega.{arith}
use lib.ListN.{get_or, set}
use lib.Seq.{get_or-set_same}
use borrow.Author.Tests.{le-leb}
use Rattle.laws.specs.Members.{Every, every_map, every_map2}
use Rattle.net_model.specs.Network.{Net, arcs, low, up}
use Rattle.net_model.specs.Residual.{codes, src, dst}
use Rattle.net_model.proofs.Walks.{walk_below, walk_holds}
use Rattle.net_theory.specs.ResidualCapacity.{has_capacity, residual_capacity}
use Rattle.net_theory.specs.Bounds.{InBounds}
use Rattle.net_theory.specs.Push.{push_one, push_all}
use Rattle.net_theory.specs.FreeArcs.{goes, FreeWalk}
use Rattle.net_theory.proofs.Codes.{even_code, odd_code, even_arc, odd_arc}
use Rattle.net_theory.proofs.ResidualCapacity.{all_has_capacity}
use Rattle.net_theory.proofs.PushOne.{one_bounds, one_capacity}
use Rattle.net_theory.proofs.PushAll.{all_other}
use Rattle.flow_push.specs.Pushing.{Pushable}
use Rattle.flow_push.proofs.LeastCapacity.{capacity_cap, capacity_each, capacity_pos, goes_capacity}
use Rattle.flow_push.proofs.Pushing.{pushable_bounds}
use Rattle.flow_arc.specs.WalksAbove.{CapacityAbove, takes, TakenOff}

pub walk_capacity_above : (N : Net) (f : List ℕ) (free : List Bool) (s t k : ℕ) (cs : List ℕ) → FreeWalk N f free s t (suc k) cs → CapacityAbove N f k cs
walk_capacity_above N f free s t k cs p = record {
  codes_in = walk_below (codes N) (src N) (dst N) (goes N f free) s t cs p.walk;
  distinct = p.distinct;
  above = every_map (λ c. suc k + suc k ≤ c) (λ c. k < c / 2) cs (λ c h. omega arith) p.low;
  capacity = every_map (λ c. goes N f free c ≡ true) (λ c. 0 < residual_capacity N f c) cs (goes_capacity N f free) (walk_holds (codes N) (src N) (dst N) (goes N f free) s t cs p.walk);
}

module _ (N : Net) (f : List ℕ) (k : ℕ) (cs : List ℕ) (p : CapacityAbove N f k cs) where
  -- after code c of arc k itself
  after_code : (δ c : ℕ) → InBounds N f → c < codes N → c / 2 ≡ k → has_capacity N f δ c ≡ true → Every (λ c. δ ≤ residual_capacity N f c) cs → Pushable N δ (push_one δ c f) cs
  after_code δ c b l e capacity h = record {
    within = one_bounds N δ f c b l capacity;
    codes_in = p.codes_in;
    distinct = p.distinct;
    capacity = every_map2 (λ d. k < d / 2) (λ d. has_capacity N f δ d ≡ true) (λ d. has_capacity N (push_one δ c f) δ d ≡ true) cs (λ d a r. one_capacity N δ f c b l capacity d (λ q. omega (arith, ap (λ i. i / 2) q)) r) p.above (all_has_capacity N f δ cs b p.codes_in h);
  }

  lower_able : (δ : ℕ) → InBounds N f → k < arcs N → low N k + δ ≤ get_or f k 0 → Every (λ c. δ ≤ residual_capacity N f c) cs → Pushable N δ (set f k (get_or f k 0 - δ)) cs
  lower_able δ b l capacity h =
      subst (λ (g : List ℕ). Pushable N δ g cs) (rw (odd_code k, odd_arc k))
      (after_code δ (suc (k + k)) b (omega arith) (odd_arc k) (rw (odd_code k, odd_arc k) (le-leb (low N k + δ) (get_or f k 0) capacity)) h)

  -- one more
  pub put_able : InBounds N f → k < arcs N → get_or f k 0 < up N k → Pushable N 1 (set f k (get_or f k 0 + 1)) cs
  put_able b l capacity =
      subst (λ (g : List ℕ). Pushable N 1 g cs) (rw (even_code k, even_arc k))
      (after_code 1 (k + k) b (omega arith) (even_arc k) (rw (even_code k, even_arc k) (le-leb (get_or f k 0 + 1) (up N k) (omega arith))) p.capacity)

  -- as much as can be taken off
  pub take_able : (d : ℕ) → d ≡ takes N f k cs → InBounds N f → k < arcs N → low N k < get_or f k 0 → Pushable N d (set f k (get_or f k 0 - d)) cs
  take_able d e b l h = rw e (lower_able (takes N f k cs) b l (omega (arith, capacity_cap N f (get_or f k 0 - low N k) cs)) (capacity_each N f (get_or f k 0 - low N k) cs))

  takes_pos : low N k < get_or f k 0 → 0 < takes N f k cs
  takes_pos h = capacity_pos N f (get_or f k 0 - low N k) cs (omega arith) p.capacity

  pub takes_le : takes N f k cs ≤ get_or f k 0
  takes_le = omega (arith, capacity_cap N f (get_or f k 0 - low N k) cs)

  -- the walk leaves arc k as it is
  pushed_k : (δ : ℕ) (g : List ℕ) → get_or (push_all δ cs g) k 0 ≡ get_or g k 0
  pushed_k δ g = all_other N δ cs g k (every_map (λ c. k < c / 2) (λ c. k ≢ c / 2) cs (λ c h q. omega arith) p.above)

  pub taken_off : (d : ℕ) → d ≡ takes N f k cs → (f' : List ℕ) → InBounds N f → k < arcs N → low N k < get_or f k 0 → f' ≡ push_all d cs (set f k (get_or f k 0 - d)) → TakenOff N f f' k cs
  taken_off d q f' b l h e = record {
    exact = e ∙ ap (λ x. push_all x cs (set f k (get_or f k 0 - x))) q;
    within = rw e (pushable_bounds N d cs (set f k (get_or f k 0 - d)) (take_able d q b l h));
    less = omega (arith, ap (λ g. get_or g k 0) e, pushed_k d (set f k (get_or f k 0 - d)), get_or-set_same f k (get_or f k 0 - d) 0 (omega (arith, b.all_arcs)), takes_pos h);
  }

  pub put_within : (f' : List ℕ) → InBounds N f → k < arcs N → get_or f k 0 < up N k → f' ≡ push_all 1 cs (set f k (get_or f k 0 + 1)) → InBounds N f'
  put_within f' b l h e = rw e (pushable_bounds N 1 cs (set f k (get_or f k 0 + 1)) (put_able b l h))
