-- Document 01: "A flow is least-cost exactly when no residual cycle has negative cost."
use mathlib.Core.Path.{refl, sym, subst}
use mathlib.Core.Logic.{◌⊎◌, inl, inr, ◌↔◌}
use mathlib.Core.List.{List}
use Prim.Native.Nat.{ℕ}
use native.Mathlib.Omega.{arith}
use lib.ListN.{get_or, take, replicate}
use lib.IntN.{ℤ, pos}
use lib.Signed.{◌≤ℤ◌, ◌<ℤ◌}
use Rattle.laws.specs.Linear.{lin, given2, given3}
use Rattle.laws.specs.Integers.{le_z_or_lt}
use Rattle.net_model.specs.Network.{Net, IsFlow, LeastCost}
use Rattle.net_model.specs.Residual.{src, walk_cost, Cycle, codes, dst}
use Rattle.net_model.specs.Accepted.{AcceptedNet}
use Rattle.net_model.proofs.Walks.{walk_holds}
use Rattle.net_theory.specs.Push.{push_all}
use Rattle.net_theory.specs.Graph.{costed}
use Rattle.net_theory.specs.ResidualCapacity.{has_capacity}
use Rattle.net_theory.proofs.Bounds.{flow_bounds}
use Rattle.net_theory.proofs.Optimality.{feasible_least}
use Rattle.net_theory.proofs.ResidualCapacity.{walk_has_capacity}
use Rattle.flow_push.specs.Pushing.{bottleneck}
use Rattle.flow_relax.specs.Labels.{Relaxable}
use Rattle.flow_relax.specs.Potentials.{HasPotential}
use Rattle.flow_relax.proofs.Accepted.{accepted_relaxable}
use Rattle.flow_relax.proofs.Balances.{cost_whole}
use Rattle.std.proofs.Common.{Option, Some, None}
use Rattle.flow_negative_cycle.specs.Search.{NegativeCycle, FindsCycle}
use Rattle.flow_negative_cycle.proofs.Ending.{search_ends}
use Rattle.flow_cancel.proofs.Cancelling.{labels_of, cycle_of, cancelled}
use Rattle.flow_cancel.proofs.Cheapest.{rerouted_flow}

module _ (N : Net) (f : List ℕ) where
  -- what goes round a negative cycle leaves a flow that costs less
  pub no_cycle : Relaxable (costed N) f → IsFlow N f → (cs : List ℕ) → NegativeCycle (costed N) f 1 cs → ¬ LeastCost N f
  no_cycle rel F cs C L =
      let d = bottleneck (costed N) f 1000000 cs in
      let (R, less) = cancelled (costed N) f rel 1 cs C d refl (push_all d cs f) refl in
      given2 less (L.least (push_all d cs f) (rerouted_flow N f (push_all d cs f) F R)) (simp lin (omega arith))

  cycle_whole : (cs : List ℕ) → Cycle (costed N) f cs → Cycle N f cs
  cycle_whole cs C = record { node = C.node; closed = C.closed; some = C.some; simple = C.simple }

  cycle_bare : (cs : List ℕ) → Cycle N f cs → Cycle (costed N) f cs
  cycle_bare cs C = record { node = C.node; closed = C.closed; some = C.some; simple = C.simple }

  -- the search from zeros ends with a potential or with a cycle
  searched : AcceptedNet N → IsFlow N f → HasPotential (costed N) f 1 ⊎ ((cs : List ℕ) × NegativeCycle (costed N) f 1 cs)
  searched ok F =
      let (d, out, r, S) = search_ends (costed N) f (accepted_relaxable N ok f (flow_bounds N f F)) 1 (omega arith) in
      ended d out r S
    where
      ended : (d : List ℤ) (out : List ℕ) (r : Option ℕ) → FindsCycle (costed N) f 1 d (replicate 64 0) out r → HasPotential (costed N) f 1 ⊎ ((cs : List ℕ) × NegativeCycle (costed N) f 1 cs)
      ended d out None S = inl (record { potential = λ v. get_or d v (pos 0); feasible = (labels_of (costed N) f 1 d (replicate 64 0) out S).feasible })
      ended d out (Some r) S = inr (take r out, (cycle_of (costed N) f 1 d (replicate 64 0) out r S).1)

module _ (N : Net) (f : List ℕ) (ok : AcceptedNet N) where
  pub least_iff : IsFlow N f → LeastCost N f ↔ ((cs : List ℕ) → Cycle N f cs → pos 0 ≤ℤ walk_cost N cs)
  least_iff F = (λ L cs C. cheap L cs C (le_z_or_lt (pos 0) (walk_cost N cs)), λ free. least free (searched N f ok F))
    where
      rel : Relaxable (costed N) f
      rel = accepted_relaxable N ok f (flow_bounds N f F)

      cheap : LeastCost N f → (cs : List ℕ) → Cycle N f cs → (pos 0 ≤ℤ walk_cost N cs) ⊎ (walk_cost N cs <ℤ pos 0) → pos 0 ≤ℤ walk_cost N cs
      cheap L cs C (inl k) = k
      cheap L cs C (inr k) = absurd (no_cycle N f rel F cs (record {
        cycle = cycle_bare N f cs C;
        capacity = walk_holds (codes (costed N)) (src (costed N)) (dst (costed N)) (has_capacity (costed N) f 1) C.node C.node cs (walk_has_capacity (costed N) f C.node C.node cs C.closed);
        negative = subst (λ z. z <ℤ pos 0) (sym (cost_whole N cs)) k;
      }) L)

      least : ((cs : List ℕ) → Cycle N f cs → pos 0 ≤ℤ walk_cost N cs) → HasPotential (costed N) f 1 ⊎ ((cs : List ℕ) × NegativeCycle (costed N) f 1 cs) → LeastCost N f
      least free (inl p) = feasible_least N ok.well_formed f p.potential F p.feasible
      least free (inr (cs, C)) = absurd (given3 (free cs (cycle_whole N f cs C.cycle)) C.negative (cost_whole N cs) (simp lin (omega arith)))

  -- so a least-cost flow has a potential
  pub least_potential : LeastCost N f → HasPotential (costed N) f 1
  least_potential L = no_cycle_left (searched N f ok L.flow)
    where
      no_cycle_left : HasPotential (costed N) f 1 ⊎ ((cs : List ℕ) × NegativeCycle (costed N) f 1 cs) → HasPotential (costed N) f 1
      no_cycle_left (inl p) = p
      no_cycle_left (inr (cs, C)) = absurd (no_cycle N f (accepted_relaxable N ok f (flow_bounds N f L.flow)) L.flow cs C L)
