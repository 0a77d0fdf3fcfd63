-- What a feasible potential adds: pushing round a free arc keeps the least cost, and a set of nodes that no free code leaves shows that no least-cost flow
-- with the same arcs before has less, or more, on the arc.
use mathlib.Core.Path.{◌≡◌, refl, sym, ◌∙◌}
use mathlib.Core.Logic.{◌⊎◌, inl, inr, ◌≢◌}
use mathlib.Core.List.{List}
use mathlib.Core.Bool.{Bool, true, false}
use Prim.Native.Nat.{ℕ, suc, ◌+◌, ◌-◌, ◌/◌, ◌≤◌, ◌<◌}
use native.Mathlib.Omega.{arith}
use native.Mathlib.Decide.{dec_lt}
use lib.ListN.{get_or, set}
use lib.IntN.{ℤ, pos}
use Rattle.laws.specs.Members.{Every, every_map2}
use Rattle.laws.specs.Tests.{and_true, true_and}
use Rattle.net_model.specs.Network.{Net, arcs, tail, head, low, up, LeastCost}
use Rattle.net_model.specs.Residual.{codes, usable, src, dst}
use Rattle.net_model.proofs.Walks.{walk_holds, walk_with}
use Rattle.net_theory.specs.ReducedCost.{reduced}
use Rattle.net_theory.specs.Cuts.{Closed}
use Rattle.net_theory.specs.ResidualCapacity.{residual_capacity, has_capacity}
use Rattle.net_theory.specs.ArcChange.{TightWalk, Moved}
use Rattle.net_theory.specs.Push.{push_all}
use Rattle.net_theory.specs.FreeArcs.{goes, FreeWalk, Blocked}
use Rattle.net_theory.proofs.Optimality.{feasible_any}
use Rattle.net_theory.proofs.Cuts.{closed_steps, no_more, no_less}
use Rattle.net_theory.proofs.Bounds.{flow_bounds}
use Rattle.net_theory.proofs.ArcChange.{raised, lowered}
use Rattle.net_theory.proofs.ResidualCapacity.{all_has_capacity}
use Rattle.flow_arc.specs.FreeMarks.{FreeMarks}
use Rattle.flow_arc.proofs.WalksAbove.{walk_capacity_above}

-- the marks of one least-cost flow are those of every other
pub free_any : (N : Net) (π : ℕ → ℤ) (free : List Bool) (f g : List ℕ) → FreeMarks N π free f → LeastCost N g → FreeMarks N π free g
free_any N π free f g ti lg = record {
  well_formed = ti.well_formed;
  marked = ti.marked;
  unmarked = λ a l e h lh. ti.unmarked a l e h lh ∙ sym (ti.unmarked a l e g lg);
  least = lg;
  feasible = feasible_any N ti.well_formed f g π ti.least.flow ti.feasible lg;
}

module _ (N : Net) (f : List ℕ) (free : List Bool) (k : ℕ) (π : ℕ → ℤ) (ti : FreeMarks N π free f) (l : k < arcs N) where
  free_walk : (s t : ℕ) (cs : List ℕ) → FreeWalk N f free s t (suc k) cs → (δ : ℕ) → Every (λ c. δ ≤ residual_capacity N f c) cs → TightWalk N π δ f k s t cs
  free_walk s t cs p δ h =
      let q = walk_capacity_above N f free s t k cs p in
      record {
        walk = walk_with (codes N) (src N) (dst N) (goes N f free) (has_capacity N f δ) s t cs (all_has_capacity N f δ cs (flow_bounds N f ti.least.flow) q.codes_in h) p.walk;
        distinct = p.distinct;
        tight = every_map2 (λ c. c < codes N) (λ c. goes N f free c ≡ true) (λ c. reduced N π (c / 2) ≡ pos 0) cs (λ c l g. ti.marked (c / 2) (omega arith) (and_true (get_or free (c / 2) false) (usable N f c) g).0) q.codes_in (walk_holds (codes N) (src N) (dst N) (goes N f free) s t cs p.walk);
        above = q.above;
      }

  pub lowered_by : (δ : ℕ) (cs : List ℕ) → FreeWalk N f free (tail N k) (head N k) (suc k) cs → get_or free k false ≡ true → low N k + δ ≤ get_or f k 0 → Every (λ c. δ ≤ residual_capacity N f c) cs
      → Moved N f (push_all δ cs (set f k (get_or f k 0 - δ))) k (get_or f k 0 - δ)
  lowered_by δ cs p m capacity h = lowered N π δ f k cs l ti.least (ti.marked k l m) capacity (free_walk (tail N k) (head N k) cs p δ h)

  pub raised_by : (δ : ℕ) (cs : List ℕ) → FreeWalk N f free (head N k) (tail N k) (suc k) cs → get_or free k false ≡ true → get_or f k 0 + δ ≤ up N k → Every (λ c. δ ≤ residual_capacity N f c) cs
      → Moved N f (push_all δ cs (set f k (get_or f k 0 + δ))) k (get_or f k 0 + δ)
  raised_by δ cs p m capacity h = raised N π δ f k cs l ti.least (ti.marked k l m) capacity (free_walk (head N k) (tail N k) cs p δ h)

  -- marked arcs from `from` on
  abbrev Free : ℕ → ℕ → Type 0
  Free from a = (from ≤ a) × (get_or free a false ≡ true)

  closed : (s t from : ℕ) (b : Blocked N f free s t from) → Closed N f (Free from) b.inside
  closed s t from b = closed_steps N f (Free from) b.inside (λ c h o u i. b.shut c (omega (arith, o.0)) h (true_and (get_or free (c / 2) false) (usable N f c) o.1 u) i)

  -- g has the numbers of f before arc `from`, but for arc k
  module _ (from : ℕ) (g : List ℕ) (lg : LeastCost N g) (before : (a : ℕ) → a < from → a ≢ k → get_or f a 0 ≡ get_or g a 0) where
    others : (a : ℕ) → a < arcs N → a ≢ k → Free from a ⊎ (get_or g a 0 ≡ get_or f a 0)
    others a h ne = go (dec_lt a from) (get_or free a false) refl
      where
        go : Dec (a < from) → (m : Bool) → get_or free a false ≡ m → Free from a ⊎ (get_or g a 0 ≡ get_or f a 0)
        go (yes p) m e = inr (sym (before a p ne))
        go (no p) true e = inl (omega arith, e)
        go (no p) false e = inr (ti.unmarked a h e g lg)

    pub blocked_less : Blocked N f free (tail N k) (head N k) from → get_or f k 0 ≤ get_or g k 0
    blocked_less b = no_less N ti.well_formed f g ti.least.flow lg.flow k l (Free from) b.inside (closed (tail N k) (head N k) from b) others b.has b.lacks

    pub blocked_more : Blocked N f free (head N k) (tail N k) from → get_or g k 0 ≤ get_or f k 0
    blocked_more b = no_more N ti.well_formed f g ti.least.flow lg.flow k l (Free from) b.inside (closed (head N k) (tail N k) from b) others b.has b.lacks
