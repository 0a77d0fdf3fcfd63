-- From the labels of a flow to its marks, and back to a feasible potential.
use mathlib.Core.Path.{◌≡◌, ap, ◌∙◌}
use mathlib.Core.Logic.{⊎_elim}
use mathlib.Core.Bool.{Bool}
use mathlib.Core.List.{List}
use mathlib.Core.Option.{none, some}
use Prim.Native.Nat.{ℕ, ◌<◌}
use native.Mathlib.Omega.{arith}
use lib.ListN.{length, get_or}
use lib.IntN.{ℤ, pos}
use Rattle.net_model.specs.Network.{Net, arcs, WellFormed, IsFlow, LeastCost}
use Rattle.net_model.specs.FullList.{first_flow}
use Rattle.laws.specs.Members.{first?}
use Rattle.net_model.proofs.FullList.{none_iff}
use Rattle.net_theory.specs.FreeArcs.{NotRaisable, NotLowerable}
use Rattle.net_theory.specs.Graph.{costed}
use Rattle.net_theory.proofs.Optimality.{off_tight}
use Rattle.net_theory.proofs.Order.{first_item}
use Rattle.flow_relax.specs.Potentials.{HasPotential}
use Rattle.flow_negative_cycle.specs.Search.{PotentialLabels}
use Rattle.flow_closure.specs.Candidates.{UnmarkFixed}
use Rattle.flow_order.specs.Minimising.{Minimised}
use Rattle.flow_arc.proofs.Certified.{free_any}
use Rattle.flow_arc.specs.FreeMarks.{FreeMarks}
use Rattle.flow_arc.proofs.Candidates.{at_most, at_least}
use Rattle.flow_arc.proofs.Lists.{not_raisable_whole, not_lowerable_whole}
use Rattle.flow_cost.specs.Costs.{MarksTight}
use Rattle.flow_least.specs.Marked.{Marked}

-- fewer marks: an arc that no least-cost flow moves needs none
narrowed : (N : Net) (π : ℕ → ℤ) (free : List Bool) (f : List ℕ) → FreeMarks N π free f → (left : List Bool) → UnmarkFixed (costed N) f free left → FreeMarks N π left f
narrowed N π free f ti left n = record {
  well_formed = ti.well_formed;
  marked = λ a p e. ti.marked a p (⊎_elim (λ r. r.0) (λ r. r.0) (n.left a p e));
  unmarked = λ a p e g lg. same a p g lg (n.others a p e);
  least = ti.least;
  feasible = ti.feasible;
}
  where
    same : (a : ℕ) → a < arcs N → (g : List ℕ) → LeastCost N g → NotRaisable (costed N) f free 0 a × NotLowerable (costed N) f free 0 a → get_or g a 0 ≡ get_or f a 0
    same a p g lg (r, s) =
        omega (
          arith,
          at_most N π free f ti 0 a p g lg (λ i q. absurd (omega arith)) (not_raisable_whole (costed N) N.balances N.costs f free 0 a r),
          at_least N π free f ti 0 a p g lg (λ i q. absurd (omega arith)) (not_lowerable_whole (costed N) N.balances N.costs f free 0 a s),
        )

module _ (N : Net) (f : List ℕ) where
  pub has_potential_bare : HasPotential N f 1 → HasPotential (costed N) f 1
  has_potential_bare s = record { potential = s.potential; feasible = s.feasible }

  pub labels_whole : (d : List ℤ) → PotentialLabels (costed N) f 1 d → PotentialLabels N f 1 d
  labels_whole d q = record { len = q.len; low = q.low; feasible = q.feasible; small = q.small }

  pub marked_by : WellFormed N → LeastCost N f → (d : List ℤ) → PotentialLabels N f 1 d → (free : List Bool) → length free ≡ arcs N
      → (k : ℕ) → k ≡ arcs N → MarksTight (costed N) (λ v. get_or d v (pos 0)) free k → Marked N free f
  marked_by ok least d q free e k l m = record {
    potential = π;
    marks_len = e;
    marks = record {
      well_formed = ok;
      marked = λ a p. m.marked a (omega arith);
      unmarked = λ a p z g lg. off_tight N ok f g π least.flow q.feasible lg a p (m.unmarked a (omega arith) z);
      least = least;
      feasible = q.feasible;
    };
  }
    where
      π : ℕ → ℤ
      π v = get_or d v (pos 0)

  pub marked_narrowed : (free left : List Bool) → Marked N free f → length left ≡ length free → UnmarkFixed (costed N) f free left → Marked N left f
  marked_narrowed free left m e n = record {
    potential = m.potential;
    marks_len = e ∙ m.marks_len;
    marks = narrowed N m.potential free f m.marks left n;
  }

  -- a feasible potential from the marks
  pub marked_has_potential : (free : List Bool) → Marked N free f → HasPotential N f 1
  marked_has_potential free m = record { potential = m.potential; feasible = m.marks.feasible }

-- the marks of one flow serve every other
pub marked_any : (N : Net) (free : List Bool) (f g : List ℕ) → Marked N free f → LeastCost N g → Marked N free g
marked_any N free f g m least = record {
  potential = m.potential;
  marks_len = m.marks_len;
  marks = free_any N m.potential free f g m.marks least;
}

pub first_marked : (N : Net) (free : List Bool) (f g : List ℕ) → Marked N free f → Minimised N f g 0 → (first_flow N ≡ some g) × Marked N free g
first_marked N free f g m least = (first_item N m.marks.well_formed g least.least (λ a h. least.minimal a h), marked_any N free f g m least.least)

pub no_first : (N : Net) → WellFormed N → ((g : List ℕ) → ¬ IsFlow N g) → first_flow N ≡ none
no_first N ok h = ap first? ((none_iff N ok).1 h)
