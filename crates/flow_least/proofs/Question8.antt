-- Question 8: bounds, balances and the search for a negative cycle decide whether a list is a least-cost flow.
use mathlib.Core.List.{List}
use Prim.Native.Nat.{ℕ}
use lib.ListN.{get_or, take}
use lib.IntN.{ℤ, pos}
use Rattle.std.proofs.Common.{Option, Some, None}
use Rattle.std.specs.Option.{is_some}
use Rattle.net_model.specs.Network.{Net, WellFormed, IsFlow, LeastCost}
use Rattle.net_theory.specs.Graph.{costed}
use Rattle.net_theory.proofs.Optimality.{feasible_least}
use Rattle.flow_relax.specs.Labels.{Relaxable}
use Rattle.flow_negative_cycle.specs.Search.{FindsCycle}
use Rattle.flow_cancel.proofs.Cancelling.{labels_of, cycle_of}
use Rattle.flow_cancel.proofs.NegativeCycles.{no_cycle}
use Rattle.flow_least.specs.Answers.{LeastIf, ShowsLeast}
use Rattle.flow_least.proofs.Marked.{labels_whole}

-- the test without its labels
pub shown_if : (N : Net) (f : List ℕ) (r : Option (List ℤ)) → ShowsLeast N f r → LeastIf N f (is_some r)
shown_if N f (Some d) t = t.0
shown_if N f None t = t

module _ (N : Net) (f : List ℕ) (ok : WellFormed N) (rel : Relaxable (costed N) f) (F : IsFlow N f) where
  -- a cycle was found
  pub not_least : (d : List ℤ) (out out' : List ℕ) (n : ℕ) → FindsCycle (costed N) f 1 d out out' (Some n) → ¬ LeastCost N f
  not_least d out out' n S = no_cycle N f rel F (take n out') (cycle_of (costed N) f 1 d out out' n S).1

  -- none was
  pub shown : (d : List ℤ) (out out' : List ℕ) → FindsCycle (costed N) f 1 d out out' None → ShowsLeast N f (Some d)
  shown d out out' S =
      let s = labels_of (costed N) f 1 d out out' S in
      (feasible_least N ok f (λ v. get_or d v (pos 0)) F s.feasible, labels_whole N f d s)
