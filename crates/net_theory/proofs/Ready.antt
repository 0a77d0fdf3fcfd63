-- An accepted network is one that functions may search and push in, with any marks and, to push, with a flow within its bounds.
use mathlib.Core.Path.{◌≡◌, ◌∙◌}
use mathlib.Core.List.{List, []}
use mathlib.Core.Bool.{Bool}
use Prim.Native.Nat.{ℕ}
use lib.ListN.{length}
use Rattle.net_model.specs.Network.{Net, arcs}
use Rattle.net_model.specs.Accepted.{AcceptedNet}
use Rattle.net_theory.specs.Graph.{costed}
use Rattle.net_theory.specs.Bounds.{InBounds}
use Rattle.net_theory.specs.Ready.{Searchable, Ready}
use Rattle.net_theory.proofs.Limits.{small_ends, small_bounds}
use Rattle.net_theory.proofs.Graph.{ends_with, bounds_with, within_with}

module _ (N : Net) (ok : AcceptedNet N) (f : List ℕ) (free : List Bool) (free_len : length free ≡ arcs N) where
  pub accepted_searchable : length f ≡ arcs N → Searchable (costed N) f free
  accepted_searchable e = record {
    ends = ends_with N [] N.lows N.ups N.costs (small_ends N ok);
    bounds = bounds_with N [] N.heads N.costs (small_bounds N ok);
    flow_len = e;
    free_len = free_len;
  }

  pub accepted_ready : InBounds N f → Ready (costed N) f free
  accepted_ready b = record { searchable = accepted_searchable b.all_arcs; within = within_with N [] N.heads N.costs f b }

-- ---- with other numbers on the arcs
pub searchable_again : (N : Net) (f g : List ℕ) (free : List Bool) → length g ≡ length f → Searchable N f free → Searchable N g free
searchable_again N f g free e k = record { ends = k.ends; bounds = k.bounds; flow_len = e ∙ k.flow_len; free_len = k.free_len }

pub ready_again : (N : Net) (f g : List ℕ) (free : List Bool) → length g ≡ length f → InBounds N g → Ready N f free → Ready N g free
ready_again N f g free e b r = record { searchable = searchable_again N f g free e r.searchable; within = b }
