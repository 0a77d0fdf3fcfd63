-- A state on an item meets what the functions beneath ask.
use mathlib.Core.Path.{◌≡◌}
use mathlib.Core.List.{List}
use lib.ListN.{take}
use lib.IntN.{ℤ}
use Rattle.net_theory.specs.Bounds.{InBounds}
use Rattle.net_theory.specs.Graph.{costed}
use Rattle.net_theory.specs.Ready.{Ready}
use Rattle.net_theory.proofs.Bounds.{flow_bounds}
use Rattle.net_theory.proofs.Ready.{accepted_ready}
use Rattle.flow_relax.specs.Labels.{Relaxable}
use Rattle.flow_relax.specs.Potentials.{HasPotential}
use Rattle.flow_relax.proofs.Accepted.{accepted_relaxable}
use Rattle.flow_prices.specs.Prices.{PriceLabels}
use Rattle.flow_prices.proofs.Pricing.{labels_price}
use Rattle.flow_prices.proofs.Beyond.{labels_beyond}
use Rattle.flow_least.proofs.Marked.{has_potential_bare, marked_has_potential}
use Rattle.flow_enumerate.specs.Enumerator.{state_net, state_flow, Stands, PriceArray}
use Rattle.flow_enumerate.specs.declared.Enumerator.{Enumerator}
use Rattle.flow_enumerate.specs.declared.Place.TheVariants.{Item}

module _ (s : Enumerator) (h : Stands s) where
  module _ (on : s.place ≡ Item) where
    bounds : InBounds (state_net s) (state_flow s)
    bounds = flow_bounds (state_net s) (state_flow s) (h.marked on).marks.least.flow

    pub ready_on : Ready (costed (state_net s)) (state_flow s) (take s.net.arcs s.free)
    ready_on = accepted_ready (state_net s) h.sound.accepted (state_flow s) (take s.net.arcs s.free) (h.marked on).marks_len bounds

    pub relaxable_on : Relaxable (costed (state_net s)) (state_flow s)
    relaxable_on = accepted_relaxable (state_net s) h.sound.accepted (state_flow s) bounds

    pub has_potential_on : HasPotential (costed (state_net s)) (state_flow s) 1
    has_potential_on = has_potential_bare (state_net s) (state_flow s) (marked_has_potential (state_net s) (state_flow s) (take s.net.arcs s.free) (h.marked on))

  pub prices_on : (d : List ℤ) → PriceLabels (costed (state_net s)) (state_flow s) d → PriceArray (state_net s) (state_flow s) d
  prices_on d P =
      let ok = h.sound.accepted in
      record {
        prices = labels_price (state_net s) (state_flow s) ok.well_formed ok.few_nodes d P;
        others = labels_beyond (state_net s) (state_flow s) ok.well_formed d P;
      }
