-- For the crates above: a flow of the engine is the flow of the way that is read off it, and a given list is least-cost if its flow is.
use mathlib.Core.Path.{◌≡◌, refl, sym, ap, ◌∙◌}
use mathlib.Core.Logic.{◌↔◌}
use mathlib.Core.List.{List}
use Prim.Native.Nat.{ℕ}
use lib.ListN.{length, take}
use Rattle.laws.specs.Padded.{padded, take_padded}
use Rattle.net_model.specs.declared.Arc.{Arc}
use Rattle.net_model.specs.declared.Network.{Network}
use Rattle.net_model.specs.Network.{Net, IsFlow, LeastCost}
use Rattle.net_model.specs.Struct.{net_in}
use Rattle.book_form.specs.Book.{Book}
use Rattle.book_form.specs.WithinLimits.{WithinLimits}
use Rattle.way_theory.specs.Follow.{size}
use Rattle.way_theory.specs.Ways.{LeastCostWay}
use Rattle.way_theory.specs.BookNet.{book_net}
use Rattle.way_theory.specs.WayFlow.{flow_of, way_of}
use Rattle.way_theory.proofs.Matched.{flow_back}
use Rattle.way_theory.proofs.Given.{given_least}
use Rattle.way_flow.specs.Arcs.{ArcEnds, IsWayOf, IsFlowOf}
use Rattle.way_flow.proofs.Laying.{flow_long}

-- the ends of a struct that holds the book's network
pub ends_of : (b : Book) → WithinLimits b → (r : Network) → net_in r ≡ book_net b → ArcEnds b (size b) (take r.arcs r.table)
ends_of b ok r e = record { limits = ok; entries_are = refl; tails_are = ap (λ (N : Net). N.tails) e; heads_are = ap (λ (N : Net). N.heads) e }

module _ (b : Book) (e : ℕ) (held : List Arc) (h : ArcEnds b e held) where
  pub reads_flow : (flow way : List ℕ) → IsWayOf e held flow way → IsFlow (book_net b) flow → way ≡ padded 28 0 (way_of b flow)
  reads_flow flow way r f = let (w, q) = flow_back b flow f in r.each b h (way_of b flow) w (sym q)

  module _ (w flow : List ℕ) (len : length w ≡ e) (r : IsFlowOf e b.players held w flow) where
    pub laid_flow : take (length held) flow ≡ flow_of b w
    laid_flow = ap (λ l. take (length held) l) (r.each b h refl) ∙ ap (λ n. take n (padded 512 0 (flow_of b w))) (sym (flow_long e held b h w len)) ∙ take_padded 512 0 (flow_of b w)

    pub laid_least : LeastCost (book_net b) (take (length held) flow) ↔ LeastCostWay b w
    laid_least = rw laid_flow (given_least b w (len ∙ h.entries_are))
