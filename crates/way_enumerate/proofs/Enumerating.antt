-- From the steps through the flows of a book's network to steps through its ways.
use mathlib.Core.Path.{◌≡◌, refl, sym, ap, subst, ◌∙◌}
use mathlib.Core.Bool.{Bool, true, false}
use mathlib.Core.List.{List}
use mathlib.Core.Logic.{◌↔◌}
use mathlib.Core.Option.{Option, none, some}
use Prim.Native.Nat.{ℕ, ◌≤◌}
use native.Mathlib.Omega.{arith}
use lib.ListN.{length, take, length-map}
use Rattle.laws.specs.Padded.{padded}
use Rattle.laws.specs.Members.{none_some}
use Rattle.laws.specs.Image.{map_option}
use Rattle.net_model.specs.Network.{WellFormed, IsFlow, LeastCost, cost_of}
use Rattle.net_model.specs.Struct.{net_in, Sound}
use Rattle.net_model.specs.declared.Arc.{Arc}
use Rattle.net_model.specs.declared.Network.{Network}
use Rattle.net_model.proofs.Struct.{struct_of_lem}
use Rattle.flow_least.specs.Answers.{LeastIf}
use Rattle.flow_enumerate.specs.declared.Place.{Place}
use Rattle.flow_enumerate.specs.declared.Place.TheVariants.{Start, Item, None, End}
use Rattle.flow_enumerate.specs.declared.Enumerator.{Enumerator}
use Rattle.flow_enumerate.specs.Enumerator.{state_net, state_flow, item_at, item_of, place_after, Stands}
use Rattle.flow_enumerate.specs.Enumerator as flows
use Rattle.flow_enumerate.proofs.Given.{item_least, no_item}
use Rattle.book_form.specs.Book.{Book}
use Rattle.book_form.specs.declared.CheckedBook.{CheckedBook}
use Rattle.way_theory.specs.Follow.{size}
use Rattle.way_theory.specs.BookNet.{book_net}
use Rattle.way_theory.specs.WayFlow.{flow_of, way_of}
use Rattle.way_theory.specs.Ways.{LeastCostWay}
use Rattle.way_theory.proofs.Arcs.{well_formed}
use Rattle.way_theory.proofs.WayBack.{way_back}
use Rattle.way_theory.proofs.Matched.{flow_back}
use Rattle.way_network.proofs.Made.{made_net, made_sound}
use Rattle.book_form.specs.Held.{Holds, Held}
use Rattle.way_network.specs.Network.{IsNetworkOf}
use Rattle.way_flow.specs.Arcs.{ArcEnds, HasEnds, HasFlow, IsWayOf, IsFlowOf}
use Rattle.way_flow.proofs.Lines.{ends_of, reads_flow, laid_flow, laid_least}
use Rattle.way_enumerate.specs.declared.WayEnumerator.{WayEnumerator}
use Rattle.way_enumerate.specs.WayEnumerator.{Enumerates, EnumeratesSome, way_at, way_item_cost, way_after, At, ResumesIn, LeastWayIf, Tells}
use Rattle.way_enumerate.proofs.Reading.{next_read, cost_read}

-- an item that a state stands on is least-cost
on_least : (s : Enumerator) → Stands s → (f : List ℕ) → item_of s ≡ some f → LeastCost (state_net s) f
on_least s h f e = go s.place refl
  where
    go : (p : Place) → s.place ≡ p → LeastCost (state_net s) f
    go Start q = absurd (none_some f (sym (ap (λ p. item_at p (state_flow s)) q) ∙ e))
    go None q = absurd (none_some f (sym (ap (λ p. item_at p (state_flow s)) q) ∙ e))
    go End q = absurd (none_some f (sym (ap (λ p. item_at p (state_flow s)) q) ∙ e))
    go Item q =
        let k : some (state_flow s) ≡ some f = sym (ap (λ p. item_at p (state_flow s)) q) ∙ e in
        let l : state_flow s ≡ f = cc in
        subst (LeastCost (state_net s)) l (h.marked q).marks.least

-- the network of an enumerator is the book's
pub net_of_book : (b : Book) (s : WayEnumerator) → Enumerates b s → state_net s.flows ≡ book_net b
net_of_book b s h = ap net_in h.net_is ∙ struct_of_lem (book_net b) (well_formed b)

-- the cost that a state holds is that of its way
pub cost_held : (b : Book) (s : WayEnumerator) → Enumerates b s → s.flows.cost ≡ way_item_cost b (way_at b s)
cost_held b s enumerates = enumerates.stands.cost_is ∙ go (item_of s.flows) refl
  where
    go : (o : Option (List ℕ)) → item_of s.flows ≡ o → flows.item_cost (state_net s.flows) o ≡ way_item_cost b (map_option (way_of b) o)
    go none e = refl
    go (some f) e =
        ap (λ N. cost_of N f) (net_of_book b s enumerates)
        ∙ cost_read b f (subst (λ N. LeastCost N f) (net_of_book b s enumerates) (on_least s.flows enumerates.stands f e))

placed : (b : Book) (p : Place) (o : Option (List ℕ)) → place_after p o ≡ place_after p (map_option (way_of b) o)
placed b p none = refl
placed b p (some f) = refl

-- a state that stands on an item of the network stands on a way of the book
at_way : (b : Book) (r : WayEnumerator) → Enumerates b r → (p : Place) (o : Option (List ℕ)) → item_of r.flows ≡ o → r.flows.place ≡ place_after p o
    → At b p (map_option (way_of b) o) r
at_way b r enumerates p o item place = record {
  enumerates = enumerates;
  way_is = ap (map_option (way_of b)) item;
  place_is = place ∙ placed b p o;
  cost_is = cost_held b r enumerates ∙ ap (λ x. way_item_cost b (map_option (way_of b) x)) item;
}

-- the steps of an enumerator
module _ (b : Book) (s r : WayEnumerator) (enumerates : Enumerates b s) (entries : r.entries ≡ s.entries) (p : Place) (o : Option (List ℕ)) (steps : flows.Steps s.flows p o r.flows) where
  goes_on : Enumerates b r
  goes_on = record {
    limits = enumerates.limits;
    entries_are = entries ∙ enumerates.entries_are;
    net_is = steps.net_is ∙ enumerates.net_is;
    stands = steps.stands;
  }

  pub steps_to : (v : Option (List ℕ)) → map_option (way_of b) o ≡ v → At b p v r
  steps_to v e = subst (λ x. At b p x r) e (at_way b r goes_on p o steps.item_is steps.place_is)

-- what follows the item that a state stands on
pub follows : (b : Book) (s : WayEnumerator) → Enumerates b s → map_option (way_of b) (flows.item_after (state_net s.flows) (item_of s.flows)) ≡ way_after b (way_at b s)
follows b s enumerates = go (item_of s.flows) refl
  where
    go : (o : Option (List ℕ)) → item_of s.flows ≡ o → map_option (way_of b) (flows.item_after (state_net s.flows) o) ≡ way_after b (map_option (way_of b) o)
    go none e = refl
    go (some f) e =
        ap (λ N. map_option (way_of b) (flows.item_after N (some f))) (net_of_book b s enumerates)
        ∙ next_read b f (subst (λ N. LeastCost N f) (net_of_book b s enumerates) (on_least s.flows enumerates.stands f e))

-- the table of a sound network has room for its arcs
module _ (net : Network) (ok : Sound net) where
  pub table_held : net.arcs ≡ length (take net.arcs net.table)
  table_held = ok.arcs_held ∙ length-map (take net.arcs net.table) (λ (a : Arc). a.tail)

  pub few_arcs : net.arcs ≤ 512
  few_arcs = omega (arith, ok.arcs_held, ok.accepted.few_arcs)

-- an enumerator of the network made of a checked book
module _ (k : CheckedBook) (N : Network) (makes : IsNetworkOf k N) where
  pub net_sound : Held k → Sound N
  net_sound h = made_sound h.book k h.holds N makes

  count_is : (b : Book) → Holds b k → k.count ≡ size b
  count_is b h = ap (λ (c : CheckedBook). c.count) h.is

  made_ends : (b : Book) → Holds b k → ArcEnds b k.count (take N.arcs N.table)
  made_ends b h = rw (count_is b h) (ends_of b h.limits N (made_net b k h N makes))

  pub net_ends : Held k → HasEnds k.count k.players (take N.arcs N.table)
  net_ends h = record { book = h.book; ends = made_ends h.book h.holds; players_are = ap (λ (c : CheckedBook). c.players) h.holds.is }

  -- `flow` is what `flow_of` lays for the list w
  module _ (b : Book) (h : Holds b k) (w flow : List ℕ) (len : length w ≡ k.count)
      (lays : IsFlowOf k.count k.players (take N.arcs N.table) w flow) where
    held : N.arcs ≡ length (take N.arcs N.table)
    held = table_held N (made_sound b k h N makes)

    lays_it : IsFlowOf k.count b.players (take N.arcs N.table) w flow
    lays_it = subst (λ p. IsFlowOf k.count p (take N.arcs N.table) w flow) (ap (λ (c : CheckedBook). c.players) h.is) lays

    laid : take N.arcs flow ≡ flow_of b w
    laid = ap (λ n. take n flow) held ∙ laid_flow b k.count _ (made_ends b h) w flow len lays_it

    -- question 18 of w is question 8 of its flow
    least : LeastCost (net_in N) (take N.arcs flow) ↔ LeastCostWay b w
    least =
        rw (made_net b k h N makes)
        (subst (λ n. LeastCost (book_net b) (take n flow) ↔ LeastCostWay b w) (sym held) (laid_least b k.count _ (made_ends b h) w flow len lays_it))

    pub tested : (r : Bool) → LeastIf (net_in N) (take N.arcs flow) r → LeastWayIf b w r
    tested true l = least.0 l
    tested false n = λ l. n (least.1 l)

  module _ (b : Book) (h : Holds b k) (r : Enumerator) (stands : Stands r) (same : r.net ≡ N) where
    pub enumerates : Enumerates b (record { flows = r; entries = k.count })
    enumerates = record {
      limits = h.limits;
      entries_are = count_is b h;
      net_is = same ∙ makes.each b h;
      stands = stands;
    }

    -- on no way yet
    pub on_start : r.place ≡ Start → At b Start none (record { flows = r; entries = k.count })
    on_start place = at_way b (record { flows = r; entries = k.count }) enumerates Start none (ap (λ p. item_at p (state_flow r)) place) place

    -- on the way w, if it is a least-cost way
    pub resumes : (w flow : List ℕ) → length w ≡ k.count
        → IsFlowOf k.count k.players (take N.arcs N.table) w flow
        → flows.Resumes (net_in N) (take N.arcs flow) r → ResumesIn b w (record { flows = r; entries = k.count })
    resumes w flow len lays step = record { on = on; off = off }
      where
        ok : WellFormed (net_in N)
        ok = (made_sound b k h N makes).accepted.well_formed

        off : ¬ LeastCostWay b w → At b Start none (record { flows = r; entries = k.count })
        off n = on_start (step.place_is ∙ ap (place_after Start) (no_item (net_in N) ok (take N.arcs flow) (λ l. n ((least b h w flow len lays).0 l))))

        on : LeastCostWay b w → At b Start (some w) (record { flows = r; entries = k.count })
        on l =
            let e = item_least (net_in N) ok (take N.arcs flow) ((least b h w flow len lays).1 l) in
            subst (λ v. At b Start (some v) (record { flows = r; entries = k.count })) (ap (way_of b) (laid b h w flow len lays) ∙ way_back b w l.way)
            (at_way b (record { flows = r; entries = k.count }) enumerates Start (some (take N.arcs flow)) (step.item_is ∙ e) (step.place_is ∙ ap (place_after Start) e))

ends : (b : Book) (s : WayEnumerator) → Enumerates b s → ArcEnds b s.entries (take s.flows.net.arcs s.flows.net.table)
ends b s h = rw h.entries_are (ends_of b h.limits s.flows.net (net_of_book b s h))

-- the item that it stands on is a flow of the book's network
pub on_flow : (b : Book) (s : WayEnumerator) → Enumerates b s → s.flows.place ≡ Item → IsFlow (book_net b) (state_flow s.flows)
on_flow b s h on = (subst (λ N. LeastCost N (state_flow s.flows)) (net_of_book b s h) (on_least s.flows h.stands (state_flow s.flows) (ap (λ p. item_at p (state_flow s.flows)) on))).flow

pub has_flow : (s : WayEnumerator) → EnumeratesSome s → s.flows.place ≡ Item → HasFlow s.entries (take s.flows.net.arcs s.flows.net.table) (state_flow s.flows)
has_flow s h on =
    let b = h.book in
    let (way, is) = flow_back b (state_flow s.flows) (on_flow b s h.enumerates on) in
    record { book = b; ends = ends b s h.enumerates; way = way_of b (state_flow s.flows); is_way = way; flow_is = sym is }

-- the way read off the item is the way that the enumerator stands on
pub tells : (s : WayEnumerator) (r : List ℕ) → s.flows.place ≡ Item
    → IsWayOf s.entries (take s.flows.net.arcs s.flows.net.table) (state_flow s.flows) r → Tells s r
tells s r on reads = record { each = go }
  where
    go : (b : Book) → Enumerates b s → (w : List ℕ) → way_at b s ≡ some w → r ≡ padded 28 0 w
    go b h w e =
        let q : some (way_of b (state_flow s.flows)) ≡ some w = sym (ap (λ p. map_option (way_of b) (item_at p (state_flow s.flows))) on) ∙ e in
        let k : way_of b (state_flow s.flows) ≡ w = cc in
        reads_flow b s.entries _ (ends b s h) (state_flow s.flows) r reads (on_flow b s h on) ∙ ap (padded 28 0) k
