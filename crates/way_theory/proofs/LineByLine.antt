-- The full list of ways and the full list of flows, line by line: first, next and count of one are those of the other.
use mathlib.Core.Path.{◌≡◌, sym, ap, ap₂, ◌∙◌}
use mathlib.Core.Logic.{◌↔◌}
use mathlib.Core.List.{List, map}
use Prim.Native.Nat.{ℕ}
use lib.ListN.{length, get_elem?, length-map}
use lib.Signed.{le_z}
use Rattle.laws.specs.Lexicographic.{◌<lex◌, lex_irrefl, lex_trans}
use Rattle.laws.specs.Members.{◌∈◌, first?, map_member, member_map}
use Rattle.laws.specs.Ascending.{Ascending, same_members, ascending_keep}
use Rattle.laws.specs.Within.{within, within_ascending}
use Rattle.laws.specs.Best.{best}
use Rattle.laws.specs.After.{after, after_same}
use Rattle.laws.specs.Equality.{same_list}
use Rattle.laws.specs.Count.{counted}
use Rattle.laws.specs.Image.{map_option, ascending_image, best_image, line_image, first_image, after_image}
use Rattle.net_model.specs.Network.{LeastCost}
use Rattle.net_model.specs.FullList.{bounds, is_balanced, no_dearer, flow_list, full_list, first_flow, next_flow, count_flows}
use Rattle.net_model.proofs.FullList.{flow_member, full_member}
use Rattle.book_form.specs.Book.{Book}
use Rattle.way_theory.specs.Ways.{IsWay}
use Rattle.way_theory.specs.FullWays.{way_list, full_ways, first_way, next_way, count_ways}
use Rattle.way_theory.specs.FullWays as ways
use Rattle.way_theory.specs.BookNet.{book_net}
use Rattle.way_theory.specs.WayFlow.{flow_of}
use Rattle.way_theory.proofs.FullWays.{way_member, full_way, ways_ascending}
use Rattle.way_theory.proofs.Arcs.{well_formed}
use Rattle.way_theory.proofs.WayBack.{flow_once}
use Rattle.way_theory.proofs.Matched.{way_flow, way_cost_lem, flow_less, flow_way}

module _ (book : Book) where
  flows_ascending : Ascending ◌<lex◌ (flow_list (book_net book))
  unfolding flow_list
  flows_ascending =
      ascending_keep ◌<lex◌ (is_balanced (book_net book)) (within (bounds (book_net book).lows (book_net book).ups)) (within_ascending (bounds (book_net book).lows (book_net book).ups))

  -- all ways and all flows
  pub all_matched : map (flow_of book) (way_list book) ≡ flow_list (book_net book)
  all_matched =
      same_members ◌<lex◌ lex_irrefl lex_trans (map (flow_of book) (way_list book)) (flow_list (book_net book))
      (ascending_image (flow_of book) ◌<lex◌ ◌<lex◌ (way_list book) (λ w x m n. flow_less book w x ((way_member book w).0 m) ((way_member book x).0 n)) (ways_ascending book))
      flows_ascending
      (λ f m. there f (member_map (flow_of book) (way_list book) f m))
      (λ f m. back f (flow_way book f ((flow_member (book_net book) (well_formed book) f).0 m)))
    where
      there : (f : List ℕ) → (w : List ℕ) × (w ∈ way_list book) × (f ≡ flow_of book w) → f ∈ flow_list (book_net book)
      there f (w, m, q) = rw q ((flow_member (book_net book) (well_formed book) (flow_of book w)).1 (way_flow book w ((way_member book w).0 m)))

      back : (f : List ℕ) → (w : List ℕ) × IsWay book w × (f ≡ flow_of book w) → f ∈ map (flow_of book) (way_list book)
      back f (w, h, q) = rw q (map_member (flow_of book) (way_list book) w ((way_member book w).1 h))

  -- the least-cost ways and the least-cost flows
  pub matched : map (flow_of book) (full_ways book) ≡ full_list (book_net book)
  unfolding full_ways full_list
  matched =
      sym (best_image (flow_of book) (no_dearer (book_net book)) (ways.no_dearer_way book) (way_list book)
      (λ w x m n. ap₂ le_z (way_cost_lem book w ((way_member book w).0 m)) (way_cost_lem book x ((way_member book x).0 n))))
      ∙ ap (best (no_dearer (book_net book))) all_matched

  -- the flow of way k of the list is flow k of the list
  pub line_matched : (k : ℕ) → get_elem? (full_list (book_net book)) k ≡ map_option (flow_of book) (get_elem? (full_ways book) k)
  line_matched k = ap (λ l. get_elem? l k) (sym matched) ∙ line_image (flow_of book) (full_ways book) k

  pub first_matched : first_flow (book_net book) ≡ map_option (flow_of book) (first_way book)
  first_matched = ap first? (sym matched) ∙ first_image (flow_of book) (full_ways book)

  pub after_matched : (w : List ℕ) → IsWay book w → next_flow (book_net book) (flow_of book w) ≡ map_option (flow_of book) (next_way book w)
  after_matched w h =
      ap (after same_list (λ g. g) (flow_of book w)) (sym matched)
      ∙ after_image (flow_of book) same_list (λ g. g) (flow_of book w) (full_ways book)
      ∙ ap (map_option (flow_of book)) (after_same same_list (flow_of book) (flow_of book w) same_list (λ x. x) w (full_ways book)
      (λ x m. (λ e. flow_once book x w ((full_way book x).0 m).way h e, λ e. ap (flow_of book) e)))

  pub count_matched : (cap : ℕ) → count_flows (book_net book) cap ≡ count_ways book cap
  count_matched cap = ap (counted cap) (ap length (sym matched) ∙ length-map (full_ways book) (flow_of book))

  -- a way is least-cost exactly when its flow is
  pub least_matched : (w : List ℕ) → IsWay book w → (w ∈ full_ways book) ↔ LeastCost (book_net book) (flow_of book w)
  least_matched w h = (
    λ m. (full_member (book_net book) (well_formed book) (flow_of book w)).0 (rw (← matched) (map_member (flow_of book) (full_ways book) w m)),
    λ k. back (member_map (flow_of book) (full_ways book) (flow_of book w) (rw matched ((full_member (book_net book) (well_formed book) (flow_of book w)).1 k))),
  )
    where
      back : (x : List ℕ) × (x ∈ full_ways book) × (flow_of book w ≡ flow_of book x) → w ∈ full_ways book
      back (x, m, q) = rw (flow_once book w x h ((full_way book x).0 m).way q) m
