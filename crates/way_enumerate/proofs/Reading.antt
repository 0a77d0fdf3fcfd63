-- Items of a book's network read as ways: the first, the next, and the cost.
use mathlib.Core.Path.{◌≡◌, refl, sym, ap, ◌∙◌}
use mathlib.Core.Logic.{inr}
use mathlib.Core.List.{List, [], ◌∷◌}
use mathlib.Core.Option.{Option, none, some}
use Prim.Native.Nat.{ℕ}
use Rattle.laws.specs.Members.{◌∈◌, none_some, first_member}
use Rattle.laws.specs.After.{after, after_if}
use Rattle.laws.specs.Image.{map_option}
use Rattle.laws.specs.Equality.{same_list}
use Rattle.net_model.specs.Network.{LeastCost, cost_of}
use Rattle.net_model.specs.FullList.{first_flow, next_flow}
use Rattle.book_form.specs.Book.{Book}
use Rattle.way_theory.specs.FullWays.{full_ways, first_way, next_way}
use Rattle.way_theory.specs.BookNet.{book_net}
use Rattle.way_theory.specs.WayFlow.{flow_of, way_of}
use Rattle.way_theory.proofs.FullWays.{full_way}
use Rattle.way_theory.proofs.WayBack.{way_back}
use Rattle.way_theory.proofs.Matched.{way_cost_lem, flow_back}
use Rattle.way_theory.proofs.LineByLine.{first_matched, after_matched}
use Rattle.way_enumerate.specs.WayEnumerator.{way_item_cost}

-- the member after another
after_member : (v : List ℕ) (l : List (List ℕ)) (w : List ℕ) → after same_list (λ x. x) v l ≡ some w → w ∈ l
after_member v [] w e = absurd (none_some w e)
after_member v (u ∷ l) w e = inr (step (same_list u v) e (after_member v l w))
  where
    step : {P : Type 0} (t : Dec P) → after_if t l (after same_list (λ x. x) v l) ≡ some w → (after same_list (λ x. x) v l ≡ some w → w ∈ l) → w ∈ l
    step (yes p) q deep = first_member l w q
    step (no p) q deep = deep q

module _ (b : Book) where
  -- ways there and back
  back : (o : Option (List ℕ)) → ((w : List ℕ) → o ≡ some w → w ∈ full_ways b) → map_option (way_of b) (map_option (flow_of b) o) ≡ o
  back none h = refl
  back (some w) h = ap some (way_back b w ((full_way b w).0 (h w refl)).way)

  pub first_read : map_option (way_of b) (first_flow (book_net b)) ≡ first_way b
  first_read = ap (map_option (way_of b)) (first_matched b) ∙ back (first_way b) (first_member (full_ways b))

  -- an item is the flow of the way that is read off it
  module _ (f : List ℕ) (least : LeastCost (book_net b) f) where
    pub next_read : map_option (way_of b) (next_flow (book_net b) f) ≡ next_way b (way_of b f)
    next_read =
        let (way, is) = flow_back b f least.flow in
        ap (λ g. map_option (way_of b) (next_flow (book_net b) g)) (sym is)
        ∙ ap (map_option (way_of b)) (after_matched b (way_of b f) way)
        ∙ back (next_way b (way_of b f)) (after_member (way_of b f) (full_ways b))

    pub cost_read : cost_of (book_net b) f ≡ way_item_cost b (some (way_of b f))
    cost_read = let (way, is) = flow_back b f least.flow in ap (cost_of (book_net b)) (sym is) ∙ way_cost_lem b (way_of b f) way
