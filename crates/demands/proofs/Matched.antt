-- Demand 3: ways and flows match line by line, from the bytes of a book.
use mathlib.Core.Path.{◌≡◌, ap, sym, ◌∙◌}
use mathlib.Core.List.{List}
use Prim.Native.Nat.{ℕ}
use lib.ListN.{get_elem?}
use lib.IntN.{pos}
use Rattle.laws.specs.Members.{at_member}
use Rattle.laws.specs.Image.{map_option}
use Rattle.book_form.specs.Questions.{book_refusal}
use Rattle.way_network.proofs.Made.{held}
use Rattle.way_theory.specs.WayFlow.{flow_of}
use Rattle.way_theory.specs.FullWays.{full_ways}
use Rattle.way_theory.specs.BookBytes.{ways_in, way_cost_or_zero}
use Rattle.way_theory.proofs.Accepted.{accepted_net}
use Rattle.way_theory.proofs.FullWays.{full_way}
use Rattle.way_theory.proofs.Matched.{way_cost_lem}
use Rattle.way_theory.proofs.LineByLine.{line_matched}
use Rattle.demands.specs.Demands.{MatchedItems}

pub book_matched : (s : List ℕ) → book_refusal s ≡ 0 → MatchedItems s
book_matched s ok =
    let (b, _, p, _, h) = held s ok in
    record {
      book = b;
      holds = p;
      accepted = accepted_net b h.limits;
      items = λ k. line_matched b k ∙ ap (λ o. map_option (flow_of b) (get_elem? (ways_in o) k)) (sym p);
      costs = λ k w e. way_cost_lem b w ((full_way b w).0 (at_member (full_ways b) k w (ap (λ o. get_elem? (ways_in o) k) (sym p) ∙ e))).way ∙ ap (λ o. pos (way_cost_or_zero o w)) (sym p);
    }
