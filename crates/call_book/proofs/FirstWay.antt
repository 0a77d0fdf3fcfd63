-- Demand 2 of a book: the first way is the first least-cost way in the order of ways, and "none" exactly where there is no way.
use mathlib.Core.Path.{◌≡◌, refl, sym, ap, ◌∙◌}
use mathlib.Core.List.{List, [], ◌∷◌, map}
use mathlib.Core.Logic.{◌⊎◌, inl, inr, ◌↔◌}
use mathlib.Core.Option.{Option, none, some}
use Prim.Native.Nat.{ℕ}
use Rattle.laws.specs.Lexicographic.{◌<lex◌}
use Rattle.laws.specs.Members.{first?}
use Rattle.laws.specs.Rules.{first}
use Rattle.laws.specs.Seen.{nothing, Seen, Shows}
use Rattle.laws.specs.Run.{shown, Answers}
use Rattle.book_form.specs.Book.{Book, parse}
use Rattle.way_network.proofs.Made.{held}
use Rattle.way_theory.specs.Ways.{IsWay, LeastCostWay}
use Rattle.way_theory.specs.FullWays.{full_ways, first_way}
use Rattle.way_theory.specs.BookNet.{book_net}
use Rattle.way_theory.specs.WayFlow.{flow_of}
use Rattle.way_theory.proofs.FullWays.{full_way, full_ways_ascending}
use Rattle.way_theory.proofs.Arcs.{well_formed}
use Rattle.way_theory.proofs.Matched.{way_flow}
use Rattle.way_theory.proofs.LineByLine.{matched}
use Rattle.net_model.proofs.FullList.{none_iff}
use Rattle.way_theory.specs.BookBytes.{ways_in, ways}
use Rattle.call_book.specs.BookCalls.{book_question}
use Rattle.call_book.specs.BookRules.{book_rules}
use Rattle.call_book.specs.FirstWay.{FindsWay, FindsNoWay}
use Rattle.call_reply.proofs.Items.{first_least, first_none}
use Rattle.call_book.proofs.BookRun.{accepts}

module _ (b : Book) where
  pub first_way_least : (w : List ℕ) → first_way b ≡ some w → LeastCostWay b w × ((x : List ℕ) → LeastCostWay b x → ¬ (x <lex w))
  first_way_least w e =
      let (m, before) = first_least (full_ways b) w e (full_ways_ascending b) in
      ((full_way b w).0 m, λ x l. before x ((full_way b x).1 l))

  pub no_way_exactly : (first_way b ≡ none) ↔ ((w : List ℕ) → ¬ IsWay b w)
  no_way_exactly = (
    λ e w h. (none_iff (book_net b) (well_formed b)).0 (sym (matched b) ∙ ap (map (flow_of b)) ((first_none (full_ways b)).0 e)) (flow_of b w) (way_flow b w h),
    λ f. (first_none (full_ways b)).1 (empty (full_ways b) refl f),
  )
    where
      empty : (l : List (List ℕ)) → full_ways b ≡ l → ((w : List ℕ) → ¬ IsWay b w) → l ≡ []
      empty [] e f = refl
      empty (w ∷ l) e f = absurd (f w ((full_way b w).0 (rw e (inl refl))).way)

-- of every call of `first` that passes the questions, by what its entry ensures
pub first_finds_way : (s l : List ℕ) (t : Seen (List ℕ)) → book_question s (first l) ≡ 0 → Answers (book_rules s) (first l) t → FindsWay s l t ⊎ FindsNoWay s l t
first_finds_way s l t e h = let (b, c, p, k, m) = held s (accepts s (first l) e) in go b p (first_way b) refl
  where
    shown_is : Shows (book_rules s) (first l) (shown (first? (ways s)) nothing) t
    shown_is = rw e at h

    go : (b : Book) → parse s ≡ some b → (o : Option (List ℕ)) → first_way b ≡ o → FindsWay s l t ⊎ FindsNoWay s l t
    go b p none q = inr (record { book = b; holds = p; no_way = (no_way_exactly b).0 q; shows = rw (ap (λ x. first? (ways_in x)) p ∙ q) at shown_is })
    go b p (some w) q =
        let (least, before) = first_way_least b w q in
        inl (record { book = b; holds = p; way = w; least_cost = least; first_of_all = before; shows = rw (ap (λ x. first? (ways_in x)) p ∙ q) at shown_is })
