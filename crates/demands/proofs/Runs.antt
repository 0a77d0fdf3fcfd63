-- Demands 2 and 3 of each call, from what the entries promise.
use mathlib.Core.Path.{◌≡◌, sym, ap, ◌∙◌}
use mathlib.Core.List.{List, [], ◌∷◌, ◌++◌}
use Prim.Native.Nat.{ℕ}
use Rattle.laws.specs.Rules.{Call, first, next, Rules}
use Rattle.laws.specs.Seen.{Seen}
use Rattle.laws.specs.Run.{Answers, Run, Kept, Readable, run_is_read}
use Rattle.laws.specs.Listing.{complete_shows_all}
use Rattle.laws.specs.Count.{count_is}
use Rattle.net_model.specs.FullList.{count_flows}
use Rattle.net_questions.specs.Questions.{network_refusal}
use Rattle.call_reply.specs.declared.Reply.{Reply}
use Rattle.call_reply.specs.Replies.{count_reply, count_unless}
use Rattle.call_flow_bytes.specs.NetworkBytes.{net}
use Rattle.call_network.specs.NetworkCalls.{Lent}
use Rattle.call_network.specs.NetworkRules.{no_line, network_rules}
use Rattle.call_network.specs.NetworkEntries.{NetworkCount}
use Rattle.call_network.proofs.NetworkRun.{flows_apart, network_readable}
use Rattle.call_network.proofs.FirstFlow.{first_finds}
use Rattle.book_form.specs.Questions.{book_refusal}
use Rattle.book_form.specs.LineTold.{line_told}
use Rattle.call_book.specs.BookCalls.{count_ways_in}
use Rattle.call_book.specs.BookRules.{book_rules}
use Rattle.call_book.specs.BookEntries.{BookCount}
use Rattle.call_book.proofs.BookRun.{ways_apart, book_readable}
use Rattle.call_book.proofs.FirstWay.{first_finds_way}
use Rattle.demands.specs.Demands.{Demand3, FirstFlowDemands, FirstPricesDemands, NextFlowDemands, CountFlowsDemands, FirstWayDemands, NextWayDemands, CountWaysDemands}
use Rattle.demands.proofs.Refusals.{demand_1, count_1}
use Rattle.demands.proofs.Prices.{first_prices}

-- a run of calls that keep their contracts, with one more
module _ {Item F G N Lists : Type 0} (R : Rules Item F G N Lists) (e : Call F G N × Seen Lists) (h : Answers R e.0 e.1) where
  one_more : (r : Run R) → Kept R r → Kept R (r ++ (e ∷ []))
  one_more [] k = (h, tt)
  one_more (a ∷ r) k = (k.0, one_more r k.1)

  demand_3 : Readable R → Demand3 R e
  demand_3 readable = record {
    kept = one_more;
    read = λ r k g. run_is_read R readable (r ++ (e ∷ [])) g (one_more r k);
    lists = λ r k w. complete_shows_all R readable (r ++ (e ∷ [])) w (one_more r k);
  }

module _ (bs xs : List ℕ) where
  pub first_flow_demands : (l : Lent) (s : Seen Lent) → Answers (network_rules bs xs) (first l) s → FirstFlowDemands bs xs l s
  first_flow_demands l s h = record {
    demand1 = demand_1 (network_rules bs xs) (first l) s h;
    demand2 = λ z. first_finds bs xs l s z h;
    demand3 = demand_3 (network_rules bs xs) (first l, s) h (network_readable bs xs);
  }

  pub first_prices_demands : (l : Lent) (s : Seen Lent) → Answers (network_rules bs xs) (first l) s → FirstPricesDemands bs xs l s
  first_prices_demands l s h = record { prices = first_prices bs xs l s (demand_1 (network_rules bs xs) (first l) s h) (λ z. first_finds bs xs l s z h) }

  pub next_flow_demands : (g fs : List ℕ) (s : Seen Lent) → Answers (network_rules bs xs) (next g fs) s → NextFlowDemands bs xs g fs s
  next_flow_demands g fs s h = record {
    demand1 = demand_1 (network_rules bs xs) (next g fs) s h;
    demand3 = demand_3 (network_rules bs xs) (next g fs, s) h (network_readable bs xs);
  }

  pub count_flows_demands : (cap : ℕ) (r : Reply) → NetworkCount bs xs cap r → CountFlowsDemands bs xs cap r
  count_flows_demands cap r h =
      let k = count_flows (net bs xs) cap in
      let passed : network_refusal bs xs ≡ 0 → r ≡ count_reply k = λ ok. h ∙ ap (λ n. count_unless n 0 k) ok in
      record {
        demand1 = count_1 no_line r (network_refusal bs xs) k h;
        exact = passed;
        handed_out = λ ok. passed ok ∙ ap count_reply (sym (count_is (network_rules bs xs) (flows_apart bs xs ok) cap));
      }

module _ (s : List ℕ) where
  pub first_way_demands : (l : List ℕ) (t : Seen (List ℕ)) → Answers (book_rules s) (first l) t → FirstWayDemands s l t
  first_way_demands l t h = record {
    demand1 = demand_1 (book_rules s) (first l) t h;
    demand2 = λ z. first_finds_way s l t z h;
    demand3 = demand_3 (book_rules s) (first l, t) h (book_readable s);
  }

  pub next_way_demands : (g l : List ℕ) (t : Seen (List ℕ)) → Answers (book_rules s) (next g l) t → NextWayDemands s g l t
  next_way_demands g l t h = record {
    demand1 = demand_1 (book_rules s) (next g l) t h;
    demand3 = demand_3 (book_rules s) (next g l, t) h (book_readable s);
  }

  pub count_ways_demands : (cap : ℕ) (r : Reply) → BookCount s cap r → CountWaysDemands s cap r
  count_ways_demands cap r h =
      let k = count_ways_in s cap in
      let passed : book_refusal s ≡ 0 → r ≡ count_reply k = λ ok. h ∙ ap (λ n. count_unless n (line_told s n) k) ok in
      record {
        demand1 = count_1 (line_told s) r (book_refusal s) k h;
        exact = passed;
        handed_out = λ ok. passed ok ∙ ap count_reply (sym (count_is (book_rules s) (ways_apart s ok) cap));
      }
