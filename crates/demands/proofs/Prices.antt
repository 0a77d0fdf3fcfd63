-- What is asked of prices, from what the entries promise.
use mathlib.Core.Path.{◌≡◌, refl, sym, ap, subst, ◌∙◌}
use mathlib.Core.Bool.{Bool, true, false}
use mathlib.Core.List.{List, map}
use mathlib.Core.Logic.{◌⊎◌, inl, inr}
use mathlib.Core.Option.{some}
use Prim.Native.Nat.{ℕ, zero, suc, ◌*◌}
use native.Mathlib.Omega.{arith}
use native.Mathlib.Decide.{ℕ_discrete}
use lib.IntN.{ℤ}
use lib.ListN.{length, take, length-map}
use Rattle.laws.specs.Tests.{ask}
use Rattle.laws.specs.Rules.{first}
use Rattle.laws.specs.Seen.{Seen}
use Rattle.bytes_read.specs.Words.{unsigned, words, encode_ints, over}
use Rattle.net_model.specs.Network.{nodes}
use Rattle.net_model.specs.FullList.{full_list}
use Rattle.net_questions.specs.Questions.{network_refusal}
use Rattle.net_questions.proofs.Accepted.{accepted_net}
use Rattle.flow_enumerate.proofs.Steps.{same_cost}
use Rattle.call_reply.specs.declared.Reply.{Reply}
use Rattle.call_reply.specs.Replies.{or_else, sees}
use Rattle.call_reply.specs.ByteLists.{room, listed}
use Rattle.call_reply.proofs.Items.{copy_written}
use Rattle.call_reply.proofs.Turns.{first_passed, all_passed}
use Rattle.call_flow_bytes.specs.NetworkBytes.{net}
use Rattle.call_flow_bytes.specs.Prices.{PricesAfter}
use Rattle.call_flow_bytes.proofs.FlowItems.{listed_flow}
use Rattle.call_network.specs.NetworkCalls.{Lent, room_for, network_question}
use Rattle.call_network.specs.NetworkRules.{no_line}
use Rattle.call_network.specs.FirstFlow.{FindsFlow, FindsNoFlow}
use Rattle.call_network.proofs.NetworkRun.{accepts}
use Rattle.call_prices.specs.PriceCall.{prices_question, WroteCommonPrices, NetworkPrices}
use Rattle.call_prices.proofs.CommonPrices.{wrote_common, prices_once}
use Rattle.demands.specs.Demands.{Demand1, FirstFlowDemands, FirstPricesDemands, FlowPriced, PricesDemands, PricesAgreeDemands}
use Rattle.demands.proofs.Refusals.{says_value, reply_1}

-- a call that is not refused passes the questions
passed : {Lists : Type 0} (n : ℕ) (l : Lists) (s : Seen Lists) → Demand1 no_line n l s → s.number ≡ 0 → n ≡ 0
passed n l s d z = go (ℕ_discrete n 0)
  where
    go : Dec (n ≡ 0) → n ≡ 0
    go (yes e) = e
    go (no e) = absurd (e (sym (d.number_told e).0 ∙ z))

module _ (bs xs : List ℕ) where
  -- `first`: the flow that it found, if it did
  found : (l : Lent) (s : Seen Lent) → Demand1 no_line (network_question bs xs (first l)) l s
      → (network_question bs xs (first l) ≡ 0 → FindsFlow bs xs l s ⊎ FindsNoFlow bs xs l s) → s.number ≡ 0 → (network_refusal bs xs ≡ 0) × FindsFlow bs xs l s
  found l s d f z = go (f q)
    where
      q : network_question bs xs (first l) ≡ 0
      q = passed (network_question bs xs (first l)) l s d z

      go : FindsFlow bs xs l s ⊎ FindsNoFlow bs xs l s → (network_refusal bs xs ≡ 0) × FindsFlow bs xs l s
      go (inl F) = (accepts bs xs (first l) q, F)
      go (inr F) = absurd (omega (arith, z, F.shows.number_is))

  -- its prices are those of every least-cost flow
  pub first_prices : (l : Lent) (s : Seen Lent) → Demand1 no_line (network_question bs xs (first l)) l s
      → (network_question bs xs (first l) ≡ 0 → FindsFlow bs xs l s ⊎ FindsNoFlow bs xs l s)
      → s.number ≡ 0 → (before after : List ℕ) → l.prices ≡ some before → s.lists.prices ≡ some after → WroteCommonPrices (net bs xs) before after
  first_prices l s d f z before after b a =
      let (ok, F) = found l s d f z in
      wrote_common (net bs xs) (accepted_net bs xs ok) F.flow F.least_cost before after
      (subst (λ o. PricesAfter (net bs xs) F.flow (some before) o) a (subst (λ o. PricesAfter (net bs xs) F.flow o s.lists.prices) b F.shows.lists_are.prices_are))

  -- the prices of a flow given
  module _ (g ps : List ℕ) (r : Reply) (ps' : List ℕ) (h : NetworkPrices bs xs g ps r ps') where
    refused : Demand1 no_line (prices_question bs xs g (length ps)) ps (sees r ps')
    refused = reply_1 no_line ps ps' (prices_question bs xs g (length ps)) _ r (says_value no_line ps ps' _) h.unchanged h.reply_is

    asked : r.code ≡ 0 → prices_question bs xs g (length ps) ≡ 0
    asked z = passed (prices_question bs xs g (length ps)) ps (sees r ps') refused z

    pub prices_demands : PricesDemands bs xs g ps r ps'
    prices_demands = record {
      demand1 = refused;
      priced = priced;
      judged_as_next = λ fs m n. rw (m, n) refl;
    }
      where
        priced : r.code ≡ 0 → FlowPriced bs xs g ps r ps'
        priced z =
            let q = asked z in
            let N = net bs xs in
            let ok = accepted_net bs xs (first_passed (network_refusal bs xs) _ q) in
            record {
              least_cost = (listed_flow N ok g (given_listed (network_refusal bs xs) (room (nodes N) (length ps)) (listed g (full_list N)) q)).1;
              value_is = ap (λ (x : Reply). x.value) h.reply_is ∙ rw q refl;
              prices_are = h.prices_are q;
            }
          where
            given_listed : (n : ℕ) (a b : Bool) → or_else n (ask a 7 (ask b 8 0)) ≡ 0 → b ≡ true
            given_listed zero true b e = all_passed 0 7 b e
            given_listed zero false b e = absurd (omega arith)
            given_listed (suc n) a b e = absurd (omega arith)

    -- after the first flow with its prices
    module _ (l : Lent) (s : Seen Lent) (d : FirstFlowDemands bs xs l s) (e : FirstPricesDemands bs xs l s) where
      pub prices_agree : PricesAgreeDemands bs xs g l s ps r ps'
      prices_agree = record {
        first_demands = d;
        first_prices_demands = e;
        prices_demands = prices_demands;
        same_prices = λ z c before after b a. same (prices_demands.priced c) before after (e.prices z before after b a);
        same_cost = λ z c. (let (ok, F) = found l s d.demand1 d.demand2 z in
            let p = prices_demands.priced c in
            p.value_is ∙ same_cost (net bs xs) (words g) F.flow p.least_cost F.least_cost ∙ sym F.shows.cost_is);
        some_flow = none_found;
      }
        where
          copied : (before after : List ℕ) (qs : List ℤ) → length qs ≡ nodes (net bs xs) → after ≡ over (encode_ints qs) before → take (4 * nodes (net bs xs)) after ≡ encode_ints qs
          copied before after qs e w = ap (take (4 * nodes (net bs xs))) w ∙ copy_written (nodes (net bs xs)) (map unsigned qs) before (length-map qs unsigned ∙ e)

          same : FlowPriced bs xs g ps r ps' → (before after : List ℕ) → WroteCommonPrices (net bs xs) before after
              → take (4 * nodes (net bs xs)) ps' ≡ take (4 * nodes (net bs xs)) after
          same p before after (qs, Q, w) = by p.prices_are
            where
              by : WroteCommonPrices (net bs xs) ps ps' → take (4 * nodes (net bs xs)) ps' ≡ take (4 * nodes (net bs xs)) after
              by (rs, R, v) =
                  let A = R.of_each (words g) p.least_cost in
                  let B = Q.of_each (words g) p.least_cost in
                  copied ps ps' rs A.all_nodes v ∙ ap encode_ints (prices_once (net bs xs) (words g) rs qs A B) ∙ sym (copied before after qs B.all_nodes w)

          -- an accepted network with a flow: in lists that are long enough the first is found
          none_found : r.code ≡ 0 → ¬ (s.number ≡ 100)
          none_found c n = go (room_for (net bs xs) l) refl
            where
              ok : network_refusal bs xs ≡ 0
              ok = first_passed (network_refusal bs xs) _ (asked c)

              no_none : FindsFlow bs xs l s ⊎ FindsNoFlow bs xs l s → ⊥
              no_none (inl F) = omega (arith, n, F.shows.number_is)
              no_none (inr F) = F.no_flow (words g) (prices_demands.priced c).least_cost.flow

              go : (t : Bool) → room_for (net bs xs) l ≡ t → ⊥
              go true e = no_none (d.demand2 (rw (ok, e) refl))
              go false e =
                  let k : network_question bs xs (first l) ≡ 7 = rw (ok, e) refl in
                  omega (arith, n, k, (d.demand1.number_told (λ z. omega (arith, k, z))).0)
