-- Demand 2 of a network: "The first flow is the first least-cost flow in that order", and "none" exactly where there is no flow.
use mathlib.Core.Path.{◌≡◌, refl}
use mathlib.Core.List.{List}
use mathlib.Core.Logic.{◌⊎◌, inl, inr, ◌↔◌}
use mathlib.Core.Option.{Option, none, some}
use Prim.Native.Nat.{ℕ}
use Rattle.laws.specs.Lexicographic.{◌<lex◌}
use Rattle.laws.specs.Rules.{first}
use Rattle.laws.specs.Seen.{nothing, Seen, Shows}
use Rattle.laws.specs.Run.{shown, Answers}
use Rattle.net_model.specs.Network.{IsFlow, LeastCost}
use Rattle.net_model.specs.FullList.{full_list, first_flow}
use Rattle.net_model.proofs.FullList.{full_member, full_ascending, none_iff}
use Rattle.net_questions.specs.Questions.{network_refusal}
use Rattle.net_questions.proofs.Accepted.{accepted_net}
use Rattle.call_flow_bytes.specs.NetworkBytes.{net}
use Rattle.call_network.specs.NetworkCalls.{Lent, network_question}
use Rattle.call_network.specs.FirstFlow.{FindsFlow, FindsNoFlow}
use Rattle.call_network.specs.NetworkRules.{network_rules}
use Rattle.call_reply.proofs.Items.{first_least, first_none}
use Rattle.call_network.proofs.NetworkRun.{accepts}

module _ (bs xs : List ℕ) (ok : network_refusal bs xs ≡ 0) where
  pub first_is_least : (f : List ℕ) → first_flow (net bs xs) ≡ some f → LeastCost (net bs xs) f × ((g : List ℕ) → LeastCost (net bs xs) g → ¬ (g <lex f))
  first_is_least f e =
      let N = net bs xs in
      let w = (accepted_net bs xs ok).well_formed in
      let (m, before) = first_least (full_list N) f e (full_ascending N w) in
      ((full_member N w f).0 m, λ g l. before g ((full_member N w g).1 l))

  pub none_exactly : (first_flow (net bs xs) ≡ none) ↔ ((g : List ℕ) → ¬ IsFlow (net bs xs) g)
  none_exactly =
      let N = net bs xs in
      let n = none_iff N (accepted_net bs xs ok).well_formed in
      (λ e. n.0 ((first_none (full_list N)).0 e), λ f. (first_none (full_list N)).1 (n.1 f))

-- of every call of `first` that passes the questions, by what its entry ensures
pub first_finds : (bs xs : List ℕ) (l : Lent) (s : Seen Lent) → network_question bs xs (first l) ≡ 0 → Answers (network_rules bs xs) (first l) s → FindsFlow bs xs l s ⊎ FindsNoFlow bs xs l s
first_finds bs xs l s e h = go (first_flow (net bs xs)) refl
  where
    ok : network_refusal bs xs ≡ 0
    ok = accepts bs xs (first l) e

    shown_is : Shows (network_rules bs xs) (first l) (shown (first_flow (net bs xs)) nothing) s
    shown_is = rw e at h

    go : (o : Option (List ℕ)) → first_flow (net bs xs) ≡ o → FindsFlow bs xs l s ⊎ FindsNoFlow bs xs l s
    go none q = inr (record { no_flow = (none_exactly bs xs ok).0 q; shows = rw q at shown_is })
    go (some f) q =
        let (least, before) = first_is_least bs xs ok f q in
        inl (record { flow = f; least_cost = least; first_of_all = before; shows = rw q at shown_is })
