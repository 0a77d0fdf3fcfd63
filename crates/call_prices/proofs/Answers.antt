-- From the steps of the call to what it ensures.
use mathlib.Core.Path.{◌≡◌, refl, ap, subst, ◌∙◌}
use mathlib.Core.Bool.{true, false}
use mathlib.Core.List.{List}
use mathlib.Core.Option.{Option, some}
use Prim.Native.Nat.{ℕ}
use lib.ListN.{length}
use lib.IntN.{ℤ}
use Rattle.bytes_read.specs.Words.{words}
use Rattle.net_model.specs.Network.{Net, cost_of}
use Rattle.net_model.specs.FullList.{full_list}
use Rattle.net_model.specs.Accepted.{AcceptedNet}
use Rattle.net_model.specs.Struct.{net_in}
use Rattle.net_model.specs.declared.Network.{Network}
use Rattle.net_questions.proofs.Accepted.{accepted_net}
use Rattle.flow_enumerate.specs.Enumerator.{item_cost}
use Rattle.call_reply.specs.ByteLists.{room, listed}
use Rattle.call_flow_bytes.specs.NetworkBytes.{net}
use Rattle.call_flow_bytes.specs.FlowSteps.{StandsFor, PricesOut}
use Rattle.call_flow_bytes.proofs.FlowItems.{listed_flow}
use Rattle.call_flow_bytes.proofs.Admitting.{prices_room_is}
use Rattle.call_prices.specs.PriceCall.{prices_question, NetworkPrices}
use Rattle.call_prices.proofs.CommonPrices.{wrote_common}

module _ (bs xs g ps : List ℕ) where
  module _ (s : Network) (stands : StandsFor bs xs s) where
    module _ (fits : room s.nodes (length ps) ≡ true) where
      -- a list given that is no item
      pub strange : listed g (full_list (net_in s)) ≡ false → prices_question bs xs g (length ps) ≡ 8
      strange e = rw (stands.ok, prices_room_is bs xs s stands true (length ps) fits, subst (λ M. listed g (full_list M) ≡ false) stands.is e) refl

      -- N and o are the network and the item of the enumerator, c its cost
      pub answers : (N : Net) (o : Option (List ℕ)) → N ≡ net bs xs → listed g (full_list (net bs xs)) ≡ true → o ≡ some (words g) → (c : ℤ) → c ≡ item_cost N o → (ps' : List ℕ)
          → PricesOut N o (some ps) (some ps') → NetworkPrices bs xs g ps (record { code = 0; line = 0; value = c }) ps'
      answers N o same e q c k ps' P = record {
        reply_is = rw passed (ap (λ z. record { code = 0; line = 0; value = z }) (k ∙ ap (item_cost N) q ∙ ap (λ M. cost_of M (words g)) same));
        prices_are = λ _. wrote_common (net bs xs) ok (words g) (listed_flow (net bs xs) ok g e).1 ps ps' (subst (λ M. PricesOut M (some (words g)) (some ps) (some ps')) same (subst (λ x. PricesOut N x (some ps) (some ps')) q P));
        unchanged = λ z. absurd (z passed);
      }
        where
          passed : prices_question bs xs g (length ps) ≡ 0
          passed = rw (stands.ok, prices_room_is bs xs s stands true (length ps) fits, e) refl

          ok : AcceptedNet (net bs xs)
          ok = accepted_net bs xs stands.ok
