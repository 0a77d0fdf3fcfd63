-- Demand 3 of a network: its calls are read from its full list.
use mathlib.Core.Path.{◌≡◌, refl, ap, ◌∙◌}
use mathlib.Core.List.{List}
use mathlib.Core.Option.{none}
use Prim.Native.Nat.{ℕ, ◌*◌}
use lib.ListN.{take}
use Rattle.laws.specs.After.{Apart}
use Rattle.laws.specs.Run.{Readable}
use Rattle.bytes_read.specs.Words.{encode_words}
use Rattle.net_model.specs.Network.{arcs}
use Rattle.net_model.specs.FullList.{full_list}
use Rattle.net_questions.specs.Questions.{network_refusal}
use Rattle.net_questions.proofs.Accepted.{accepted_net}
use Rattle.call_flow_bytes.specs.NetworkBytes.{net}
use Rattle.call_network.specs.NetworkCalls.{NetCall, lends, network_lent, room_for, network_question}
use Rattle.call_network.specs.NetworkRules.{network_rules}
use Rattle.call_reply.proofs.Items.{FullOf, member_listed, items_apart, copy_written}
use Rattle.call_flow_bytes.proofs.FlowItems.{full_flows}
use Rattle.call_reply.proofs.Turns.{first_passed, strange_refused}

module _ (bs xs : List ℕ) where
  -- a call that is answered is one of an accepted network
  pub accepts : (c : NetCall) → network_question bs xs c ≡ 0 → network_refusal bs xs ≡ 0
  accepts c e = first_passed (network_refusal bs xs) _ e

  pub full : network_refusal bs xs ≡ 0 → FullOf (arcs (net bs xs)) (full_list (net bs xs))
  full ok = full_flows (net bs xs) (accepted_net bs xs ok)

  pub flows_apart : network_refusal bs xs ≡ 0 → Apart encode_words (full_list (net bs xs))
  flows_apart ok = items_apart (arcs (net bs xs)) (full_list (net bs xs)) (full ok)

  pub network_readable : Readable (network_rules bs xs)
  network_readable = record {
    apart = λ c e. flows_apart (accepts c e);
    strange = λ g b h. strange_refused (network_refusal bs xs) (room_for (net bs xs) (lends b none)) 6 7 (full_list (net bs xs)) g h;
    starts = λ l h. rw (h.0, h.1);
    goes_on = λ v b m h. rw (h.0, h.1, member_listed (encode_words v) v (full_list (net bs xs)) m refl);
    takes = λ c v l e m w. (let n = arcs (net bs xs) in ap (take (4 * n)) w.flows_are ∙ copy_written n v (network_lent c).flows ((full (accepts c e)).long v m));
  }
