-- From the steps of an entry to what it ensures.
use Rattle.net_model.specs.Struct.{net_in}
use Rattle.laws.specs.Count.{counted}
use mathlib.Core.Path.{◌≡◌, refl, sym, subst, ap, ◌∙◌}
use mathlib.Core.Bool.{Bool, true, false}
use mathlib.Core.List.{List}
use mathlib.Core.Option.{Option, none, some}
use Prim.Native.Nat.{ℕ, zero, suc}
use lib.ListN.{length}
use Rattle.laws.specs.Tests.{ask}
use Rattle.laws.specs.Rules.{first, next}
use Rattle.laws.specs.Seen.{end, code_of, Shows}
use Rattle.laws.specs.Run.{shown, respond, Answers}
use Rattle.bytes_read.specs.Words.{words}
use Rattle.net_model.specs.Network.{Net, arcs, cost_of}
use Rattle.net_model.specs.FullList.{full_list, next_flow, count_flows}
use Rattle.net_model.specs.declared.Network.{Network}
use Rattle.net_questions.specs.Questions.{network_refusal}
use Rattle.net_questions.proofs.Accepted.{accepted_net}
use Rattle.call_flow_bytes.specs.declared.FlowRefusal.{FlowRefusal}
use Rattle.call_flow_bytes.specs.Refusals.{number_of}
use Rattle.call_reply.specs.declared.Reply.{Reply}
use Rattle.call_reply.specs.Replies.{or_else, sees, HandsItem, count_reply, count_unless}
use Rattle.call_reply.specs.ByteLists.{room, listed}
use Rattle.call_network.specs.NetworkCalls.{NetCall, lends, network_lent, network_question}
use Rattle.call_network.specs.NetworkRules.{network_rules}
use Rattle.call_flow_bytes.specs.NetworkBytes.{net}
use Rattle.call_flow_bytes.specs.FlowSteps.{StandsFor, admit_question, PricesOut}
use Rattle.call_reply.proofs.Turns.{no_item_word}
use Rattle.call_reply.proofs.Items.{after_given}
use Rattle.call_flow_bytes.proofs.FlowItems.{full_flows}
use Rattle.call_flow_bytes.proofs.Admitting.{refuses, room_is}

unpriced : (N : Net) (o : Option (List ℕ)) → PricesOut N o none none
unpriced N none = refl
unpriced N (some f) = refl

module _ (bs xs : List ℕ) where
  -- what was handed out shows the item, or the word
  handed : (c : NetCall) (o : Option (List ℕ)) (r : Reply) (fs' : List ℕ) (ps' : Option (List ℕ)) → HandsItem (cost_of (net bs xs)) o (code_of (no_item_word c)) (network_lent c).flows r fs'
      → PricesOut (net bs xs) o (network_lent c).prices ps' → Shows (network_rules bs xs) c (shown o (no_item_word c)) (sees r (lends fs' ps'))
  handed (first l) none r fs' ps' h k = rw (h.reply_is, h.list_is, k) (record { number_is = refl; told_is = refl; cost_is = refl; lists_are = refl })
  handed (next g fs) none r fs' ps' h k = rw (h.reply_is, h.list_is, k) (record { number_is = refl; told_is = refl; cost_is = refl; lists_are = refl })
  handed (first l) (some f) r fs' ps' h k = rw h.reply_is (record { number_is = refl; told_is = refl; cost_is = refl; lists_are = record { flows_are = h.list_is; prices_are = k } })
  handed (next g fs) (some f) r fs' ps' h k = rw h.reply_is (record { number_is = refl; told_is = refl; cost_is = refl; lists_are = record { flows_are = h.list_is; prices_are = k } })

  -- one of questions 1 to 7 of the lists but that of the prices fails
  pub admit_fails : (c : NetCall) (refusal : FlowRefusal) → admit_question bs xs (length (network_lent c).flows) ≡ number_of refusal → network_question bs xs c ≡ number_of refusal
  admit_fails c refusal e = go (network_refusal bs xs) (room (arcs (net bs xs)) (length (network_lent c).flows)) refl refl e
    where
      go : (k : ℕ) (t : Bool) → network_refusal bs xs ≡ k → room (arcs (net bs xs)) (length (network_lent c).flows) ≡ t → or_else k (ask t 7 0) ≡ number_of refusal
          → network_question bs xs c ≡ number_of refusal
      go (suc k) t e f g = rw e g
      go zero true e f g = absurd (refuses refusal (sym g))
      go zero false e f g = rw (e, f) g

  -- past them
  module _ (s : Network) (stands : StandsFor bs xs s) where
    module _ (fs : List ℕ) (fits : room s.arcs (length fs) ≡ true) where
      pub answers_next : (g : List ℕ) (N : Net) (o : Option (List ℕ)) → N ≡ net bs xs → listed g (full_list (net bs xs)) ≡ true → o ≡ next_flow (net bs xs) (words g)
          → (r : Reply) (fs' : List ℕ) → HandsItem (cost_of N) o 101 fs r fs' → Answers (network_rules bs xs) (next g fs) (sees r (lends fs' none))
      answers_next g N o same e item_is r fs' h =
          let after_is = after_given (arcs (net bs xs)) (full_list (net bs xs)) (full_flows (net bs xs) (accepted_net bs xs stands.ok)) g e in
          let says : respond (network_rules bs xs) (next g fs) ≡ shown o end = rw (stands.ok, room_is bs xs s stands true (length fs) fits, e, after_is, ← item_is) refl in
          subst (λ a. Shows (network_rules bs xs) (next g fs) a (sees r (lends fs' none))) (sym says)
          (handed (next g fs) o r fs' none (subst (λ M. HandsItem (cost_of M) o 101 fs r fs') same h) (unpriced (net bs xs) o))

pub counts : (bs xs : List ℕ) (s : Network) → StandsFor bs xs s → (cap n : ℕ) → counted cap n ≡ count_flows (net_in s) cap
    → count_reply (counted cap n) ≡ count_unless (network_refusal bs xs) 0 (count_flows (net bs xs) cap)
counts bs xs s stands cap n is = rw stands.ok (ap count_reply (is ∙ ap (λ M. count_flows M cap) stands.is))
