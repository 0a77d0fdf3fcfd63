-- What each entry of a network promises, refused calls included: bs and xs are the balances and the arcs, fs and ps the lists lent for flows and
-- prices, g the list given, r the reply; a list with ' is as the call leaves it.
use Rattle.std.specs.Prelude.{◌≡◌, List, ℕ, Result, MatchResult}
use Rattle.std.proofs.Math.Option.{none, some}
use Rattle.laws.specs.Rules.{first, next}
use Rattle.laws.specs.Run.{Answers}
use Rattle.net_model.specs.FullList.{count_flows}
use Rattle.net_questions.specs.Questions.{network_refusal}
use Rattle.call_reply.specs.declared.Reply.{Reply}
use Rattle.call_reply.specs.Replies.{sees, count_unless}
use Rattle.call_flow_bytes.specs.NetworkBytes.{net}
use Rattle.call_flow_bytes.specs.Refusals.{number_of}
use Rattle.call_flow_bytes.specs.declared.FlowRefusal.{FlowRefusal}
use Rattle.call_network.specs.NetworkCalls.{Lent, NetCall, lends, network_lent, network_question}
use Rattle.call_network.specs.NetworkRules.{network_rules}

-- the first flow
abbrev pub NetworkFirst : (bs xs fs : List ℕ) → Reply → List ℕ → Type 0
NetworkFirst bs xs fs r fs' = Answers (network_rules bs xs) (first (lends fs none)) (sees r (lends fs' none))

-- the first flow, with its prices
abbrev pub NetworkFirstPriced : (bs xs fs ps : List ℕ) → Reply → List ℕ → List ℕ → Type 0
NetworkFirstPriced bs xs fs ps r fs' ps' = Answers (network_rules bs xs) (first (lends fs (some ps))) (sees r (lends fs' (some ps')))

-- the flow after the one given
abbrev pub NetworkNext : (bs xs g fs : List ℕ) → Reply → List ℕ → Type 0
NetworkNext bs xs g fs r fs' = Answers (network_rules bs xs) (next g fs) (sees r (lends fs' none))

-- how many flows there are, up to the cap
abbrev pub NetworkCount : (bs xs : List ℕ) → ℕ → Reply → Type 0
NetworkCount bs xs cap r = r ≡ count_unless (network_refusal bs xs) 0 (count_flows (net bs xs) cap)

-- a call before its refusals are replies: answered, or the question that it fails, with no lent list changed; l is the lists as the call leaves them
abbrev pub Answered : (bs xs : List ℕ) → NetCall → Lent → Result Reply FlowRefusal → Type 0
Answered bs xs c l r = MatchResult r (λ reply. Answers (network_rules bs xs) c (sees reply l)) (λ refusal. (network_question bs xs c ≡ number_of refusal) × (l ≡ network_lent c))
