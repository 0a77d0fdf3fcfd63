-- Document 02, request 9: the call of the prices of a network, given one of its least-cost flows. bs and xs are the balances and the arcs, g the flow
-- given, ps the list lent for the prices, r the reply; ps' is that list as the call leaves it.
use Rattle.std.specs.Prelude.{◌≡◌, List, ℕ, length, ℤ, Result, MatchResult}
use Rattle.laws.specs.Tests.{ask}
use Rattle.bytes_read.specs.Words.{words, encode_ints, over}
use Rattle.net_model.specs.Network.{Net, nodes, cost_of, LeastCost}
use Rattle.net_model.specs.FullList.{full_list}
use Rattle.net_questions.specs.Questions.{network_refusal}
use Rattle.call_reply.specs.declared.Reply.{Reply}
use Rattle.call_reply.specs.Replies.{or_else, reply_unless}
use Rattle.call_reply.specs.ByteLists.{room, listed}
use Rattle.call_flow_bytes.specs.NetworkBytes.{net}
use Rattle.call_flow_bytes.specs.Refusals.{number_of}
use Rattle.call_flow_bytes.specs.Prices.{Prices}
use Rattle.call_flow_bytes.specs.declared.FlowRefusal.{FlowRefusal}

-- "With a given flow the call is lent a list for n prices only, under question 7 .. What it accepts is judged as in question 8."
abbrev pub prices_question : List ℕ → List ℕ → List ℕ → ℕ → ℕ
prices_question bs xs g bytes =
    or_else (network_refusal bs xs)
    (ask (room (nodes (net bs xs)) bytes) 7
    (ask (listed g (full_list (net bs xs))) 8
    0))

-- "the prices, worked out from any least-cost flow of a network, are the same numbers": ps are the prices of every least-cost flow
pub record CommonPrices (N : Net) (ps : List ℤ) : Type 0 where
  pub of_each : (f : List ℕ) → LeastCost N f → Prices N f ps

-- "prices the first n; all else keeps what it held"
abbrev pub WroteCommonPrices : Net → List ℕ → List ℕ → Type 0
WroteCommonPrices N before after = (ps : List ℤ) × CommonPrices N ps × (after ≡ over (encode_ints ps) before)

-- "and gives that flow's cost"
abbrev pub cost_reply : Net → List ℕ → Reply
cost_reply N f = record { code = 0; line = 0; value = cost_of N f }

pub record NetworkPrices (bs xs g ps : List ℕ) (r : Reply) (ps' : List ℕ) : Type 0 where
  pub reply_is : r ≡ reply_unless (prices_question bs xs g (length ps)) 0 (cost_reply (net bs xs) (words g))
  pub prices_are : prices_question bs xs g (length ps) ≡ 0 → WroteCommonPrices (net bs xs) ps ps'
  pub unchanged : ¬ (prices_question bs xs g (length ps) ≡ 0) → ps' ≡ ps

-- the call before its refusal is a reply: answered, or the question that it fails, with nothing written
abbrev pub Answered : (bs xs g ps : List ℕ) → Result Reply FlowRefusal → List ℕ → Type 0
Answered bs xs g ps a ps' = MatchResult a (λ reply. NetworkPrices bs xs g ps reply ps') (λ refusal. (prices_question bs xs g (length ps) ≡ number_of refusal) × (ps' ≡ ps))
