-- The calls of a network: what they take, questions 7 and 8, what they write.
use Rattle.std.specs.Prelude.{◌≡◌, Bool, true, ◌&&◌, List, ℕ, length}
use Rattle.std.proofs.Math.Option.{Option, none, some}
use Rattle.laws.specs.Tests.{ask}
use Rattle.laws.specs.Rules.{Call, first, next}
use Rattle.bytes_read.specs.Words.{encode_words, over}
use Rattle.net_model.specs.Network.{Net, nodes, arcs}
use Rattle.net_model.specs.FullList.{full_list}
use Rattle.net_questions.specs.Questions.{network_refusal}
use Rattle.call_reply.specs.Replies.{or_else}
use Rattle.call_reply.specs.ByteLists.{room, fair_given}
use Rattle.call_flow_bytes.specs.NetworkBytes.{net}
use Rattle.call_flow_bytes.specs.Prices.{PricesAfter}

-- "The caller lends a list for m flows and, for the first flow, one for n prices"
pub record Lent : Type 0 where
  pub flows : List ℕ
  pub prices : Option (List ℕ)

abbrev pub lends : List ℕ → Option (List ℕ) → Lent
lends fs ps = record { flows = fs; prices = ps }

-- `first` is lent both, the prices "where given"; `next` is given a list and lent one for the flows
abbrev pub NetCall : Type 0
NetCall = Call Lent (List ℕ) (List ℕ)

abbrev pub network_lent : NetCall → Lent
network_lent (first l) = l
network_lent (next g fs) = lends fs none

-- 7. "Are the lent lists long enough for m flows and, where given, n prices?"
abbrev pub room_if : ℕ → Option (List ℕ) → Bool
room_if k none = true
room_if k (some l) = room k (length l)

abbrev pub room_for : Net → Lent → Bool
room_for N l = room (arcs N) (length l.flows) && room_if (nodes N) l.prices

-- the number of the first question that a call fails, or 0.
-- 8. "is the given list m numbers long and a least-cost flow of the network?": it has the bytes of an item (`flow_listed`,
-- crates/call_flow_bytes/proofs/FlowItems.antt, says it in these words)
abbrev pub network_question : List ℕ → List ℕ → NetCall → ℕ
network_question bs xs c =
    or_else (network_refusal bs xs)
    (ask (room_for (net bs xs) (network_lent c)) 7
    (ask (fair_given (full_list (net bs xs)) c) 8
    0))

-- "A line fills the first E or m places lent, prices the first n; all else keeps what it held."
pub record WroteFlow (N : Net) (f : List ℕ) (before after : Lent) : Type 0 where
  pub flows_are : after.flows ≡ over (encode_words f) before.flows
  pub prices_are : PricesAfter N f before.prices after.prices
