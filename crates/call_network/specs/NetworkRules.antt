-- What the calls of a network are answered from, by the bytes of its balances and arcs. "The book or network is the same throughout".
use Rattle.std.specs.Prelude.{◌≡◌, true, List, ℕ, ◌*◌, take}
use Rattle.laws.specs.Equality.{same_list}
use Rattle.laws.specs.Rules.{Rules}
use Rattle.bytes_read.specs.Words.{encode_words}
use Rattle.net_model.specs.Network.{arcs, cost_of}
use Rattle.net_model.specs.FullList.{full_list}
use Rattle.net_questions.specs.Questions.{network_refusal}
use Rattle.call_flow_bytes.specs.NetworkBytes.{net}
use Rattle.call_network.specs.NetworkCalls.{Lent, network_lent, room_for, network_question, WroteFlow}

-- 02, request 3: "Refusals 13, 14 and 15 now carry the lowest line number that fails": the questions of a network carry none
abbrev pub no_line : ℕ → ℕ
no_line question = 0

abbrev pub network_rules : List ℕ → List ℕ → Rules (List ℕ) Lent (List ℕ) (List ℕ) Lent
network_rules bs xs = record {
  -- "of all lists of m numbers within the bounds, in the order of flows, keep the least-cost flows"
  full_list = full_list (net bs xs);
  -- "A call that fails a question: the number of the first it fails"
  question = network_question bs xs;
  -- "A network is accepted if it passes 1 to 6"; the lent lists pass 7
  Admits = λ c. (network_refusal bs xs ≡ 0) × (room_for (net bs xs) (network_lent c) ≡ true);
  line_told = no_line;
  -- "Its cost is the sum of c × f."
  cost = cost_of (net bs xs);
  lent = network_lent;
  -- "A line fills the first E or m places lent, prices the first n; all else keeps what it held."
  Wrote = WroteFlow (net bs xs);
  -- "four a number": a flow is 4 m bytes, the first of the list lent for the flows
  copy = encode_words;
  taken = λ l. take (4 * arcs (net bs xs)) l.flows;
  same = same_list;
}
