-- The definitions at work on bytes: document 01's "Arcs 0→1 (0..2, cost 1), 1→2 (0..2, cost 1), 2→0 (0..1, .. Last cost −2: (0,0,0) and (1,1,1); prices
-- −2, −1, 0."
use mathlib.Core.Path.{◌≡◌, refl}
use mathlib.Core.List.{List, [], ◌∷◌, map}
use Prim.Native.Nat.{ℕ, ◌<◌}
use native.Mathlib.Decide.{ℕ_discrete}
use lib.IntN.{ℤ, pos, negsuc}
use lib.ListN.{get_or}
use Rattle.laws.specs.Divergence.{at}
use Rattle.bytes_read.specs.Words.{encode_words, encode_ints}
use Rattle.net_model.specs.Network.{nodes}
use Rattle.net_model.specs.Residual.{Price}
use Rattle.net_model.specs.FullList.{flow_list, full_list}
use Rattle.net_model.proofs.Prices.{prices}
use Rattle.call_flow_bytes.specs.NetworkBytes.{net}
use Rattle.call_prices.specs.PriceCall.{prices_question}

abbrev balances : List ℕ
balances = encode_ints (pos 0 ∷ pos 0 ∷ pos 0 ∷ [])

abbrev arcs : List ℕ
arcs = encode_ints (pos 0 ∷ pos 1 ∷ pos 0 ∷ pos 2 ∷ pos 1 ∷ pos 1 ∷ pos 2 ∷ pos 0 ∷ pos 2 ∷ pos 1 ∷ pos 2 ∷ pos 0 ∷ pos 0 ∷ pos 1 ∷ negsuc 1 ∷ [])

-- "the same numbers" by either flow, though the walks that cost as much are others: along the arcs forward, and backward
abbrev same : List ℤ
same = negsuc 1 ∷ negsuc 0 ∷ pos 0 ∷ []

by_first : (v : ℕ) → v < nodes (net balances arcs) → Price (net balances arcs) (0 ∷ 0 ∷ 0 ∷ []) v (get_or same v (pos 0))
by_first = prices (net balances arcs) (0 ∷ 0 ∷ 0 ∷ []) same ((4 ∷ []) ∷ (0 ∷ 4 ∷ []) ∷ [] ∷ []) refl

by_second : (v : ℕ) → v < nodes (net balances arcs) → Price (net balances arcs) (1 ∷ 1 ∷ 1 ∷ []) v (get_or same v (pos 0))
by_second = prices (net balances arcs) (1 ∷ 1 ∷ 1 ∷ []) same ((1 ∷ 3 ∷ []) ∷ (3 ∷ []) ∷ [] ∷ []) refl

abbrev asked_of : List ℕ × ℕ → ℕ
asked_of c = prices_question balances arcs (encode_words c.0) c.1

-- both flows in a list of n numbers; 7: room for two, and for three and a byte, whatever is given; 8: no flow, and two numbers
codes : map asked_of ((0 ∷ 0 ∷ 0 ∷ [], 12) ∷ (1 ∷ 1 ∷ 1 ∷ [], 12) ∷ (1 ∷ 1 ∷ 1 ∷ [], 8) ∷ (1 ∷ 0 ∷ 0 ∷ [], 13) ∷ (1 ∷ 0 ∷ 0 ∷ [], 12) ∷ (1 ∷ 1 ∷ [], 12) ∷ []) ≡ 0 ∷ 0 ∷ 7 ∷ 7 ∷ 8 ∷ 8 ∷ []
unfolding full_list flow_list at ℕ_discrete
codes = refl

-- without arcs there is no flow to write, and still a price; with balance 1 there is no flow: 8, never "none"
no_arcs : prices_question (encode_ints (pos 0 ∷ [])) [] [] 4 ≡ 0
unfolding full_list flow_list at ℕ_discrete
no_arcs = refl

no_room : prices_question (encode_ints (pos 0 ∷ [])) [] [] 0 ≡ 7
no_room = refl

no_flow : prices_question (encode_ints (pos 1 ∷ [])) [] [] 4 ≡ 8
unfolding full_list flow_list at ℕ_discrete
no_flow = refl
