-- The definitions at work on bytes: document 01's "Balances 2, −2, two arcs 0→1, each 0..2, cost 1: (0,2), (1,1), (2,0), cost 2."
use mathlib.Core.Path.{◌≡◌, refl}
use mathlib.Core.List.{List, [], ◌∷◌}
use mathlib.Core.Option.{none, some}
use Prim.Native.Nat.{ℕ}
use native.Mathlib.Decide.{ℕ_discrete}
use lib.IntN.{pos, negsuc}
use Rattle.laws.specs.Divergence.{at}
use Rattle.laws.specs.Rules.{first, next}
use Rattle.laws.specs.Seen.{refused, end, item}
use Rattle.laws.specs.Run.{respond}
use Rattle.bytes_read.specs.Words.{encode_words, encode_ints, over}
use Rattle.net_model.specs.FullList.{flow_list, full_list}
use Rattle.call_network.specs.NetworkCalls.{lends}
use Rattle.call_network.specs.NetworkRules.{network_rules}

abbrev balances : List ℕ
balances = encode_ints (pos 2 ∷ negsuc 1 ∷ [])

abbrev arcs : List ℕ
arcs = encode_ints (pos 0 ∷ pos 1 ∷ pos 0 ∷ pos 2 ∷ pos 1 ∷ pos 0 ∷ pos 1 ∷ pos 0 ∷ pos 2 ∷ pos 1 ∷ [])

abbrev lent : List ℕ
lent = 9 ∷ 9 ∷ 9 ∷ 9 ∷ 9 ∷ 9 ∷ 9 ∷ 9 ∷ 7 ∷ 7 ∷ 7 ∷ 7 ∷ []

starts : respond (network_rules balances arcs) (first (lends lent (some lent))) ≡ item (0 ∷ 2 ∷ [])
unfolding full_list flow_list at ℕ_discrete
starts = refl

goes_on : respond (network_rules balances arcs) (next (encode_words (1 ∷ 1 ∷ [])) lent) ≡ item (2 ∷ 0 ∷ [])
unfolding full_list flow_list at ℕ_discrete
goes_on = refl

ends : respond (network_rules balances arcs) (next (2 ∷ 0 ∷ 0 ∷ 0 ∷ 0 ∷ 0 ∷ 0 ∷ 0 ∷ []) lent) ≡ end
unfolding full_list flow_list at ℕ_discrete
ends = refl

-- 8: no item, and too long by a byte; 7: room for one number, and for two and a half; 1: no whole numbers
no_item : respond (network_rules balances arcs) (next (encode_words (2 ∷ 1 ∷ [])) lent) ≡ refused 8
unfolding full_list flow_list at ℕ_discrete
no_item = refl

odd_given : respond (network_rules balances arcs) (next (2 ∷ 0 ∷ 0 ∷ 0 ∷ 0 ∷ 0 ∷ 0 ∷ 0 ∷ 0 ∷ []) lent) ≡ refused 8
unfolding full_list flow_list at ℕ_discrete
odd_given = refl

short : respond (network_rules balances arcs) (first (lends (9 ∷ 9 ∷ 9 ∷ 9 ∷ []) none)) ≡ refused 7
short = refl

odd_prices : respond (network_rules balances arcs) (first (lends lent (some (9 ∷ lent)))) ≡ refused 7
odd_prices = refl

odd_balances : respond (network_rules (0 ∷ balances) arcs) (first (lends lent none)) ≡ refused 1
odd_balances = refl

-- the last number keeps what it held
written : over (encode_words (0 ∷ 2 ∷ [])) lent ≡ 0 ∷ 0 ∷ 0 ∷ 0 ∷ 2 ∷ 0 ∷ 0 ∷ 0 ∷ 7 ∷ 7 ∷ 7 ∷ 7 ∷ []
written = refl

priced : over (encode_ints (negsuc 0 ∷ pos 0 ∷ [])) lent ≡ 255 ∷ 255 ∷ 255 ∷ 255 ∷ 0 ∷ 0 ∷ 0 ∷ 0 ∷ 7 ∷ 7 ∷ 7 ∷ 7 ∷ []
priced = refl
