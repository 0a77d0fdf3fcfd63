-- The prices of one least-cost flow are those of every other; a flow has one list of them.
use mathlib.Core.Path.{◌≡◌, sym, ◌∙◌}
use mathlib.Core.List.{List}
use mathlib.Core.Option.{some}
use Prim.Native.Nat.{ℕ}
use native.Mathlib.Omega.{arith}
use lib.ListN.{get_or}
use lib.Seq.{ext_get_or}
use lib.IntN.{ℤ, pos}
use Rattle.bytes_read.specs.Words.{encode_ints, over}
use Rattle.net_model.specs.Network.{Net, LeastCost}
use Rattle.net_model.specs.Accepted.{AcceptedNet}
use Rattle.net_theory.proofs.Prices.{price_once}
use Rattle.flow_prices.proofs.CommonPrices.{price_any}
use Rattle.call_flow_bytes.specs.Prices.{Prices, PricesAfter}
use Rattle.call_prices.specs.PriceCall.{CommonPrices, WroteCommonPrices}

common_prices : (N : Net) → AcceptedNet N → (f : List ℕ) → LeastCost N f → (ps : List ℤ) → Prices N f ps → CommonPrices N ps
common_prices N ok f L ps P = record {
  of_each = λ g M. record { all_nodes = P.all_nodes; each = λ v h. price_any N ok f g L M v h (get_or ps v (pos 0)) (P.each v h); fit = P.fit };
}

-- so where the prices of one were written, those of all were
pub wrote_common : (N : Net) → AcceptedNet N → (f : List ℕ) → LeastCost N f → (before after : List ℕ) → PricesAfter N f (some before) (some after) → WroteCommonPrices N before after
wrote_common N ok f L before after (ps, P, e) = (ps, common_prices N ok f L ps P, same after (over (encode_ints ps) before) e)
  where
    same : (x y : List ℕ) → some x ≡ some y → x ≡ y
    same x y e = cc

pub prices_once : (N : Net) (f : List ℕ) (ps qs : List ℤ) → Prices N f ps → Prices N f qs → ps ≡ qs
prices_once N f ps qs P Q =
    ext_get_or (pos 0) ps qs (P.all_nodes ∙ sym Q.all_nodes)
    (λ v h. price_once N f v (get_or ps v (pos 0)) (get_or qs v (pos 0)) (P.each v (omega (arith, P.all_nodes))) (Q.each v (omega (arith, P.all_nodes))))
