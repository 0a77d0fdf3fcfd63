-- Every least-cost flow of an accepted network has prices, and they are the prices of every other.
use mathlib.Core.Path.{◌≡◌, refl, sym, ap, subst, ◌∙◌}
use mathlib.Core.Bool.{Bool, true, false}
use mathlib.Core.List.{List, []}
use Prim.Native.Nat.{ℕ, zero, suc, ◌+◌, ◌≤◌, ◌<◌}
use native.Mathlib.Omega.{arith}
use lib.ListN.{get_or, replicate}
use lib.IntN.{ℤ, pos}
use Rattle.net_model.specs.Network.{Net, nodes, LeastCost}
use Rattle.net_model.specs.Residual.{codes, dst, Price}
use Rattle.net_model.specs.Accepted.{AcceptedNet}
use Rattle.net_theory.specs.Graph.{costed}
use Rattle.net_theory.proofs.Bounds.{flow_bounds}
use Rattle.net_theory.proofs.Prices.{Priced, price_once, same_prices}
use Rattle.flow_relax.specs.Labels.{Relaxable, State, state, offer, better, set_if, relaxed, relaxed_all}
use Rattle.flow_relax.proofs.Accepted.{accepted_relaxable}
use Rattle.flow_relax.proofs.Rounds.{zero_at}
use Rattle.flow_cancel.proofs.NegativeCycles.{least_potential}
use Rattle.flow_prices.proofs.Pricing.{Pricing, pricing_start, pricing_more, prices_all, labels_price}

-- a round that keeps no predecessors leaves none
no_preds : (N : Net) (f : List ℕ) (r : ℕ) (d : List ℤ) → (relaxed_all N f 1 r (state d [] 64)).preds ≡ []
unfolding relaxed_all
no_preds N f zero d = refl
no_preds N f (suc r) d = step (relaxed_all N f 1 r (state d [] 64)) (no_preds N f r d)
  where
    step : (s : State) → s.preds ≡ [] → (relaxed N f 1 r s).preds ≡ []
    step s e = go (better N f 1 r s)
      where
        go : (t : Bool) → (set_if t (dst N r) (offer N r s) r s).preds ≡ []
        go true = rw e refl
        go false = e

-- the price search as a theorem, without a program: k rounds
rounds : (N : Net) (f : List ℕ) → Relaxable N f → (k : ℕ) → k ≤ 64 → (d : List ℤ) × Pricing N f d k
rounds N f rel zero h = (replicate 64 (pos 0), pricing_start N f rel (replicate 64 (pos 0)) refl (zero_at 64))
rounds N f rel (suc k) h = step (rounds N f rel k (omega arith))
  where
    step : (d : List ℤ) × Pricing N f d k → (d : List ℤ) × Pricing N f d (suc k)
    step (d, P) =
        let s = relaxed_all N f 1 (codes N) (state d [] 64) in
        let e : k + 1 ≡ suc k = omega arith in
        let q : state s.labels [] s.last ≡ s = ap (λ p. state s.labels p s.last) (sym (no_preds N f (codes N) d)) in
        (s.labels, rw e at (pricing_more N f rel d k P s.labels s.last q (omega arith)))

module _ (N : Net) (ok : AcceptedNet N) where
  -- a least-cost flow has prices
  pub prices_exist : (f : List ℕ) → LeastCost N f → (π : ℕ → ℤ) × Priced N f π
  prices_exist f L =
      let rel = accepted_relaxable N ok f (flow_bounds N f L.flow) in
      let (d, P) = rounds (costed N) f rel 64 (omega arith) in
      (λ v. get_or d v (pos 0), labels_price N f ok.well_formed ok.few_nodes d (prices_all (costed N) f rel d P (least_potential N f ok L)))

  module _ (f g : List ℕ) (lf : LeastCost N f) (lg : LeastCost N g) (v : ℕ) (h : v < nodes N) where
    -- 02, request 9: "the prices, worked out from any least-cost flow of a network, are the same numbers"
    pub price_same : (p q : ℤ) → Price N f v p → Price N g v q → p ≡ q
    price_same p q a b =
        let (π, P) = prices_exist f lf in
        let (ρ, Q) = prices_exist g lg in
        price_once N f v p (π v) a (P v h) ∙ same_prices N ok.well_formed f g π ρ lf lg P Q v h ∙ price_once N g v (ρ v) q (Q v h) b

    -- the price of a node by one least-cost flow is its price by every other
    pub price_any : (p : ℤ) → Price N f v p → Price N g v p
    price_any p a = let (ρ, Q) = prices_exist g lg in subst (Price N g v) (sym (price_same p (ρ v) a (Q v h))) (Q v h)
