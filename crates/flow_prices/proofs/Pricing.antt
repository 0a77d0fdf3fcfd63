-- The rounds of the price search: labels are costs of walks, and in the end the least ones.
use mathlib.Core.Path.{◌≡◌, refl, sym, subst, ◌∙◌}
use mathlib.Core.Bool.{Bool, true, false, cond}
use mathlib.Core.List.{List, [], ◌∷◌}
use Prim.Native.Nat.{ℕ, zero, suc, ◌+◌, ◌≤◌, ◌<◌}
use native.Mathlib.Omega.{arith}
use native.Mathlib.Numerals.{add-one}
use lib.ListN.{length, get_or, set}
use lib.IntN.{ℤ, pos}
use lib.Signed.{◌≤ℤ◌}
use Rattle.laws.specs.Linear.{lin, given, given2}
use Rattle.laws.specs.Tests.{and_true}
use Rattle.laws.specs.Store.{set_cases}
use Rattle.net_model.specs.Network.{Net, WellFormed, nodes}
use Rattle.net_model.specs.Residual.{codes, src, dst, Walk, walk_cost, Price}
use Rattle.net_model.proofs.Rises.{rise}
use Rattle.net_theory.specs.Graph.{costed}
use Rattle.net_theory.specs.ResidualCapacity.{has_capacity}
use Rattle.net_theory.proofs.Codes.{src_below, src_in, dst_in}
use Rattle.net_theory.proofs.ResidualCapacity.{has_capacity_usable, walk_has_capacity}
use Rattle.flow_relax.specs.Labels.{Relaxable, State, state, label, offer, better, relaxed, relaxed_all}
use Rattle.flow_relax.specs.Potentials.{HasPotential}
use Rattle.flow_relax.proofs.Balances.{cost_whole}
use Rattle.flow_relax.proofs.Rounds.{AtMost, one_falls, one_length, zeros_at_most, left_at_most, left_unchanged}
use Rattle.flow_prices.specs.Prices.{WalkLabels, PriceLabels}
use Rattle.flow_prices.proofs.Shorten.{shorten}

pub record Pricing (N : Net) (f : List ℕ) (d : List ℤ) (k : ℕ) : Type 0 where
  pub upto : k ≤ 64
  pub at_most : AtMost N f 1 k d
  pub labels : WalkLabels N f d

module _ (N : Net) (f : List ℕ) (ok : Relaxable N f) where
  -- a code offers the cost of a walk one arc longer
  offered : (s : State) (c : ℕ) → c < codes N → has_capacity N f 1 c ≡ true → (u : ℕ) × (cs : List ℕ) × Walk N f u (src N c) cs × (walk_cost N cs ≡ label s (src N c))
      → (u : ℕ) × (cs : List ℕ) × Walk N f u (dst N c) cs × (walk_cost N cs ≡ offer N c s)
  offered s c h r (u, cs, w, e) = (u, c ∷ cs, (h, has_capacity_usable N f 1 c (omega arith) r, refl, w), given e (simp lin (omega arith)))

  -- one code keeps labels the costs of walks, and so do the first r
  pub one_walks : (s : State) (c : ℕ) → c < codes N → WalkLabels N f s.labels → WalkLabels N f (relaxed N f 1 c s).labels
  one_walks s c h W = record {
    len = one_length N f ok 1 s c h W.len;
    at_most_0 = λ v. given2 (one_falls N f ok 1 s c h W.len v) (W.at_most_0 v) (simp lin (omega arith));
    walked = go (better N f 1 c s) refl;
  }
    where
      go : (t : Bool) → better N f 1 c s ≡ t → (v : ℕ) → v < 64 → (u : ℕ) × (cs : List ℕ) × Walk N f u v cs × (walk_cost N cs ≡ get_or (cond t (set s.labels (dst N c) (offer N c s)) s.labels) v (pos 0))
      go true e =
          set_cases (λ j z. j < 64 → (u : ℕ) × (cs : List ℕ) × Walk N f u j cs × (walk_cost N cs ≡ z)) s.labels (dst N c) (offer N c s) (pos 0) (omega (arith, dst_in N ok.ends c h, W.len))
          (λ _. offered s c h (and_true (has_capacity N f 1 c) _ e).0 (W.walked (src N c) (src_in N ok.ends c h))) (λ j q l. W.walked j l)
      go false e = W.walked

  pub all_walks : (s : State) → WalkLabels N f s.labels → (r : ℕ) → r ≤ codes N → WalkLabels N f (relaxed_all N f 1 r s).labels
  unfolding relaxed_all
  all_walks s W zero h = W
  all_walks s W (suc r) h = one_walks (relaxed_all N f 1 r s) r h (all_walks s W r (omega arith))

  pub pricing_start : (d : List ℤ) → length d ≡ 64 → ((v : ℕ) → get_or d v (pos 0) ≡ pos 0) → Pricing N f d 0
  pricing_start d dl zeros = record {
    upto = omega arith;
    at_most = zeros_at_most d zeros N f 1;
    labels = record { len = dl; at_most_0 = λ v. rw (zeros v) (simp lin (omega arith)); walked = λ v h. (v, [], refl, sym (zeros v)) };
  }

  module _ (d : List ℤ) (k : ℕ) (S : Pricing N f d k) (d' : List ℤ) (last : ℕ) (e : state d' [] last ≡ relaxed_all N f 1 (codes N) (state d [] 64)) where
    pub pricing_more : k < 64 → Pricing N f d' (k + 1)
    pricing_more h = rw add-one (record {
      upto = h;
      at_most = left_at_most N f ok 1 d [] S.labels.len d' [] last e k S.at_most;
      labels = subst (λ (s : State). WalkLabels N f s.labels) (sym e) (all_walks (state d [] 64) S.labels (codes N) (omega arith));
    })

    -- a round that changed nothing: no walk costs less
    pub prices_unchanged : last ≡ 64 → PriceLabels N f d'
    prices_unchanged q =
        let (b, c) = left_unchanged N f ok 1 d [] S.labels.len d' [] last e q in
        subst (PriceLabels N f) (sym b) (record {
          labels = S.labels;
          least = λ u v cs h w.
              given2 (rise N (has_capacity N f 1) (λ v. get_or d v (pos 0)) c u v cs (walk_has_capacity N f u v cs w)) (S.at_most u u [] (omega arith) refl) (simp lin (omega arith));
        })

  -- after 64 rounds no walk costs less, however long
  pub prices_all : (d : List ℤ) → Pricing N f d 64 → HasPotential N f 1 → PriceLabels N f d
  prices_all d S q = record {
    labels = S.labels;
    least = λ u v cs h w. (let r = shorten N f 1 ok.ends q.potential q.feasible u v cs h (walk_has_capacity N f u v cs w) in
        given2 (S.at_most u v r.walk (omega (arith, r.few)) r.leads) r.costs (simp lin (omega arith)));
  }

-- the same of the network with its balances
module _ (N : Net) (f : List ℕ) (ok : WellFormed N) where
  -- a walk to a node starts at a node
  start_in : (x v : ℕ) (cs : List ℕ) → v < nodes N → Walk N f x v cs → x < nodes N
  start_in x v [] h w = rw w h
  start_in x v (e ∷ cs) h w = start_in x (src N e) cs (src_below (nodes N) N ok.tail_in ok.head_in e w.0) w.3

  pub labels_price : nodes N ≤ 64 → (d : List ℤ) → PriceLabels (costed N) f d → (v : ℕ) → v < nodes N → Price N f v (get_or d v (pos 0))
  labels_price few d P v k =
      let (x, cs, w, e) = P.labels.walked v (omega arith) in
      record {
        from = x;
        walk = cs;
        starts = start_in x v cs k w;
        leads = w;
        costs = sym (cost_whole N cs) ∙ e;
        least = λ y es _ w'. subst (λ z. get_or d v (pos 0) ≤ℤ z) (cost_whole N es) (P.least y v es (omega arith) w');
      }
