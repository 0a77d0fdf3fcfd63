-- What the search answers, and why it ends.
use mathlib.Core.Path.{◌≡◌, sym, ap, ◌∙◌}
use Rattle.std.proofs.lemmas.List.{length-map}
use Rattle.net_model.specs.Struct.{net_from}
use Rattle.net_model.specs.declared.Arc.{Arc}
use mathlib.Core.Logic.{◌⊎◌, inl, inr}
use mathlib.Core.List.{List, []}
use mathlib.Core.Bool.{Bool, true, false}
use Prim.Native.Nat.{ℕ, ◌/◌, ◌≤◌, ◌<◌}
use native.Mathlib.Omega.{arith}
use lib.ListN.{length, get_or, take, replicate, length-replicate, get_or-replicate}
use lib.Seq.{length-take-le, get_or-take}
use lib.IntN.{ℤ, pos, ◌-ℤ◌}
use lib.Signed.{◌≤ℤ◌, ◌<ℤ◌}
use Rattle.laws.specs.Integers.{le_z_or_lt, ≤ℤ_trans}
use Rattle.laws.specs.Linear.{lin, given2}
use Rattle.laws.specs.Parts.{plus}
use Rattle.laws.specs.Sum.{sum}
use Rattle.net_model.specs.Network.{Net, nodes, arcs, WellFormed, net_out, balance}
use Rattle.net_theory.specs.Bounds.{InBounds}
use Rattle.net_theory.specs.Excess.{total_excess}
use Rattle.net_theory.specs.Graph.{costed}
use Rattle.std.specs.Prelude.{None}
use Rattle.net_theory.specs.Ready.{Ready}
use Rattle.net_theory.proofs.Cuts.{stuck, closed_steps}
use Rattle.net_theory.proofs.Circulation.{balances_sum}
use Rattle.net_theory.proofs.PushAll.{all_net_out}
use Rattle.net_theory.proofs.Excess.{relieved, all_met}
use Rattle.net_theory.proofs.Graph.{ends_with, bounds_with, within_with}
use Rattle.flow_test.specs.Excess.{Excesses}
use Rattle.flow_test.specs.FlowTest.{Testable}
use Rattle.flow_feasible.specs.Sending.{FirstExcess, SentFrom, CutOff}
use Rattle.flow_feasible.specs.Answer.{AllFree, Feasible}

module _ (N : Net) (f₀ : List ℕ) (T : Testable N f₀) (costs_len : length N.costs ≡ arcs N) where
  pub ready_of : (free : List Bool) → AllFree N free → (f : List ℕ) → InBounds N f → Ready (costed N) f free
  ready_of free F f k = record {
    searchable = record {
      ends = ends_with N [] N.lows N.ups N.costs T.ends;
      bounds = bounds_with N [] N.heads N.costs T.bounds;
      flow_len = k.all_arcs;
      free_len = F.free_len;
    };
    within = within_with N [] N.heads N.costs f k;
  }

  formed : WellFormed N
  formed = record {
    heads_len = T.ends.heads_len;
    lows_len = T.bounds.lows_len;
    ups_len = T.bounds.ups_len;
    costs_len = costs_len;
    tail_in = T.balances.tail_node;
    head_in = T.balances.head_node;
  }

  pub no_balance : (g : List ℕ) → InBounds N g → ¬ (sum (nodes N) (balance N) ≡ pos 0) → Feasible N g false
  no_balance g k ne = record {
    within = k;
    found = λ q. absurd (let w : ◌≡◌ {A = ℕ} 0 1 = cc in omega arith);
    none = λ _ x F. ne (balances_sum N formed x F);
  }

  module _ (f : List ℕ) (k : InBounds N f) (ex : List ℤ) (L : Excesses N f ex) where
    pub all_sent : sum (nodes N) (balance N) ≡ pos 0 → FirstExcess ex None → Feasible N f true
    all_sent e F = record {
      within = k;
      found = λ _. all_met N formed f k e (λ v i. rw (← (L.is v i)) (F v (omega (arith, L.len))));
      none = λ q. absurd (let w : ◌≡◌ {A = ℕ} 0 1 = cc in omega arith);
    }

    pub no_flow_left : (free : List Bool) → AllFree N free → (s : ℕ) → s < length ex → pos 0 <ℤ get_or ex s (pos 0) → CutOff (costed N) f free ex s (length ex) → (g : List ℕ) → InBounds N g → Feasible N g false
    no_flow_left free F s i p C g m = record {
      within = m;
      found = λ q. absurd (let w : ◌≡◌ {A = ℕ} 0 1 = cc in omega arith);
      none = λ _ x X. stuck N formed f C.inside
          (closed_steps N f (λ a. Unit {0}) C.inside (λ x y _ v w. C.shut x y (rw (F.marked (x / 2) (omega arith)) v) w))
          s (omega (arith, L.len)) C.has (too_little_out (balance N s) (net_out N f s) (get_or ex s (pos 0)) (L.is s (omega (arith, L.len))) p)
          (λ v j m. no_deficit v m (L.is v j) (le_z_or_lt (pos 0) (get_or ex v (pos 0))) (λ n. C.none v (omega (arith, L.len)) n))
          x X;
    }
      where
        too_little_out : (b o x : ℤ) → x ≡ b -ℤ o → pos 0 <ℤ x → o <ℤ b
        too_little_out b o x e p = given2 e p (simp lin (omega arith))

        no_more_out : (b o x : ℤ) → x ≡ b -ℤ o → pos 0 ≤ℤ x → o ≤ℤ b
        no_more_out b o x e p = given2 e p (simp lin (omega arith))

        no_deficit : (v : ℕ) → C.inside v ≡ true → get_or ex v (pos 0) ≡ balance N v -ℤ net_out N f v → (pos 0 ≤ℤ get_or ex v (pos 0)) ⊎ (get_or ex v (pos 0) <ℤ pos 0) → (get_or ex v (pos 0) <ℤ pos 0 → C.inside v ≡ false) → net_out N f v ≤ℤ balance N v
        no_deficit v m e (inl p) n = no_more_out (balance N v) (net_out N f v) (get_or ex v (pos 0)) e p
        no_deficit v m e (inr p) n = absurd (let w : ◌≡◌ {A = ℕ} 0 1 = cc (m, n p) in omega arith)

    -- the sum of the excesses above 0 falls
    pub falls : (g : List ℕ) (s : ℕ) → s < length ex → SentFrom (costed N) f g ex s → plus (total_excess N g) < plus (total_excess N f)
    falls g s i S =
        let R = S.sent in
        relieved N f g s S.to R.amount
        (λ w. ap (λ x. net_out N x w) R.exact ∙ all_net_out (costed N) R.amount R.codes f s S.to w (within_with N [] N.heads N.costs f k) R.walk R.able.distinct)
        (omega (arith, L.len)) R.some
        (rw (← (L.is s (omega (arith, L.len)))) (≤ℤ_trans {a = pos R.amount} {b = pos S.most} {c = get_or ex s (pos 0)} (simp lin (omega (arith, R.at_most))) S.most_ok))
        (rw (← (L.is S.to (omega (arith, L.len, S.to_in)))) R.at_t)

-- the first m of 512 marks
pub all_free : (N : Net) (m : ℕ) → m ≡ arcs N → m ≤ 512 → AllFree N (take m (replicate 512 true))
all_free N m e h = record {
  free_len = length-take-le m (replicate 512 true) (omega (arith, length-replicate 512 true)) ∙ e;
  marked = λ a k. get_or-take m (replicate 512 true) a false (omega arith) ∙ get_or-replicate 512 a true false (omega arith);
}

-- the lists of a network that a function is lent have one cost for each arc
pub costs_lent : (b : List ℤ) (l : List Arc) → let N = net_from b l in length N.costs ≡ arcs N
costs_lent b l = length-map l (λ (a : Arc). a.cost) ∙ sym (length-map l (λ (a : Arc). a.tail))
