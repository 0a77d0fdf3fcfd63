-- Both codes of an arc relaxed by the price search, as the code reads them off the arc that it is lent.
use mathlib.Core.Path.{◌≡◌, refl, sym, ap, subst}
use mathlib.Core.Bool.{◌&&◌}
use mathlib.Core.List.{List, []}
use Prim.Native.Nat.{ℕ, suc, ◌+◌, ◌<◌}
use native.Mathlib.Omega.{arith}
use lib.Dec.{leb, ltb}
use lib.ListN.{length, get_or}
use lib.IntN.{ℤ, pos, neg_ℤ, ◌+ℤ◌}
use lib.Signed.{lt_z, ◌≤ℤ◌}
use mir.Syntax.{w32}
use mir.Val.{SFits}
use Rattle.laws.specs.Range.{Bounded, bounded_neg}
use Rattle.net_model.specs.Network.{Net}
use Rattle.net_model.specs.Struct.{net_from, blank_arc}
use Rattle.net_model.specs.declared.Arc.{Arc}
use Rattle.net_theory.proofs.ArcReads.{arcs_lent}
use Rattle.flow_relax.specs.Labels.{Relaxable, State, state, label, set_if, relaxed, relaxed_all}
use Rattle.flow_relax.specs.Potentials.{HasPotential}
use Rattle.flow_relax.proofs.Sums.{small_sum}
use Rattle.flow_relax.proofs.Arcs.{arc_limits, first_code, forward, backward}
use Rattle.flow_prices.specs.Prices.{WalkLabels}
use Rattle.flow_prices.proofs.LabelBounds.{labels_small}
use Rattle.flow_prices.proofs.Pricing.{one_walks, all_walks}

-- one more can go where the flow is below the bound
one_more : (x y : ℕ) → ltb x y ≡ leb (x + 1) y
one_more x y = let e : suc x ≡ x + 1 = omega arith in ap (λ k. leb k y) e

module _ (held : List Arc) (f : List ℕ) where
  abbrev N : Net
  N = net_from [] held

  abbrev here : ℕ → Arc
  here a = get_or held a blank_arc

  module _ (ok : Relaxable N f) where
    module _ (q : HasPotential N f 1) (a : ℕ) (k : a < length held) where
      asks : (d : List ℤ) → WalkLabels N f d → (u v : ℕ) → u < 64 → v < 64 → (x : ℤ) → Bounded 1000000 x → (u < length d) × (v < length d) × SFits w32 (get_or d u (pos 0) +ℤ x) × (get_or d v (pos 0) ≤ℤ pos 0)
      asks d W u v h l x b = (omega (arith, W.len), omega (arith, W.len), small_sum w32 (labels_small N f ok q d W u h) b (omega arith), W.at_most_0 v)

      pub asks_forward : (d : List ℤ) → WalkLabels N f d → (x : ℤ) → x ≡ (here a).cost
          → ((here a).tail < length d) × ((here a).head < length d) × SFits w32 (get_or d (here a).tail (pos 0) +ℤ x) × (get_or d (here a).head (pos 0) ≤ℤ pos 0)
      asks_forward d W x e = let i = arc_limits held f ok a k in rw e (asks d W (here a).tail (here a).head i.tail_in i.head_in (here a).cost i.cost_small)

      -- after the first code
      module _ (s r : State) (W : WalkLabels N f s.labels) (x : ℤ) (x-is : x ≡ (here a).cost)
          (e : (code : ℕ) → r ≡ set_if (ltb (get_or f a 0) (here a).up && lt_z (label s (here a).tail +ℤ x) (label s (here a).head)) (here a).head (label s (here a).tail +ℤ x) code s) where
        forth : r ≡ relaxed N f 1 (a + a) s
        forth = forward held f ok a k 1 _ _ x refl refl x-is s _ r (one_more (get_or f a 0) (here a).up) (e (a + a))

        walks : WalkLabels N f r.labels
        walks = subst (λ (t : State). WalkLabels N f t.labels) (sym forth) (one_walks N f ok s (a + a) (first_code held f ok a k) W)

        pub asks_backward : (y : ℤ) → y ≡ neg_ℤ (here a).cost
            → ((here a).head < length r.labels) × ((here a).tail < length r.labels) × SFits w32 (label r (here a).head +ℤ y) × (label r (here a).tail ≤ℤ pos 0)
        asks_backward y g = let i = arc_limits held f ok a k in rw g (asks r.labels walks (here a).head (here a).tail i.head_in i.tail_in (neg_ℤ (here a).cost) (bounded_neg i.cost_small))

        pub both : (y : ℤ) (t : State) → y ≡ neg_ℤ (here a).cost
            → ((code : ℕ) → t ≡ set_if (ltb (here a).low (get_or f a 0) && lt_z (label r (here a).head +ℤ y) (label r (here a).tail)) (here a).tail (label r (here a).head +ℤ y) code r)
            → t ≡ relaxed N f 1 (suc (a + a)) (relaxed N f 1 (a + a) s)
        both y t g h = backward held f ok a k 1 _ _ x refl refl x-is s r forth _ y (suc (a + a)) t (one_more (here a).low (get_or f a 0)) g refl (h (suc (a + a)))

    -- the labels before arc a, in a round from the state s
    pub turn_walks : (s : State) → WalkLabels N f s.labels → (a : ℕ) → a < length held → (d : List ℤ) (last : ℕ) → state d [] last ≡ relaxed_all N f 1 (a + a) s → WalkLabels N f d
    turn_walks s W a k d last e = subst (λ (t : State). WalkLabels N f t.labels) (sym e) (all_walks N f ok s W (a + a) (omega (arith, arcs_lent [] held)))
