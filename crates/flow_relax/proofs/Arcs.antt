-- Both codes of an arc relaxed, as the code reads them off the arc that it is lent.
use mathlib.Core.Path.{◌≡◌, sym, ap, subst, ◌∙◌}
use mathlib.Core.Bool.{Bool, ◌&&◌}
use mathlib.Core.List.{List, []}
use Prim.Native.Nat.{ℕ, suc, ◌+◌, ◌^◌, ◌≤◌, ◌<◌}
use native.Mathlib.Omega.{arith}
use lib.Dec.{leb}
use lib.ListN.{length, get_or}
use lib.IntN.{ℤ, pos, neg_ℤ, ◌+ℤ◌}
use lib.Signed.{lt_z}
use mir.Syntax.{Width}
use mir.Val.{SFits, hbits}
use Rattle.laws.specs.Range.{Bounded, bounded_neg}
use Rattle.net_theory.proofs.Codes.{even_code, even_arc, odd_code, odd_arc}
use Rattle.net_theory.proofs.ArcReads.{arcs_lent, arc_at}
use Rattle.net_model.specs.Network.{Net, arcs}
use Rattle.net_model.specs.Residual.{codes}
use Rattle.net_model.specs.Struct.{net_from, blank_arc}
use Rattle.net_model.specs.declared.Arc.{Arc}
use Rattle.flow_relax.specs.Labels.{Relaxable, State, state, label, set_if, relaxed, relaxed_all, Sized}
use Rattle.flow_relax.proofs.Sums.{small_sum}
use Rattle.flow_relax.proofs.Rounds.{one_sized, all_sized, sized_more, left_node}

module _ (held : List Arc) (f : List ℕ) where
  abbrev N : Net
  N = net_from [] held

  abbrev here : ℕ → Arc
  here a = get_or held a blank_arc

  pub record ArcLimits (a : ℕ) : Type 0 where
    pub tail_in : (here a).tail < 64
    pub head_in : (here a).head < 64
    pub cost_small : Bounded 1000000 (here a).cost
    pub flow_small : get_or f a 0 ≤ 1000000
    pub low_small : (here a).low ≤ 1000000

  module _ (ok : Relaxable N f) (a : ℕ) (k : a < length held) where
    pub arc_limits : ArcLimits a
    arc_limits =
        let h : a < arcs N = (arc_at [] held a k).inside in
        record {
          tail_in = omega (arith, (arc_at [] held a k).tail_is, ok.ends.tail_in a h);
          head_in = omega (arith, (arc_at [] held a k).head_is, ok.ends.head_in a h);
          cost_small = rw (arc_at [] held a k).cost_is (ok.costs.cost_small a h);
          flow_small = omega (arith, ok.within.below a h, ok.bounds.ups_small a h);
          low_small = omega (arith, (arc_at [] held a k).low_is, ok.within.above a h, ok.within.below a h, ok.bounds.ups_small a h);
        }

    pub first_code : a + a < codes N
    first_code = omega (arith, arcs_lent [] held)

    -- the code reads the tail t, the head h and the cost x
    module _ (δ t h : ℕ) (x : ℤ) (t-is : t ≡ (here a).tail) (h-is : h ≡ (here a).head) (x-is : x ≡ (here a).cost) (s : State) where
      pub forward : (on : Bool) (r : State) → on ≡ leb (get_or f a 0 + δ) (here a).up → r ≡ set_if (on && lt_z (label s t +ℤ x) (label s h)) h (label s t +ℤ x) (a + a) s → r ≡ relaxed N f δ (a + a) s
      forward on r e q = q ∙ rw (e, t-is, h-is, x-is, (arc_at [] held a k).up_is, (arc_at [] held a k).tail_is, (arc_at [] held a k).head_is, (arc_at [] held a k).cost_is, even_code a, even_arc a)

      pub backward : (S : State) → S ≡ relaxed N f δ (a + a) s → (on : Bool) (y : ℤ) (c : ℕ) (r : State) → on ≡ leb ((here a).low + δ) (get_or f a 0) → y ≡ neg_ℤ (here a).cost → c ≡ suc (a + a)
          → r ≡ set_if (on && lt_z (label S h +ℤ y) (label S t)) t (label S h +ℤ y) c S → r ≡ relaxed N f δ (suc (a + a)) (relaxed N f δ (a + a) s)
      backward S g on y c r e i o q = q ∙ one ∙ ap (λ T. relaxed N f δ (suc (a + a)) T) g
        where
          one : set_if (on && lt_z (label S h +ℤ y) (label S t)) t (label S h +ℤ y) c S ≡ relaxed N f δ (suc (a + a)) S
          one = rw (e, t-is, h-is, i, o, (arc_at [] held a k).low_is, (arc_at [] held a k).tail_is, (arc_at [] held a k).head_is, (arc_at [] held a k).cost_is, odd_code a, odd_arc a)

      -- what a sum of 64 bits asks of labels of at most B, before the first code and before the second
      module _ (w : Width) (B : ℕ) (z : Sized B s.labels s.preds) (l : B + 2000000 < 2 ^ hbits w) where
        pub asks_forward : (t < length s.labels) × (h < length s.labels) × (h < length s.preds) × SFits w (label s t +ℤ x)
        asks_forward =
            let i = arc_limits in
            let b : t < 64 = omega (arith, i.tail_in) in
            (omega (arith, z.labels_len), omega (arith, i.head_in, z.labels_len), omega (arith, i.head_in, z.preds_len), rw x-is (small_sum w (z.small t b) i.cost_small (omega arith)))

        pub asks_backward : (d : List ℤ) (p : List ℕ) (last : ℕ) (y : ℤ) → state d p last ≡ relaxed N f δ (a + a) s → y ≡ neg_ℤ (here a).cost
            → (h < length d) × (t < length d) × (t < length p) × SFits w (get_or d h (pos 0) +ℤ y)
        asks_backward d p last y e q =
            let i = arc_limits in
            let b : h < 64 = omega (arith, i.head_in) in
            let z' : Sized (B + 1000000) d p = subst (λ (S : State). Sized (B + 1000000) S.labels S.preds) (sym e) (one_sized N f ok δ B s (a + a) first_code z) in
            (omega (arith, z'.labels_len), omega (arith, i.tail_in, z'.labels_len), omega (arith, i.tail_in, z'.preds_len), rw q (small_sum w (z'.small h b) (bounded_neg i.cost_small) (omega arith)))

  -- the labels before arc a, in a round from the state s
  module _ (ok : Relaxable N f) (δ : ℕ) where
    pub turn_sized : (s : State) → Sized 64512000000 s.labels s.preds → (a : ℕ) → a < length held → (d : List ℤ) (p : List ℕ) (last : ℕ) → state d p last ≡ relaxed_all N f δ (a + a) s → Sized 65536000000 d p
    turn_sized s z a k d p last e =
        subst (λ (S : State). Sized 65536000000 S.labels S.preds) (sym e)
        (sized_more (omega (arith, ok.ends.few, arcs_lent [] held)) (all_sized N f ok δ 64512000000 s (a + a) (omega (arith, arcs_lent [] held)) z))

    -- a round that ends with no node
    pub round_none : (d : List ℤ) (p : List ℕ) → length d ≡ 64 → (a : ℕ) → a ≡ length held → (d' : List ℤ) (p' : List ℕ) (last : ℕ) → state d' p' last ≡ relaxed_all N f δ (a + a) (state d p 64) → 64 ≤ last
        → state d' p' 64 ≡ relaxed_all N f δ (codes N) (state d p 64)
    round_none d p l a k d' p' last e h =
        let all : a + a ≡ codes N = omega (arith, arcs_lent [] held) in
        let e' : state d' p' last ≡ relaxed_all N f δ (codes N) (state d p 64) = rw all at e in
        let none : last ≡ 64 = omega (arith, left_node N f ok δ d p l d' p' last e') in
        rw none at e'
