-- That sums of costs fit in 64 bits, and the marks, arc by arc.
use mathlib.Core.Path.{◌≡◌, sym, ◌∙◌}
use mathlib.Core.Logic.{◌≢◌}
use mathlib.Core.Bool.{Bool, true, false}
use mathlib.Core.List.{List, []}
use Prim.Native.Nat.{ℕ, ◌+◌, ◌*◌, ◌≤◌, ◌<◌}
use native.Mathlib.Omega.{arith}
use native.Mathlib.Numerals.{add-one}
use lib.Dec.{eqb}
use borrow.Author.Tests.{eqb-true, eqb-false}
use lib.ListN.{length, get_or, set}
use lib.IntN.{ℤ, pos, ◌+ℤ◌, ◌-ℤ◌, ◌*ℤ◌}
use mir.Syntax.{w64}
use mir.Val.{SFits, to_z, of_z}
use mir.Facts.{to_z-of_z}
use Rattle.laws.specs.Range.{Bounded, bounded_add, bounded_mul, bounded_fits, zero_of, zero_bits}
use Rattle.laws.specs.Sum.{sum, sum_within}
use Rattle.laws.specs.Padded.{set_more}
use Rattle.net_model.specs.Network.{Net, arcs, cost, on}
use Rattle.net_model.specs.Struct.{net_from, blank_arc}
use Rattle.net_model.specs.declared.Arc.{Arc}
use Rattle.net_theory.specs.ReducedCost.{reduced}
use Rattle.net_theory.specs.Limits.{SmallEnds, SmallCosts}
use Rattle.net_theory.proofs.ArcReads.{arc_at}
use Rattle.flow_cost.specs.Costs.{Summable, SmallLabels, MarksTight}

module _ (held : List Arc) where
  abbrev N : Net
  N = net_from [] held

  abbrev here : ℕ → Arc
  here a = get_or held a blank_arc

  pub cost_small : SmallCosts N → (a : ℕ) → a < length held → Bounded 1000000 (here a).cost
  cost_small s a k = rw (arc_at [] held a k).cost_is (s.cost_small a (arc_at [] held a k).inside)

  -- ---- the sum of the first costs, and one more
  module _ (f : List ℕ) (s : Summable N f) (a : ℕ) (k : a < length held) where
    pub asks_cost : Bounded 1000000 (here a).cost × (get_or f a 0 ≤ 1000000)
    asks_cost = (cost_small s.costs a k, s.flow_small a (arc_at [] held a k).inside)

    module _ (x y : ℤ) (p : x ≡ sum a (λ i. cost N i *ℤ on f i)) (q : y ≡ (here a).cost *ℤ on f a) where
      y-is : y ≡ cost N a *ℤ on f a
      y-is = rw (arc_at [] held a k).cost_is at q

      each : (i : ℕ) → i < arcs N → Bounded 1000000000000 (cost N i *ℤ on f i)
      each i h = bounded_mul (s.costs.cost_small i h) (record { up = s.flow_small i h; down = omega arith })

      pub more_fits : SFits w64 (x +ℤ y)
      more_fits =
          let h : a < arcs N = (arc_at [] held a k).inside in
          rw (p, y-is) (bounded_fits w64 (a * 1000000000000 + 1000000000000) _ (bounded_add (sum_within a 1000000000000 (λ i. cost N i *ℤ on f i) (λ i j. each i (omega arith))) (each a h)) (omega (arith, s.few)))

      pub sum_more : to_z w64 (of_z w64 (x +ℤ y)) ≡ sum (a + 1) (λ i. cost N i *ℤ on f i)
      sum_more = rw add-one (to_z-of_z more_fits ∙ rw (p, y-is))

  -- ---- one more arc marked
  module _ (e : SmallEnds N) (s : SmallCosts N) (d : List ℤ) (l : SmallLabels d) (a : ℕ) (k : a < length held) where
    pub asks_reduced : Bounded 1000000 (here a).cost × ((here a).tail < 64) × ((here a).head < 64) × SmallLabels d
    asks_reduced =
        let h : a < arcs N = (arc_at [] held a k).inside in
        (cost_small s a k, omega (arith, (arc_at [] held a k).tail_is, e.tail_in a h), omega (arith, (arc_at [] held a k).head_is, e.head_in a h), l)

    module _ (r : ℤ) (is : r ≡ ((here a).cost +ℤ get_or d (here a).tail (pos 0)) -ℤ get_or d (here a).head (pos 0)) (f : SFits w64 r) where
      r-is : r ≡ reduced N (λ v. get_or d v (pos 0)) a
      r-is = rw ((arc_at [] held a k).cost_is, (arc_at [] held a k).tail_is, (arc_at [] held a k).head_is) at is

      pub marked_more : (marks : List Bool) → a < length marks → MarksTight N (λ v. get_or d v (pos 0)) marks a → MarksTight N (λ v. get_or d v (pos 0)) (set marks a (eqb (of_z w64 r) 0)) (a + 1)
      marked_more marks i m = record {
        marked = set_more (λ i b. b ≡ true → reduced N (λ v. get_or d v (pos 0)) i ≡ pos 0) marks a _ false i m.marked (λ q. sym r-is ∙ zero_of f (eqb-true _ 0 q));
        unmarked = set_more (λ i b. b ≡ false → reduced N (λ v. get_or d v (pos 0)) i ≢ pos 0) marks a _ false i m.unmarked (λ q z. eqb-false _ 0 q (zero_bits _ (r-is ∙ z)));
      }
