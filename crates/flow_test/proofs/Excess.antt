-- The turns of `excess_of`.
use mathlib.Core.Path.{◌≡◌, refl, sym, ap, ◌∙◌}
use mathlib.Core.List.{List}
use Prim.Native.Nat.{ℕ, suc, ◌+◌, ◌*◌, ◌<◌}
use native.Mathlib.Omega.{arith}
use native.Mathlib.Decide.{ℕ_discrete}
use lib.ListN.{length, get_or, set, length-set}
use lib.Seq.{get_or-set_same, get_or-set_other}
use lib.IntN.{ℤ, pos, neg_ℤ, ◌+ℤ◌, ◌-ℤ◌}
use mir.Syntax.{w64}
use mir.Val.{SFits}
use Rattle.laws.specs.Divergence.{at, at_same, at_other, at_neg, div}
use Rattle.laws.specs.Linear.{lin, given, given4}
use Rattle.laws.specs.Range.{Bounded, bounded_add, bounded_neg, bounded_zero, bounded_more, bounded_fits}
use Rattle.laws.specs.Sum.{sum}
use Rattle.net_model.specs.Network.{Net, nodes, arcs, tail, head, balance, on}
use Rattle.net_model.specs.Struct.{net_from, blank_arc}
use Rattle.net_model.specs.declared.Arc.{Arc}
use Rattle.net_theory.proofs.ArcReads.{arc_at}
use Rattle.flow_test.specs.Excess.{SmallNumbers, Excesses}

at_bounded : (u v B : ℕ) (x : ℤ) → Bounded B x → Bounded B (at u v x)
at_bounded u v B x w = go (ℕ_discrete u v)
  where
    go : Dec (u ≡ v) → Bounded B (at u v x)
    go (yes q) = rw (at_same q x) w
    go (no q) = rw (at_other q x) (bounded_more (omega arith) bounded_zero)

set_at : (l : List ℤ) (i v : ℕ) (y : ℤ) → i < length l → get_or (set l i (get_or l i (pos 0) +ℤ y)) v (pos 0) ≡ get_or l v (pos 0) +ℤ at i v y
set_at l i v y h = go (ℕ_discrete i v)
  where
    same : (p q r : ℤ) → p ≡ q → p +ℤ r ≡ q +ℤ r
    same p q r e = ap (λ z. z +ℤ r) e

    none : (p q : ℤ) → q ≡ pos 0 → p ≡ p +ℤ q
    none p q e = given e (simp lin (omega arith))

    go : Dec (i ≡ v) → get_or (set l i (get_or l i (pos 0) +ℤ y)) v (pos 0) ≡ get_or l v (pos 0) +ℤ at i v y
    go (yes q) = ap (λ w. get_or (set l i (get_or l i (pos 0) +ℤ y)) w (pos 0)) (sym q) ∙ get_or-set_same l i (get_or l i (pos 0) +ℤ y) (pos 0) h ∙ ap (λ w. get_or l w (pos 0) +ℤ y) q ∙ ap (λ z. get_or l v (pos 0) +ℤ z) (sym (at_same q y))
    go (no q) = get_or-set_other l i v (get_or l i (pos 0) +ℤ y) (pos 0) (λ p. q (sym p)) ∙ none (get_or l v (pos 0)) (at i v y) (at_other q y)

-- ---- the excess of each node, after a arcs
module _ (N : Net) (f : List ℕ) where
  pub record ExcessTurn (a : ℕ) (l : List ℤ) : Type 0 where
    pub len : length l ≡ nodes N
    pub is : (v : ℕ) → v < nodes N → get_or l v (pos 0) ≡ balance N v -ℤ div a (tail N) (head N) (on f) v
    pub small : (v : ℕ) → Bounded (1000000000 + a * 2000000) (get_or l v (pos 0))

  pub turn_start : SmallNumbers N f → ExcessTurn 0 N.balances
  turn_start s = record { len = refl; is = λ v k. none (balance N v); small = λ v. bounded_more (omega arith) (s.balances.balance_small v) }
    where
      none : (x : ℤ) → x ≡ x -ℤ (pos 0 -ℤ pos 0)
      none x = simp lin (omega arith)

  module _ (s : SmallNumbers N f) (a : ℕ) (k : a < arcs N) (l : List ℤ) (T : ExcessTurn a l) where
    abbrev first : List ℤ
    first = set l (tail N a) (get_or l (tail N a) (pos 0) +ℤ neg_ℤ (on f a))

    abbrev second : List ℤ
    second = set first (head N a) (get_or first (head N a) (pos 0) +ℤ on f a)

    t_in : tail N a < length l
    t_in = omega (arith, T.len, s.balances.tail_node a k)

    h_in : head N a < length first
    h_in = omega (arith, length-set l (tail N a) (get_or l (tail N a) (pos 0) +ℤ neg_ℤ (on f a)), T.len, s.balances.head_node a k)

    x_small : Bounded 1000000 (on f a)
    x_small = record { up = s.flow_small a k; down = omega arith }

    first_small : (v : ℕ) → Bounded (1000000000 + a * 2000000 + 1000000) (get_or first v (pos 0))
    first_small v = rw (set_at l (tail N a) v (neg_ℤ (on f a)) t_in) (bounded_add (T.small v) (at_bounded (tail N a) v 1000000 (neg_ℤ (on f a)) (bounded_neg x_small)))

    fits_first : (tail N a < length l) × SFits w64 (get_or l (tail N a) (pos 0) +ℤ neg_ℤ (on f a))
    fits_first = (t_in, bounded_fits w64 (1000000000 + a * 2000000 + 1000000) (get_or l (tail N a) (pos 0) +ℤ neg_ℤ (on f a)) (bounded_add (T.small (tail N a)) (bounded_neg x_small)) (omega (arith, s.ends.few)))

    fits_second : (head N a < length first) × SFits w64 (get_or first (head N a) (pos 0) +ℤ on f a)
    fits_second = (h_in, bounded_fits w64 (1000000000 + a * 2000000 + 1000000 + 1000000) (get_or first (head N a) (pos 0) +ℤ on f a) (bounded_add (first_small (head N a)) x_small) (omega (arith, s.ends.few)))

    pub turn_step : ExcessTurn (suc a) second
    turn_step = record {
      len = length-set first (head N a) (get_or first (head N a) (pos 0) +ℤ on f a) ∙ length-set l (tail N a) (get_or l (tail N a) (pos 0) +ℤ neg_ℤ (on f a)) ∙ T.len;
      is = λ v i. chain (get_or second v (pos 0)) (get_or first v (pos 0)) (get_or l v (pos 0)) (balance N v) (sum a (λ i. at (tail N i) v (on f i))) (sum a (λ i. at (head N i) v (on f i))) (at (tail N a) v (on f a)) (at (head N a) v (on f a)) (at (tail N a) v (neg_ℤ (on f a)))
          (set_at first (head N a) v (on f a) h_in) (set_at l (tail N a) v (neg_ℤ (on f a)) t_in) (at_neg (tail N a) v (on f a)) (T.is v i);
      small = λ v. rw (set_at first (head N a) v (on f a) h_in) (bounded_more (omega arith) (bounded_add (first_small v) (at_bounded (head N a) v 1000000 (on f a) x_small)));
    }
      where
        chain : (z y x b p q u w n : ℤ) → z ≡ y +ℤ w → y ≡ x +ℤ n → n ≡ neg_ℤ u → x ≡ b -ℤ (p -ℤ q) → z ≡ b -ℤ ((p +ℤ u) -ℤ (q +ℤ w))
        chain z y x b p q u w n c d e g = given4 c d e g (simp lin (omega arith))

  pub turn_done : SmallNumbers N f → (a : ℕ) (l : List ℤ) → a ≡ arcs N → ExcessTurn a l → Excesses N f l
  turn_done s a l e T = record {
    len = T.len;
    is = λ v i. T.is v i ∙ ap (λ m. balance N v -ℤ div m (tail N) (head N) (on f) v) e;
    small = λ v. bounded_more (omega (arith, s.ends.few)) (T.small v);
  }

-- a turn as the code takes it: x = −f(a) more at the tail t, then y = f(a) more at the head h
module _ (bs : List ℤ) (held : List Arc) (f : List ℕ) (s : SmallNumbers (net_from bs held) f) (a : ℕ) (k : a < length held) (l : List ℤ) (T : ExcessTurn (net_from bs held) f a l) (t : ℕ) (arc : t ≡ (get_or held a blank_arc).tail) (x : ℤ) (x-is : x ≡ neg_ℤ (on f a)) where
  abbrev N : Net
  N = net_from bs held

  t-is : t ≡ tail N a
  t-is = arc ∙ (arc_at bs held a k).tail_is

  pub asks_first : (t < length l) × SFits w64 (get_or l t (pos 0) +ℤ x)
  asks_first = rw (t-is, x-is) (fits_first N f s a ((arc_at bs held a k).inside) l T)

  module _ (l1 : List ℤ) (e1 : l1 ≡ set l t (get_or l t (pos 0) +ℤ x)) (h : ℕ) (end : h ≡ (get_or held a blank_arc).head) (y : ℤ) (y-is : y ≡ on f a) where
    h-is : h ≡ head N a
    h-is = end ∙ (arc_at bs held a k).head_is

    e1' : l1 ≡ set l (tail N a) (get_or l (tail N a) (pos 0) +ℤ neg_ℤ (on f a))
    e1' = rw (t-is, x-is) at e1

    pub asks_second : (h < length l1) × SFits w64 (get_or l1 h (pos 0) +ℤ y)
    asks_second = rw (h-is, y-is, e1') (fits_second N f s a ((arc_at bs held a k).inside) l T)

    pub both_done : (l2 : List ℤ) → l2 ≡ set l1 h (get_or l1 h (pos 0) +ℤ y) → ExcessTurn N f (suc a) l2
    both_done l2 e2 = rw (e2, h-is, y-is, e1') (turn_step N f s a ((arc_at bs held a k).inside) l T)
