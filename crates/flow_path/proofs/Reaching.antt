-- The steps of a search: both codes of an arc, and one more arc of a round.
use mathlib.Core.Path.{◌≡◌, subst}
use mathlib.Core.List.{List}
use mathlib.Core.Bool.{Bool, true, false, cond}
use Prim.Native.Nat.{ℕ, suc, ◌+◌, ◌≤◌, ◌<◌}
use native.Mathlib.Omega.{arith}
use native.Mathlib.Numerals.{add-one}
use lib.Dec.{ltb}
use lib.ListN.{get_or}
use Rattle.net_model.specs.Network.{Net, arcs}
use Rattle.net_model.specs.Residual.{codes, src, dst}
use Rattle.net_theory.specs.Reach.{Spread, reaches_new, Turn}
use Rattle.net_theory.specs.FreeArcs.{goes}
use Rattle.net_theory.specs.Limits.{SmallEnds}
use Rattle.net_theory.proofs.ArcReads.{ArcAt}
use Rattle.net_model.specs.declared.Arc.{Arc}
use Rattle.net_theory.proofs.Codes.{even_code, odd_code, even_arc, odd_arc, src_in, dst_in}
use Rattle.net_theory.proofs.Reach.{turn_step}
use Rattle.flow_path.specs.Reaching.{SpreadArc}

pub spread_few : (on : Bool) (rank via : List ℕ) (count u v c : ℕ) (rank' via' : List ℕ) (r : ℕ) → Spread on rank via count u v c rank' via' r → r ≤ suc count
spread_few on rank via count u v c rank' via' r w = go (reaches_new on rank u v) w.counts
  where
    go : (b : Bool) → r ≡ cond b (suc count) count → r ≤ suc count
    go true e = omega arith
    go false e = omega arith

-- the state within a round over the free arcs from `from` on
abbrev pub TurnOf : Net → List ℕ → List Bool → ℕ → ℕ → List ℕ → List ℕ → ℕ → ℕ → ℕ → Type 0
TurnOf N f free s from rank via count₀ count i = Turn 64 (from + from) (codes N) (src N) (dst N) (goes N f free) s rank via count₀ count i

-- ---- both codes of an arc
module _ (N : Net) (f : List ℕ) (free : List Bool) (a : ℕ) (rank via : List ℕ) (count : ℕ) where
  pub arc_tried : (x : Arc) → ArcAt N a x → (u v : ℕ) → u ≡ x.tail → v ≡ x.head → (mid_rank mid_via : List ℕ) (mid : ℕ) (rank' via' : List ℕ) (r : ℕ) → get_or free a false ≡ true
      → Spread (ltb (get_or f a 0) x.up) rank via count u v (a + a) mid_rank mid_via mid
      → Spread (ltb x.low (get_or f a 0)) mid_rank mid_via mid v u (a + a + 1) rank' via' r
      → SpreadArc N f free a rank via count rank' via' r
  arc_tried x at u v u_is v_is mid_rank mid_via mid rank' via' r e p q = record {
    mid_rank = mid_rank;
    mid_via = mid_via;
    mid = mid;
    forth = rw (even_code a, even_arc a, e, ← at.tail_is, ← at.head_is, ← at.up_is, ← u_is, ← v_is) p;
    back = rw (odd_code a, odd_arc a, e, ← at.tail_is, ← at.head_is, ← at.low_is, ← u_is, ← v_is) (rw add-one at q);
  }

  -- one more arc of a round
  pub turn_arc : (s from count₀ : ℕ) (rank' via' : List ℕ) (r : ℕ) → SmallEnds N → from ≤ a → a < arcs N → TurnOf N f free s from rank via count₀ count (a + a)
      → SpreadArc N f free a rank via count rank' via' r → TurnOf N f free s from rank' via' count₀ r (a + 1 + (a + 1))
  turn_arc s from count₀ rank' via' r ok h l t w =
      let e : suc (suc (a + a)) ≡ a + 1 + (a + 1) = omega arith in
      let forth = turn_step 64 (from + from) (codes N) (src N) (dst N) (goes N f free) s rank via count₀ count (a + a) t (omega arith) (omega arith) (src_in N ok (a + a) (omega arith)) (dst_in N ok (a + a) (omega arith)) w.mid_rank w.mid_via w.mid w.forth in
      subst (λ (i : ℕ). TurnOf N f free s from rank' via' count₀ r i) e
      (turn_step 64 (from + from) (codes N) (src N) (dst N) (goes N f free) s w.mid_rank w.mid_via count₀ w.mid (suc (a + a)) forth (omega arith) (omega arith) (src_in N ok (suc (a + a)) (omega arith)) (dst_in N ok (suc (a + a)) (omega arith)) rank' via' r w.back)
